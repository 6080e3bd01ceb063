-- Sorting only moves entries.
use Rattle.std.proofs.Common.{◌∙◌, sym, ap, subst}
use Rattle.std.specs.List.Sorted.{IsPermutation}
use Rattle.std.proofs.lemmas.List.Sorted.{All-permutation, IsPermutation-map}
use Rattle.bw_encode.specs.Dictionary.{IsAscending}
use Rattle.bw_encode.specs.Fields.{texts_under}
use Rattle.bw_encode.specs.FieldSet.{AreDistinct}
use Rattle.bw_encode.specs.Ranked.{IsPrefix, entries_bytes, entry_bytes}
use Rattle.bw_encode.proofs.RankLemmas.{ascending_entries, distinct_after, own_places, ranked_all}
use Rattle.bw_encode.proofs.ranked.sort_fields.Goals as goal

pub ranks_of-requires-clause-own : goal.ranks_of-requires-clause-own
ranks_of-requires-clause-own c =
    let distinct : AreDistinct (entries_bytes c.in_ok-entries.entries.items) = subst AreDistinct (sym c.in_ok-entries.ensures.bytes) c.requires.distinct in
    rw c.deref.ensures.value (own_places c.in_ok-entries.entries.items c.sort_unstable.new.self.items c.in_ok-entries.ensures.placed distinct c.sort_unstable.ensures.permutation)

pub returns-clause-ascending : goal.returns-clause-ascending
returns-clause-ascending c =
    let distinct : AreDistinct (entries_bytes c.in_ok-entries.entries.items) = subst AreDistinct (sym c.in_ok-entries.ensures.bytes) c.requires.distinct in
    subst IsAscending (sym (c.in_ok-fields.ensures ∙ ap entries_bytes c.deref-2.ensures.value))
    (ascending_entries c.sort_unstable.new.self.items c.sort_unstable.ensures.sorted
    (All-permutation (λ entry. IsPrefix entry.bytes.now entry.prefix) c.in_ok-entries.entries.items c.sort_unstable.new.self.items c.sort_unstable.ensures.permutation c.in_ok-entries.ensures.prefixed)
    (distinct_after c.in_ok-entries.entries.items c.sort_unstable.new.self.items c.sort_unstable.ensures.permutation distinct))

pub returns-clause-distinct : goal.returns-clause-distinct
returns-clause-distinct c =
    let distinct : AreDistinct (entries_bytes c.in_ok-entries.entries.items) = subst AreDistinct (sym c.in_ok-entries.ensures.bytes) c.requires.distinct in
    subst AreDistinct (sym (c.in_ok-fields.ensures ∙ ap entries_bytes c.deref-2.ensures.value))
    (distinct_after c.in_ok-entries.entries.items c.sort_unstable.new.self.items c.sort_unstable.ensures.permutation distinct)

pub returns-clause-same : goal.returns-clause-same
returns-clause-same c =
    let moved = IsPermutation-map entry_bytes c.in_ok-entries.entries.items c.sort_unstable.new.self.items c.sort_unstable.ensures.permutation in
    subst (λ xs. IsPermutation xs (texts_under c.in_ok-fields.fields.items)) c.in_ok-entries.ensures.bytes
    (subst (IsPermutation (entries_bytes c.in_ok-entries.entries.items)) (sym (c.in_ok-fields.ensures ∙ ap entries_bytes c.deref-2.ensures.value)) moved)

pub returns-clause-ranks : goal.returns-clause-ranks
returns-clause-ranks c =
    let ranks = rw c.deref.ensures.value at c.in_ok-ranks.ensures in
    rw (c.in_ok-fields.ensures ∙ ap entries_bytes c.deref-2.ensures.value, ← c.in_ok-entries.ensures.bytes)
    (ranked_all c.in_ok-entries.entries.items c.sort_unstable.new.self.items c.in_ok-ranks.ranks.items c.in_ok-entries.ensures.placed c.sort_unstable.ensures.permutation ranks)
