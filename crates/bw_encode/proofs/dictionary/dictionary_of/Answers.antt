-- Each turn counts and codes one row more.
use Rattle.std.proofs.Common.{rules, ◌≡◌, ◌∙◌, ◌<◌, ◌≤◌, All, Contains, length, replicate, take, sym, ap, subst, arith, List, ℕ, map, refl, Some}
use Rattle.std.proofs.lemmas.List.{take_all, length-map}
use Rattle.std.proofs.lemmas.List.Sorted.{All-permutation, length_permutation}
use Rattle.bw_encode.specs.Fields.{text_under, texts_under}
use Rattle.bw_encode.specs.Dictionary.{occurrences}
use Rattle.bw_encode.specs.FieldSet.{fields_in}
use Rattle.bw_encode.proofs.CountLemmas.{code_is, counts_new, counts_none, count_bounded, coded_row}
use Rattle.bw_encode.proofs.SetLemmas.{placed_size}
use Rattle.bw_encode.proofs.dictionary.dictionary_of.Goals as goal

pub loop-row-init : goal.loop-row-init
loop-row-init c = let size : c.len.result ≡ length c.in_ok-fields.field-0.fields.items = search rules in record {
  counted = c.in_ok-resize.ensures.items
      ∙ rw (c.new-counts.ensures.items, c.new-counts.ensures.len, size)
      (counts_new (length c.in_ok-fields.field-0.fields.items) ∙ ap (λ n. replicate n 0) (sym (length-map c.in_ok-fields.field-0.fields.items text_under))
      ∙ counts_none (texts_under c.in_ok-fields.field-0.fields.items));
  coded = rw c.in_ok-codes.ensures.items refl;
}

pub index-code-requires : goal.index-code-requires
index-code-requires c =
    let lt : c.loop-row.row < length c.in_ok-places.places.items = omega arith in
    let at = code_is _ _ _ _ _ c.in_ok-places.ensures.places (c.in_ok-fields.ensures.ranks ∙ ap (map Some) (ap texts_under c.deref.ensures.value ∙ c.in_ok-firsts.ensures)) c.loop-row.row c.index.result.now 0 lt c.index.ensures in
    let low = at.0 in
    omega arith

pub index_mut-requires : goal.index_mut-requires
index_mut-requires c =
    let lt : c.loop-row.row < length c.in_ok-places.places.items = omega arith in
    let at = code_is _ _ _ _ _ c.in_ok-places.ensures.places (c.in_ok-fields.ensures.ranks ∙ ap (map Some) (ap texts_under c.deref.ensures.value ∙ c.in_ok-firsts.ensures)) c.loop-row.row c.index.result.now c.index-code.result.now lt c.index.ensures in
    let low = (at.1 c.index-code.ensures).0 in
    let size : length c.loop-row.counts.items ≡ length (texts_under c.in_ok-fields.field-0.fields.items) =
    ap length c.loop-row.invariant.counted ∙ length-map (texts_under c.in_ok-fields.field-0.fields.items) (occurrences (take c.loop-row.row c.args.column.now)) in
    omega arith

pub overflow_add-index_mut : goal.overflow_add-index_mut
overflow_add-index_mut c =
    let lt : c.loop-row.row < length c.in_ok-places.places.items = omega arith in
    let at = code_is _ _ _ _ _ c.in_ok-places.ensures.places (c.in_ok-fields.ensures.ranks ∙ ap (map Some) (ap texts_under c.deref.ensures.value ∙ c.in_ok-firsts.ensures)) c.loop-row.row c.index.result.now c.index-code.result.now lt c.index.ensures in
    let size = placed_size _ _ _ c.in_ok-places.ensures.places in
    let small : c.index_mut.result.now ≤ c.loop-row.row =
    count_bounded c.args.column.now (texts_under c.in_ok-fields.field-0.fields.items) c.loop-row.counts.items c.loop-row.codes.items c.loop-row.row c.index-code.result.now _ c.loop-row.invariant
    (at.1 c.index-code.ensures).0 c.index_mut.ensures.value in
    omega (arith, c.requires)

pub loop-row-preserved : goal.loop-row-preserved
loop-row-preserved c =
    let lt : c.loop-row.row < length c.in_ok-places.places.items = omega arith in
    let at = code_is _ _ _ _ _ c.in_ok-places.ensures.places (c.in_ok-fields.ensures.ranks ∙ ap (map Some) (ap texts_under c.deref.ensures.value ∙ c.in_ok-firsts.ensures)) c.loop-row.row c.index.result.now c.index-code.result.now lt c.index.ensures in
    let code = at.1 c.index-code.ensures in
    let size = placed_size _ _ _ c.in_ok-places.ensures.places in
    let in' : c.loop-row.row < length c.args.column.now = omega arith in
    rw c.in_ok-push.ensures.items (coded_row c.args.column.now (texts_under c.in_ok-fields.field-0.fields.items) c.loop-row.counts.items c.loop-row.codes.items c.loop-row.row c.index-code.result.now
    c.index_mut.result.now c.loop-row.invariant c.in_ok-fields.ensures.distinct in' code.0 code.1 c.index_mut.ensures.value)

pub returns-clause-short : goal.returns-clause-short
returns-clause-short c =
    let size : length (texts_under c.in_ok-fields.field-0.fields.items) ≡ length c.in_ok-fields.field-0.fields.items = length-map c.in_ok-fields.field-0.fields.items text_under in
    let same = length_permutation _ _ c.in_ok-fields.ensures.same in
    let first : length (texts_under c.deref.result.now) ≡ length (fields_in c.insert_fields.new.set) = ap length (ap texts_under c.deref.ensures.value ∙ c.in_ok-firsts.ensures) in
    let short = c.in_ok-places.ensures.short in
    omega (arith, size, same, first, short)

pub returns-clause-encoded : goal.returns-clause-encoded
returns-clause-encoded c =
    let fields : List (List ℕ) = c.args.column.now in
    let size = placed_size _ _ _ c.in_ok-places.ensures.places in
    let whole : take c.loop-row.row fields ≡ fields = take_all c.loop-row.row fields (omega arith) in
    record {
      spelled = c.loop-row.invariant.coded ∙ ap (map Some) whole;
      ascending = c.in_ok-fields.ensures.ascending;
      used = All-permutation (Contains c.args.column.now) _ _ c.in_ok-fields.ensures.same
          (subst (All (Contains c.args.column.now)) (sym (ap texts_under c.deref.ensures.value ∙ c.in_ok-firsts.ensures)) c.in_ok-places.ensures.used);
      counted = c.loop-row.invariant.counted ∙ ap (λ (xs : List (List ℕ)). map (occurrences xs) (texts_under c.in_ok-fields.field-0.fields.items)) whole;
    }
