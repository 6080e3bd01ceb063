-- The first byte that is no blank is where the field begins.
use Rattle.std.proofs.Common.{◌≡◌, ◌-◌, ◌≤◌, length, drop, arith, sym, ◌∙◌, refl}
use Rattle.std.specs.List.{prefix_len}
use Rattle.std.proofs.lemmas.List.{drop_all, length-drop, take_all}
use Rattle.std.proofs.lemmas.List.Sums.{prefix_len_is}
use Rattle.bw_csv.specs.Rows.{is_blank}
use Rattle.bw_csv.proofs.field.without_front_blanks.Goals as goal

pub returns-then-not-is_blank : goal.returns-then-not-is_blank
returns-then-not-is_blank c =
    let field = c.args.field.now in
    let i = c.loop-i.i in
    let size : length (drop i field) ≤ length field - i = omega (arith, length-drop i field) in
    let blanks : prefix_len is_blank field ≡ i =
    prefix_len_is is_blank field i 0 (omega arith) c.loop-i.invariant (λ _. sym c.is_blank.ensures ∙ c.if-not-is_blank.true) in
    rw (take_all (length field - i) (drop i field) size, blanks) refl

pub returns : goal.returns
returns c =
    let field = c.args.field.now in
    let i = c.loop-i.i in
    let blanks : prefix_len is_blank field ≡ i = prefix_len_is is_blank field i 0 (omega arith) c.loop-i.invariant (λ h. absurd (omega arith)) in
    rw blanks (sym (drop_all i field (omega arith)))
