-- One more skip, and one more line KEEP.
use Rattle.std.proofs.Common.{◌≡◌, ◌≢◌, ◌∙◌, refl, sym, ap, ap₂, ℕ, suc, false, not, ◌&&◌}
use Rattle.std.proofs.Common.{Bool, List, [], ◌∷◌, length, Result, Ok}
use Rattle.std.proofs.Math.Dec.{eqb, eqb-suc-zero}
use Rattle.bw_model.specs.declared.fault.Fault.{Fault}
use Rattle.bw_model.specs.Fault.{at_line, refused_if}
use Rattle.bw_diagram.specs.Facts.{Facts}
use Rattle.bw_cert_text.specs.declared.lines.BodyLine.{BodyLine}
use Rattle.bw_cert_text.specs.declared.lines.Entry.{Entry}
use Rattle.bw_cert_text.specs.declared.lines.Entry.TheVariants as line_of
use Rattle.bw_cert_text.specs.declared.lines.EdgeProducts.{EdgeProducts}
use Rattle.bw_cert_text.specs.declared.lines.Keep.{Keep}
use Rattle.bw_cert_rules.specs.declared.edge.Edge.{Edge}
use Rattle.bw_cert_rules.specs.Join.{keeps_by_skip, keeps_by_skips, is_valid_keep}
use Rattle.bw_cert_rules.specs.Known.{KnownNodes, with_node}
use Rattle.bw_cert_rules.specs.Walk.{WalkState, keep_in, by_keep, keeps_taken}

-- a list that ends, or doesn't
pub skips_without_pair : (facts : Facts) (keep : Keep) (skips edges : List Edge) (edge : Edge) (pairs : List EdgeProducts) → skips ≡ edge ∷ edges → pairs ≡ [] → keeps_by_skips facts keep skips pairs ≡ false
unfolding keeps_by_skips
skips_without_pair facts keep skips edges edge pairs some none = ap₂ (keeps_by_skips facts keep) some none

pub skip_and_more : (facts : Facts) (keep : Keep) (skips edges : List Edge) (edge : Edge) (pairs more : List EdgeProducts) (rows : EdgeProducts) → skips ≡ edge ∷ edges → pairs ≡ rows ∷ more →
    keeps_by_skips facts keep skips pairs ≡ (keeps_by_skip facts keep edge rows && keeps_by_skips facts keep edges more)
unfolding keeps_by_skips
skip_and_more facts keep skips edges edge pairs more rows some pair = ap₂ (keeps_by_skips facts keep) some pair

pub no_skips : (facts : Facts) (keep : Keep) (skips : List Edge) (pairs : List EdgeProducts) → skips ≡ [] → keeps_by_skips facts keep skips pairs ≡ eqb (length pairs) 0
unfolding keeps_by_skips
no_skips facts keep skips pairs none = ap (λ es. keeps_by_skips facts keep es pairs) none ∙ at pairs
  where
    at : (pairs : List EdgeProducts) → keeps_by_skips facts keep [] pairs ≡ eqb (length pairs) 0
    at [] = refl
    at (rows ∷ more) = sym (eqb-suc-zero (length more))

-- a line KEEP, whose test says whether it is kept
pub keep_step : (facts : Facts) (through : KnownNodes) (edges : List Edge) (least : ℕ) (kept : KnownNodes) (lines more : List BodyLine) (line : BodyLine) (keep : Keep) (valid : Bool) → lines ≡ line ∷ more → line.entry ≡ line_of.Keep keep →
    is_valid_keep facts through edges least keep ≡ valid →
    keeps_taken facts through edges least kept lines ≡ refused_if (not valid) (at_line 608 line.line) (keeps_taken facts through edges (suc keep.register) (with_node kept keep.register keep.node) more)
unfolding keeps_taken
keep_step facts through edges least kept lines more line keep valid there entry is =
    let next : Keep → Result WalkState Fault = λ keep. refused_if (not (is_valid_keep facts through edges least keep)) (at_line 608 line.line)
    (keeps_taken facts through edges (suc keep.register) (with_node kept keep.register keep.node) more) in
    ap (keeps_taken facts through edges least kept) there
    ∙ ap (λ e. by_keep (keep_in e) (Ok (record { known = kept; rest = line ∷ more })) next) entry
    ∙ ap (λ b. refused_if (not b) (at_line 608 line.line) (keeps_taken facts through edges (suc keep.register) (with_node kept keep.register keep.node) more)) is

-- the end of such lines: no lines, or another one
pub no_more_lines : (facts : Facts) (through : KnownNodes) (edges : List Edge) (least : ℕ) (kept : KnownNodes) (lines : List BodyLine) → lines ≡ [] → keeps_taken facts through edges least kept lines ≡ Ok (record { known = kept; rest = lines })
unfolding keeps_taken
no_more_lines facts through edges least kept lines none = ap (keeps_taken facts through edges least kept) none ∙ ap (λ rest. Ok (record { known = kept; rest = rest })) (sym none)

pub no_more_keeps : (facts : Facts) (through : KnownNodes) (edges : List Edge) (least : ℕ) (kept : KnownNodes) (lines more : List BodyLine) (line : BodyLine) → lines ≡ line ∷ more → ((keep : Keep) → line.entry ≢ line_of.Keep keep) →
    keeps_taken facts through edges least kept lines ≡ Ok (record { known = kept; rest = lines })
unfolding keeps_taken
no_more_keeps facts through edges least kept lines more line there other =
    ap (keeps_taken facts through edges least kept) there ∙ at line.entry refl ∙ ap (λ rest. Ok (record { known = kept; rest = rest })) (sym there)
  where
    at : (entry : Entry) → line.entry ≡ entry → by_keep (keep_in entry) (Ok (record { known = kept; rest = line ∷ more })) (λ keep. refused_if (not (is_valid_keep facts through edges least keep)) (at_line 608 line.line)
        (keeps_taken facts through edges (suc keep.register) (with_node kept keep.register keep.node) more)) ≡ Ok (record { known = kept; rest = line ∷ more })
    at (line_of.Keep keep) is = absurd (other keep is)
    at _ is = refl
