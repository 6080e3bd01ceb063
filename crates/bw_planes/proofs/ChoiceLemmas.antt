-- The greatest or the least of the codes in some lanes, found from the top bit down among the lanes
-- that are left.
use Rattle.std.proofs.Common.{◌≡◌, ◌∙◌, refl, sym, ap, ℕ, suc, ◌+◌, ◌-◌, ◌*◌, ◌^◌, ◌<◌, Bool, true}
use Rattle.std.proofs.Common.{false, not, cond, ◌&&◌, List, None, filter, map, length, arith}
use Rattle.std.specs.List.{list_all, reduce}
use lib.Lanes.{zip2}
use mir.Val.{bool_byte}
use Rattle.bw_lanes.specs.Lanes.{lanes_of_words}
use Rattle.bw_lanes.proofs.WordLemmas.{length-lanes_of_words}
use Rattle.bw_model.specs.Code.{has_bit}
use Rattle.bw_model.specs.Selection.{selected_items}
use Rattle.bw_segment.proofs.SelectedLemmas.{is_none, selected_where, none_selected, all_selected}
use Rattle.bw_segment.proofs.DescentLemmas.{IsDescended, choice, sought, next_descended}
use Rattle.bw_segment.proofs.DescentLemmas.{descended_as, descent_begins, none_chosen}
use Rattle.bw_planes.specs.Planes.{planes_codes}
use Rattle.bw_planes.proofs.CodeLemmas.{codes_long, codes_small}

of_either : (f : List ℕ → List ℕ) (first : Bool) (a b : List ℕ) → cond first (f a) (f b) ≡ f (cond first a b)
of_either f true a b = refl
of_either f false a b = refl

bit_denotes : (b : Bool) → bool_byte b ≡ cond b 1 0
bit_denotes true = refl
bit_denotes false = refl

module _ (g : Bool) (width : ℕ) (bytes lanes : List ℕ) where
  abbrev codes_in : List ℕ → List ℕ
  codes_in words = selected_items (lanes_of_words words) (planes_codes width bytes)

  no_codes : (words : List ℕ) → length words ≡ 8 → is_none (codes_in words) ≡ list_all not (lanes_of_words words)
  no_codes words eight = sym (none_selected (lanes_of_words words) (planes_codes width bytes) (omega (arith, codes_long width bytes, length-lanes_of_words words)))

  -- the codes in the lanes that are left after this many places have the same top bits, and what is
  -- chosen of all is one of them
  abbrev pub IsLeft : List ℕ → ℕ → ℕ → Type 0
  IsLeft left place code = IsDescended g (codes_in lanes) (codes_in left) (width - place) place code

  pub nothing_chosen : length lanes ≡ 8 → list_all not (lanes_of_words lanes) ≡ true → None ≡ reduce (choice g) (codes_in lanes)
  nothing_chosen eight none = none_chosen (choice g) (codes_in lanes) (no_codes lanes eight ∙ none)

  pub all_left : length lanes ≡ 8 → list_all not (lanes_of_words lanes) ≡ false → IsLeft lanes 0 0
  all_left eight some =
      let small = all_selected (λ code. code < 2 ^ width) (lanes_of_words lanes) (planes_codes width bytes) (codes_small width bytes) in
      descended_as g _ _ _ width _ 0 0 0 refl (omega arith) refl (descent_begins g (codes_in lanes) width small (no_codes lanes eight ∙ some))

  -- one bit further down: the lanes with the bit that is sought, or all if there are none of
  -- these
  pub next_left : (some : Bool) (left found other : List ℕ) (plane : List Bool) (place code head : ℕ) → place < width → length found ≡ 8
      → lanes_of_words found ≡ zip2 (λ l p. l && cond g p (not p)) (lanes_of_words left) plane
      → plane ≡ map (λ n. has_bit n (width - 1 - place)) (planes_codes width bytes) → list_all not (lanes_of_words found) ≡ not some
      → other ≡ cond some found left → head ≡ 2 * code + bool_byte (cond some g (not g)) → IsLeft left place code → IsLeft other (place + 1) head
  next_left some left found other plane place code head lt eight is plane_is none same_left same_code so_far =
      let bit = width - 1 - place in
      let are : codes_in found ≡ filter (sought g bit) (codes_in left) =
      ap (λ l. selected_items l (planes_codes width bytes)) (is ∙ ap (zip2 (λ l p. l && cond g p (not p)) (lanes_of_words left)) plane_is)
      ∙ selected_where (λ b. cond g b (not b)) (λ n. has_bit n bit) (lanes_of_words left) (planes_codes width bytes) in
      let before = descended_as g _ (codes_in left) _ (width - place) (suc bit) place code _ refl (omega arith) refl so_far in
      descended_as g _ _ _ bit _ (place + 1) _ head
      (ap (λ l. cond some l (codes_in left)) (sym are) ∙ of_either codes_in some found left ∙ ap codes_in (sym same_left)) (omega arith) (sym (same_code ∙ ap (λ k. 2 * code + k) (bit_denotes (cond some g (not g)))))
      (next_descended g (codes_in lanes) (codes_in left) bit place code some (ap is_none (sym are) ∙ no_codes found eight ∙ none) before)
