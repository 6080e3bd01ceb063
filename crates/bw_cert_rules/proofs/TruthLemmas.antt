-- The pair of a condition tells its truth under every assignment.
use Rattle.std.proofs.Common.{◌≡◌, ◌∙◌, refl, sym, ap, subst, ℕ, Bool, true, ◌&&◌, List, [], ◌∷◌}
use Rattle.std.proofs.Common.{map, length, Ok}
use Rattle.std.specs.List.{list_all}
use Rattle.std.proofs.lemmas.List.Folds.{list_all-map}
use Rattle.std.proofs.lemmas.Simd.{map-map}
use Rattle.bw_model.specs.declared.cond.Op.{Op}
use Rattle.bw_model.specs.declared.cond.Op.TheVariants.{Eq, Le, Ge}
use Rattle.bw_model.specs.declared.cond.Operand.{Operand}
use Rattle.bw_model.specs.declared.cond.Truth.{Truth}
use Rattle.bw_model.specs.declared.cond.Truth.TheVariants.{Yes}
use Rattle.bw_model.specs.declared.cond.Cond.{Cond, Cond-F, fold-roll-Cond, roll-Cond, ind-Cond}
use Rattle.bw_model.specs.declared.cond.Cond.TheFolds.{map-Cond}
use Rattle.bw_model.specs.Cond.{operand_value, is_within, truth_of, truth_step, names_within}
use Rattle.bw_model.specs.Cond.{within_step}
use Rattle.bw_model.specs.Row.{Value}
use Rattle.bw_model.specs.Truth.{compare_values, least, in_list, any_of}
use Rattle.bw_model.specs.Variable.{Assignment, row_of}
use Rattle.bw_model.proofs.BitsLemmas.{both}
use Rattle.bw_diagram.specs.References.{HaveStatedValues}
use Rattle.bw_diagram.specs.Facts.{Facts}
use Rattle.bw_cert_text.specs.declared.lines.BodyLine.{BodyLine}
use Rattle.bw_cert_rules.specs.Rows.{TruthPair}
use Rattle.bw_model.specs.declared.junction.Junction.{Junction}
use Rattle.bw_model.specs.declared.junction.Junction.TheVariants.{All, Any}
use Rattle.bw_cert_rules.specs.Comparison.{fixed_pair, comparison}
use Rattle.bw_cert_rules.specs.Meaning.{Tells}
use Rattle.bw_cert_rules.specs.Pair.{Reading, by_line, is_null_test, negated_pair, tested_pair}
use Rattle.bw_cert_rules.specs.Pair.{joined_parts, equations, pair_step, pair_of}
use Rattle.bw_cert_rules.proofs.ComparisonLemmas.{tells_so, fixed-tells, comparison-tells}
use Rattle.bw_cert_rules.proofs.TruthStepLemmas.{IsSound, truth_of_all, by_line-sound}
use Rattle.bw_cert_rules.proofs.TruthStepLemmas.{after_part-sound, joined_parts-sound}
use Rattle.bw_cert_rules.proofs.TruthStepLemmas.{negated_pair-tells, tested_pair-tells}
use Rattle.bw_cert_rules.proofs.TruthStepLemmas.{is_null_test-tells}

least-yes : (a b : Truth) → least a (least b Yes) ≡ least a b
least-yes a b = ap (least a) (by_truth b)
  where
    by_truth : (b : Truth) → least b Yes ≡ b
    by_truth Truth.Yes = refl
    by_truth _ = refl

module _ (facts : Facts) (have_values : HaveStatedValues facts) (end : ℕ) where
  abbrev row : Assignment → List Value
  row assignment = row_of facts.columns assignment

  abbrev within : Operand → Bool
  within = is_within (length facts.columns)

  -- a comparison's line
  comparison-sound : (op : Op) (x y : Operand) → within x ≡ true → within y ≡ true → IsSound facts have_values (by_line end (comparison facts.columns facts op x y)) (λ assignment. compare_values op (operand_value (row assignment) x) (operand_value (row assignment) y))
  comparison-sound op x y x_in y_in = by_line-sound facts have_values end (comparison facts.columns facts op x y) _ (λ entry pair is. comparison-tells facts have_values op x y entry pair x_in y_in is)

  abbrev reader : Cond → List BodyLine → Reading
  reader = pair_of facts.columns facts end

  abbrev truth : Cond → Assignment → Truth
  truth cond assignment = truth_of (row assignment) cond

  abbrev names : Cond → Bool
  names = names_within (length facts.columns)

  -- a condition whose lines are sound, if it names only columns
  abbrev Known : Type 0
  Known = (cond : Cond) × (names cond ≡ true → IsSound facts have_values (reader cond) (truth cond))

  abbrev bare : Cond-F Known → Cond-F Cond
  bare layer = map-Cond Known Cond (λ e. e.0) layer

  -- parts that are joined
  parts-sound : (junction : Junction) (parts : List Known) → list_all (λ part. part) (map names (map (λ e. e.0) parts)) ≡ true →
      IsSound facts have_values (joined_parts facts.columns facts end junction (map reader (map (λ e. e.0) parts))) (λ assignment. truth_of_all junction (map (truth_of (row assignment)) (map (λ e. e.0) parts)))
  parts-sound junction parts pass lines rest pair is =
      let passes : list_all (λ (e : Known). names e.0) parts ≡ true =
      sym (list_all-map (λ part. part) names (map (λ e. e.0) parts) ∙ list_all-map names (λ (e : Known). e.0) parts) ∙ pass in
      tells_so facts.nodes _ _ pair (λ assignment. ap (truth_of_all junction) (sym (map-map (truth_of (row assignment)) (λ (e : Known). e.0) parts)))
      (joined_parts-sound facts have_values facts.columns end junction (λ (e : Known). reader e.0) (λ (e : Known). truth e.0) (λ (e : Known). names e.0) (λ e pass. e.1 pass) parts passes lines rest pair
      (ap (λ readers. joined_parts facts.columns facts end junction readers lines) (sym (map-map reader (λ (e : Known). e.0) parts)) ∙ is))

  -- BETWEEN
  between-sound : (x y z : Operand) → (within x && within y && within z) ≡ true →
      IsSound facts have_values (joined_parts facts.columns facts end All (by_line end (comparison facts.columns facts Ge x y) ∷ by_line end (comparison facts.columns facts Le x z) ∷ []))
      (λ assignment. least (compare_values Ge (operand_value (row assignment) x) (operand_value (row assignment) y)) (compare_values Le (operand_value (row assignment) x) (operand_value (row assignment) z)))
  between-sound x y z pass lines rest pair is =
      let upper = both _ _ pass in
      let lower = both _ _ upper.0 in
      let ends : List (Op × Operand) = (Ge, y) ∷ (Le, z) ∷ [] in
      let inside : list_all (λ (e : Op × Operand). within e.1) ends ≡ true = rw lower.1 (rw upper.1 refl) in
      tells_so facts.nodes _ _ pair (λ assignment. least-yes _ _)
      (joined_parts-sound facts have_values facts.columns end All (λ (e : Op × Operand). by_line end (comparison facts.columns facts e.0 x e.1))
      (λ (e : Op × Operand) assignment. compare_values e.0 (operand_value (row assignment) x) (operand_value (row assignment) e.1)) (λ (e : Op × Operand). within e.1)
      (λ e pass. comparison-sound e.0 x e.1 lower.0 pass) ends inside lines rest pair is)

  -- IN
  among-sound : (x : Operand) (items : List Operand) → (within x && list_all within items) ≡ true →
      IsSound facts have_values (joined_parts facts.columns facts end Any (equations facts.columns facts end x items)) (λ assignment. in_list (operand_value (row assignment) x) (map (operand_value (row assignment)) items))
  among-sound x items pass lines rest pair is =
      let inside = both _ _ pass in
      tells_so facts.nodes _ _ pair (λ assignment. ap any_of (sym (map-map (compare_values Eq (operand_value (row assignment) x)) (operand_value (row assignment)) items)))
      (joined_parts-sound facts have_values facts.columns end Any (λ item. by_line end (comparison facts.columns facts Eq x item)) (λ item assignment. compare_values Eq (operand_value (row assignment) x) (operand_value (row assignment) item)) within
      (λ item pass. comparison-sound Eq x item inside.0 pass) items inside.1 lines rest pair is)

  -- a condition, from its parts
  layer-sound : (layer : Cond-F Known) → within_step (length facts.columns) (map-Cond Cond Bool names (bare layer)) ≡ true →
      IsSound facts have_values (pair_step facts.columns facts end (map-Cond Cond (List BodyLine → Reading) reader (bare layer))) (λ assignment. truth_step (row assignment) (map-Cond Cond Truth (truth_of (row assignment)) (bare layer)))
  layer-sound Cond-F.Always pass = by_line-sound facts have_values end (fixed_pair Yes) _ (λ entry pair is. fixed-tells facts.nodes Yes pair entry is)
  layer-sound (Cond-F.Cmp op x y) pass = let inside = both _ _ pass in comparison-sound op x y inside.0 inside.1
  layer-sound (Cond-F.Between x y z) pass = between-sound x y z pass
  layer-sound (Cond-F.Among x items) pass = among-sound x items.items pass
  layer-sound (Cond-F.IsNull x) pass = by_line-sound facts have_values end (is_null_test facts.columns facts x) _ (λ entry pair is. is_null_test-tells facts have_values x entry pair pass is)
  layer-sound (Cond-F.And parts) pass = parts-sound All parts.items pass
  layer-sound (Cond-F.Or parts) pass = parts-sound Any parts.items pass
  layer-sound (Cond-F.Not part) pass =
      after_part-sound facts have_values end (reader part.value.0) (truth part.value.0) _ negated_pair (part.value.1 pass)
      (λ made entry pair told is. negated_pair-tells facts have_values made pair (truth part.value.0) entry told is)
  layer-sound (Cond-F.Test part wanted) pass =
      after_part-sound facts have_values end (reader part.value.0) (truth part.value.0) _ (tested_pair facts wanted) (part.value.1 pass)
      (λ made entry pair told is. tested_pair-tells facts have_values wanted made pair (truth part.value.0) entry told is)

  abbrev Sound : Cond → Type 0
  Sound cond = names cond ≡ true → IsSound facts have_values (reader cond) (truth cond)

  pub pair_of-sound : (cond : Cond) → names_within (length facts.columns) cond ≡ true → (lines rest : List BodyLine) (pair : TruthPair) → pair_of facts.columns facts end cond lines ≡ Ok (pair, rest) →
      Tells facts.nodes (λ assignment. truth_of (row_of facts.columns assignment) cond) pair
  unfolding pair_of truth_of names_within
  pair_of-sound = ind-Cond Sound (λ x y is. subst (λ z. Sound (roll-Cond z)) is (rolled y))
    where
      rolled : (y : Cond-F Known) → Sound (roll-Cond (bare y))
      rolled y pass lines rest pair is =
          let inside = sym (fold-roll-Cond Bool (within_step (length facts.columns)) (bare y)) ∙ pass in
          tells_so facts.nodes _ _ pair (λ assignment. sym (fold-roll-Cond Truth (truth_step (row assignment)) (bare y)))
          (layer-sound y inside lines rest pair (ap (λ read. read lines) (sym (fold-roll-Cond (List BodyLine → Reading) (pair_step facts.columns facts end) (bare y))) ∙ is))
