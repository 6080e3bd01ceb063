-- The codes of a column in the lanes that are selected.
use Rattle.std.proofs.Common.{◌≡◌, ℕ, ◌-◌, List, map, count_by, length, replicate, length-append}
use Rattle.std.proofs.Common.{arith}
use Rattle.std.proofs.lemmas.List.{length-map, length-replicate}
use Rattle.bw_lanes.specs.Lanes.{lanes_of_words}
use Rattle.bw_lanes.proofs.WordLemmas.{length-lanes_of_words}
use Rattle.bw_model.specs.Row.{value_in}
use Rattle.bw_model.specs.Groups.{group_size}
use Rattle.bw_model.specs.StoredCodes.{stored_at}
use Rattle.bw_segment.specs.Meaning.{Meaning, IsGroup, stored_codes, code_lanes}
use Rattle.bw_segment.specs.Selected.{codes_in}
use Rattle.bw_segment.proofs.SelectedLemmas.{count_selected}

-- there are 512 codes
pub codes_long : (meaning : Meaning) (col : ℕ) → IsGroup meaning → length (code_lanes meaning col) ≡ 512
unfolding stored_codes group_size
codes_long meaning col group =
    let codes = map (λ row. stored_at meaning.columns col (value_in row col)) meaning.rows in
    let padding : List ℕ = replicate (512 - length meaning.rows) 0 in
    let few = group.within_limit in
    let zeros : length padding ≡ 512 - length meaning.rows = length-replicate {A = ℕ} (512 - length meaning.rows) 0 in
    omega (arith, length-append codes padding, length-map meaning.rows (λ row. stored_at meaning.columns col (value_in row col)), zeros, few)

-- how many codes there are
pub codes_counted : (meaning : Meaning) (col : ℕ) (words : List ℕ) → IsGroup meaning → length words ≡ 8 → count_by (λ lane. lane) (lanes_of_words words) ≡ length (codes_in meaning col (lanes_of_words words))
unfolding codes_in
codes_counted meaning col words group eight =
    count_selected (lanes_of_words words) (code_lanes meaning col) (let long = codes_long meaning col group in omega (arith, long, length-lanes_of_words words))
