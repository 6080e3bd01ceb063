-- By what the planes are in each lane, and by the one key.
use Rattle.std.proofs.Common.{rules, w64, ◌∙◌, ◌<◌, ℕ, ap, ap₂, ◌&&◌, ◌||◌, false, get_or}
use Rattle.std.proofs.Common.{slice_index}
use Rattle.std.proofs.lemmas.List.{get_or-replicate}
use Rattle.std.proofs.lemmas.Int.{to_z-of_z}
use Rattle.bw_lanes.specs.Lanes.{lanes_of_words}
use Rattle.bw_model.specs.Truth.{holds}
use Rattle.bw_segment.specs.Keys.{number_of_key}
use Rattle.bw_rowwise.proofs.TruthLemmas.{compared_one_yes, compared_one_maybe}
use Rattle.bw_rowwise.proofs.column_lanes.ColumnLanes.compare_with.Goals as goal

pub returns : goal.returns
returns c =
    let x = c.args.self.now in
    let number = λ (lane : ℕ). number_of_key (slice_index x.keys lane) in
    let held = λ (lane : ℕ) (within : lane < 512). c.lanes_holding-holds.ensures lane within
    ∙ ap (λ n. holds c.args.op (number lane) n) (ap number_of_key (get_or-replicate 512 lane c.key-keys.result 0 within) ∙ c.key-keys.ensures ∙ to_z-of_z w64 c.args.n (search rules)) in
    record {
      yes = λ lane within.
          c.both_lanes.ensures.each lane within ∙ ap₂ (λ a b. a && b) (held lane within) (c.other_lanes.ensures lane within)
          ∙ compared_one_yes c.args.op (get_or (lanes_of_words x.none) lane false) (number lane) c.args.n;
      maybe = λ lane within.
          c.either_lanes.ensures lane within ∙ ap (λ a. a || get_or (lanes_of_words x.none) lane false) (held lane within)
          ∙ compared_one_maybe c.args.op (get_or (lanes_of_words x.none) lane false) (number lane) c.args.n;
    }
