-- One piece more is there.
use Rattle.std.proofs.Common.{◌≡◌, ◌∙◌, ap, ap₂, ◌+◌, ◌-◌, ◌*◌, ◌++◌, List, ℕ, flat_map, length, min}
use Rattle.std.proofs.Common.{slice_range, arith}
use Rattle.std.specs.List.{range_with_len}
use Rattle.bw_segment.proofs.LayoutLemmas.{block_more}
use Rattle.bw_file.specs.Columnar.{piece_from}
use Rattle.bw_file.proofs.ColumnarLemmas.{clamped}
use Rattle.bw_file.proofs.columnar.push_pieces.Goals as goal

pub loop-number-preserved : goal.loop-number-preserved
loop-number-preserved c =
    let bytes = c.args.bytes.now in
    let number = c.loop-number.number in
    let place = c.args.at + number * c.args.size in
    let piece = piece_from bytes c.args.at c.args.size c.args.count in
    let first : c.min-start.result ≡ min (length bytes) place = omega (arith, c.min-start.ensures) in
    let last : c.min-end.result ≡ min (length bytes) (place + c.args.count) = omega (arith, c.min-end.ensures) in
    let added : c.extend_from_slice.new.self.items ≡ c.loop-number.file.items ++ piece number =
    c.in_ok-extend_from_slice.ensures.items
    ∙ ap (λ (l : List ℕ). c.loop-number.file.items ++ l) (ap₂ (slice_range bytes) first last ∙ clamped place c.args.count bytes) in
    ap (λ (l : List ℕ). l ++ flat_map piece (range_with_len (number + 1) (c.args.pieces - (number + 1)))) added
    ∙ block_more piece c.loop-number.file.items c.args.pieces number c.loop-number-test.true ∙ c.loop-number.invariant
