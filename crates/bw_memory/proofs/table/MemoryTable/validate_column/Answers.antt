-- One block more is valid, or has the first error.
use Rattle.std.proofs.Common.{◌≡◌, ◌∙◌, ap, ◌+◌, ◌*◌, None, slice_range, arith}
use Rattle.std.proofs.lemmas.Nat.{mul-le}
use Rattle.bw_model.specs.Groups.{group_size}
use Rattle.bw_model.proofs.ErrLemmas.{err_passed_on}
use Rattle.bw_segment.specs.declared.placement.Placement.{Placement}
use Rattle.bw_file.specs.Blocks.{block_fault, block_size}
use Rattle.bw_memory.specs.StoredSegments.{piece_of, rows_numbered}
use Rattle.bw_file.proofs.FaultLemmas.{block_own}
use Rattle.bw_memory.proofs.ColumnarLemmas.{below_and, block_alike, error_is_own, has_error, is_valid}
use Rattle.bw_memory.proofs.ColumnarLemmas.{piece_cut, place_alike}
use Rattle.bw_memory.proofs.StoredSegmentLemmas.{rows_cut}
use Rattle.bw_memory.proofs.table.MemoryTable.validate_column.Goals as goal

pub overflow_mul-number : goal.overflow_mul-number
unfolding group_size
overflow_mul-number c = omega (arith, c.args.self.now.kept.nonempty c.loop-number.number c.loop-number-test.true, c.args.self.now.within_limit)

pub overflow_sub-self : goal.overflow_sub-self
unfolding group_size
overflow_sub-self c = omega (arith, c.args.self.now.kept.nonempty c.loop-number.number c.loop-number-test.true)

pub slice_bounds-block-end : goal.slice_bounds-block-end
slice_bounds-block-end c =
    let size = c.block_size-size.result in
    let number = c.loop-number.number in
    let is : size ≡ block_size c.args.self.now.layout c.args.self.now.placement.value.schema.columns.items c.args.col = rw c.deref.ensures at c.block_size-size.ensures.size in
    let le = mul-le (number + 1) size c.args.self.now.segments size (omega (arith, c.loop-number-test.true)) (omega arith) in
    let more : (number + 1) * size ≡ number * size + size = omega arith in
    omega (arith, le, more, c.requires.long, ap (λ n. c.args.self.now.segments * n) is)

pub validate_block-requires-clause-rows : goal.validate_block-requires-clause-rows
unfolding group_size
validate_block-requires-clause-rows c = omega (arith, c.min-rows.ensures)

pub returns-in_err-validate_block-clause-fault : goal.returns-in_err-validate_block-clause-fault
returns-in_err-validate_block-clause-fault c =
    let table = c.args.self.now in
    let columns = table.placement.value.schema.columns.items in
    let number = c.loop-number.number in
    let size = c.block_size-size.result in
    let start = number * size in
    let is : size ≡ block_size table.layout columns c.args.col = rw c.deref.ensures at c.block_size-size.ensures.size in
    let rows = rows_cut table.rows number c.min-rows.result c.min-rows.ensures in
    let cut = slice_range c.args.blocks.now start (start + size) in
    let there = c.deref-in-loop-number.result.now.schema.columns.items in
    let block = piece_cut c.args.blocks.now size number ∙ ap (λ n. piece_of c.args.blocks.now n number) is in
    let found = has_error (c.args.at + start) table.layout there c.min-rows.result c.args.col cut (block_fault table.layout there c.args.col c.min-rows.result cut) _ c.in_err-validate_block.ensures.valid in
    let placed : there ≡ columns = ap (λ (placement : Placement). placement.schema.columns.items) c.deref-in-loop-number.ensures in
    rw (err_passed_on _ c.from_residual.ensures.1) (record {
      number = number;
      within = c.loop-number-test.true;
      before = c.loop-number.invariant;
      code = found.0;
      here = block_alike table.layout there columns c.args.col _ _ cut _ placed rows block ∙ found.1;
      is = found.2 ∙ place_alike c.args.at table.layout there columns c.args.col _ _ cut _ size _ number found.0 placed rows block is;
    })

pub returns-in_err-validate_block-clause-table : goal.returns-in_err-validate_block-clause-table
returns-in_err-validate_block-clause-table c =
    let table = c.args.self.now in
    let size = c.block_size-size.result in
    let start = c.loop-number.number * size in
    let cut = slice_range c.args.blocks.now start (start + size) in
    let there = c.deref-in-loop-number.result.now.schema.columns.items in
    rw (err_passed_on _ c.from_residual.ensures.1) (error_is_own (c.args.at + start) table.layout there c.min-rows.result c.args.col cut (block_fault table.layout there c.args.col c.min-rows.result cut) _
    (block_own table.layout there c.args.col c.min-rows.result cut) c.in_err-validate_block.ensures.valid)

pub loop-number-preserved : goal.loop-number-preserved
loop-number-preserved c =
    let table = c.args.self.now in
    let columns = table.placement.value.schema.columns.items in
    let number = c.loop-number.number in
    let size = c.block_size-size.result in
    let start = number * size in
    let is : size ≡ block_size table.layout columns c.args.col = rw c.deref.ensures at c.block_size-size.ensures.size in
    let rows = rows_cut table.rows number c.min-rows.result c.min-rows.ensures in
    let cut = slice_range c.args.blocks.now start (start + size) in
    let there = c.deref-in-loop-number.result.now.schema.columns.items in
    let block = piece_cut c.args.blocks.now size number ∙ ap (λ n. piece_of c.args.blocks.now n number) is in
    let placed : there ≡ columns = ap (λ (placement : Placement). placement.schema.columns.items) c.deref-in-loop-number.ensures in
    below_and (λ n. block_fault table.layout columns c.args.col (rows_numbered table.rows n) (piece_of c.args.blocks.now (block_size table.layout columns c.args.col) n) ≡ None) number c.loop-number.invariant
    (block_alike table.layout there columns c.args.col _ _ cut _ placed rows block
    ∙ is_valid (c.args.at + start) table.layout there c.min-rows.result c.args.col cut (block_fault table.layout there c.args.col c.min-rows.result cut) c.in_ok-validate_block.ensures.valid)
