-- The blocks of one column more come before.
use Rattle.std.proofs.Common.{◌≡◌, ◌+◌, ◌*◌, add-one, ap, arith}
use Rattle.bw_file.specs.Blocks.{block_size, bytes_before}
use Rattle.bw_memory.proofs.ColumnarLemmas.{few_segments, small_product}
use Rattle.bw_memory.proofs.columnar.ColumnarTable.place_of.Goals as goal

pub overflow_add-at : goal.overflow_add-at
overflow_add-at c =
    let table = c.args.self.now.table in
    let schema = table.placement.value.schema in
    let before = bytes_before table.layout schema.columns.items c.loop-before.before in
    let one = small_product table.segments before (few_segments table) (omega (arith, c.loop-before.invariant.small, c.requires, schema.limited)) in
    let two = small_product table.segments c.block_size.result (few_segments table) (omega (arith, c.block_size.ensures.bound)) in
    omega (arith, c.loop-before.invariant.place, one, two, c.args.self.now.short)

pub loop-before-preserved : goal.loop-before-preserved
loop-before-preserved c =
    let table = c.args.self.now.table in
    let columns = table.placement.value.schema.columns.items in
    let before = bytes_before table.layout columns c.loop-before.before in
    let is : c.block_size.result ≡ block_size table.layout columns c.loop-before.before = rw c.deref.ensures at c.block_size.ensures.size in
    let next : bytes_before table.layout columns (c.loop-before.before + 1) ≡ before + block_size table.layout columns c.loop-before.before = ap (bytes_before table.layout columns) (add-one c.loop-before.before) in
    let both : table.segments * (before + block_size table.layout columns c.loop-before.before) ≡ table.segments * before + table.segments * block_size table.layout columns c.loop-before.before = omega arith in
    record {
      place = omega (arith, c.loop-before.invariant.place, ap (λ n. table.segments * n) is, ap (λ n. table.segments * n) next, both);
      small = omega (arith, c.loop-before.invariant.small, next, is, c.block_size.ensures.bound);
    }

pub returns-clause-bound : goal.returns-clause-bound
returns-clause-bound c =
    let table = c.args.self.now.table in
    let schema = table.placement.value.schema in
    let before = bytes_before table.layout schema.columns.items c.loop-before.before in
    let one = small_product table.segments before (few_segments table) (omega (arith, c.loop-before.invariant.small, c.requires, schema.limited)) in
    omega (arith, c.loop-before.invariant.place, one, c.args.self.now.short)
