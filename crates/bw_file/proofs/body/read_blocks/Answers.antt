use Rattle.std.proofs.Common.{◌≡◌, ◌<◌, ◌+◌, ◌-◌, ◌++◌, ℕ, drop, take, length, length-take}
use Rattle.std.proofs.Common.{length-drop, ap, ◌∙◌, arith, take_all}
use Rattle.bw_file.specs.Blocks.{block_from, block_size, bytes_before, segment_size}
use Rattle.bw_file.specs.SegmentBytes.{bytes_held}
use Rattle.bw_file.proofs.BodyLemmas.{blocks_more, blocks_stop, blocks_read, sound_more}
use Rattle.bw_file.proofs.BodyLemmas.{before_more}
use Rattle.bw_file.proofs.SegmentBytesLemmas.{with_part}
use Rattle.bw_file.proofs.body.read_blocks.Goals as goal
use Rattle.bw_model.proofs.ErrLemmas.{err_passed_on}

pub returns-in_err-read_block-clause-reads : goal.returns-in_err-read_block-clause-reads
returns-in_err-read_block-clause-reads g c =
    let lt : c.loop-col.col < length c.args.placement.now.schema.columns.items = omega (arith, c.len-col-end.ensures, c.args.placement.now.schema.columns.ok.0) in
    rw (err_passed_on _ c.from_residual.ensures.1) (blocks_stop c.args.layout c.args.placement.now.schema.columns.items c.args.rows _ c.loop-col.col (take c.loop-col.start (bytes_held c.loop-col.bytes)) _ _ _ _ lt
    c.loop-col.invariant.on c.in_err-read_block.ensures.reads)

pub read_block-requires-clause-within : goal.read_block-requires-clause-within
read_block-requires-clause-within g c = omega (arith, c.block_is_within.ensures, c.loop-col.invariant.start, c.loop-col.invariant.long, c.requires.size)

pub loop-col-preserved : goal.loop-col-preserved
loop-col-preserved g c =
    let layout = c.args.layout in
    let columns = c.args.placement.now.schema.columns.items in
    let start = c.loop-col.start in
    let held = bytes_held c.read_block.new.bytes in
    let size = c.block_size-start.ensures.size in
    let lt : c.loop-col.col < length columns = omega (arith, c.len-col-end.ensures, c.args.placement.now.schema.columns.ok.0) in
    let block = block_from layout columns c.loop-col.col start held in
    let front : take (start + c.block_size-start.result) held ≡ take start (bytes_held c.loop-col.bytes) ++ block =
    with_part (bytes_held c.loop-col.bytes) held start (block_size layout columns c.loop-col.col) _ (ap (λ (n : ℕ). start + n) size) c.in_ok-read_block.ensures.before in
    let long : length block ≡ block_size layout columns c.loop-col.col =
    omega (arith, length-take (start + block_size layout columns c.loop-col.col - start) (drop start held), length-drop start held, c.in_ok-read_block.ensures.long, c.loop-col.invariant.long, c.block_is_within.ensures, c.loop-col.invariant.start, c.requires.size) in
    record {
      on = rw front (blocks_more layout columns c.args.rows _ c.loop-col.col (take start (bytes_held c.loop-col.bytes)) block _ _ _ lt c.loop-col.invariant.on c.in_ok-read_block.ensures.reads);
      failures = c.in_ok-read_block.ensures.reads.failures ∙ c.loop-col.invariant.failures;
      room = omega (arith, c.in_ok-read_block.ensures.advanced, size, c.block_size-start.ensures.bound);
      start = before_more _ _ _ _ _ c.loop-col.invariant.start size;
      sound = rw front (sound_more layout columns c.args.rows c.loop-col.col (take start (bytes_held c.loop-col.bytes)) block long c.loop-col.invariant.sound c.in_ok-read_block.ensures.good);
      next = rw size c.in_ok-read_block.ensures.next;
      long = c.in_ok-read_block.ensures.long ∙ c.loop-col.invariant.long;
    }

pub returns-clause-reads : goal.returns-clause-reads
returns-clause-reads g c =
    let columns = c.args.placement.now.schema.columns.items in
    let end : c.loop-col.col ≡ length columns = omega (arith, c.len-col-end.ensures, c.args.placement.now.schema.columns.ok.0) in
    let all : c.loop-col.start ≡ segment_size c.args.layout columns = c.loop-col.invariant.start ∙ ap (bytes_before c.args.layout columns) end in
    let whole : take c.loop-col.start (bytes_held c.loop-col.bytes) ≡ bytes_held c.loop-col.bytes = take_all _ _ (omega (arith, all, c.requires.size, c.loop-col.invariant.long)) in
    blocks_read c.args.layout columns c.args.rows (length columns) c.loop-col.col (bytes_held c.loop-col.bytes) _ _ (omega (arith, end)) (rw whole at c.loop-col.invariant.on)

pub returns-clause-sound : goal.returns-clause-sound
returns-clause-sound g c =
    let columns = c.args.placement.now.schema.columns.items in
    let end : c.loop-col.col ≡ length columns = omega (arith, c.len-col-end.ensures, c.args.placement.now.schema.columns.ok.0) in
    let all : c.loop-col.start ≡ segment_size c.args.layout columns = c.loop-col.invariant.start ∙ ap (bytes_before c.args.layout columns) end in
    let whole : take c.loop-col.start (bytes_held c.loop-col.bytes) ≡ bytes_held c.loop-col.bytes = take_all _ _ (omega (arith, all, c.requires.size, c.loop-col.invariant.long)) in
    rw (← end) (rw whole at c.loop-col.invariant.sound)
