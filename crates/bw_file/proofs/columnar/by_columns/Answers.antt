-- The blocks of one column more are there.
use Rattle.std.proofs.Common.{◌≡◌, ◌∙◌, sym, ap, ap₂, ℕ, ◌+◌, ◌-◌, ◌/◌, ◌≤◌, List, [], ◌++◌, append-nil}
use Rattle.std.proofs.Common.{add-one, flat_map, length, take, drop, arith}
use Rattle.std.specs.Int.{w32, to_le_bytes}
use Rattle.std.specs.List.{range_with_len}
use Rattle.bw_segment.proofs.LayoutLemmas.{before_in_order, block_more}
use Rattle.bw_file.specs.declared.order.FileOrder.TheVariants.{ByColumns}
use Rattle.bw_file.specs.Blocks.{block_size, bytes_before, form_of, segment_size}
use Rattle.bw_file.specs.Columnar.{piece_from}
use Rattle.bw_file.specs.FileBytes.{header_bytes}
use Rattle.bw_file.proofs.ColumnarLemmas.{blocks_among, columns_put}
use Rattle.bw_file.proofs.EncoderLemmas.{header_long, rows_put}
use Rattle.bw_file.proofs.columnar.by_columns.Goals as goal

pub set_row_count-requires : goal.set_row_count-requires
set_row_count-requires c =
    let schema = c.args.placement.now.schema in
    omega (
      arith,
      header_long ByColumns 2 c.args.layout schema.name schema.columns.items 0,
      ap length c.in_ok-push_header.ensures.header,
      ap (λ (l : List ℕ). length (l ++ header_bytes ByColumns 2 c.args.layout schema.name schema.columns.items 0)) c.in_ok-file.ensures.items,
    )

pub push_pieces-requires-clause-capacity : goal.push_pieces-requires-clause-capacity
push_pieces-requires-clause-capacity c =
    let columns = c.args.placement.now.schema.columns.items in
    let inside = before_in_order (form_of c.args.layout) columns c.loop-col.col (length columns) (omega arith) in
    omega (arith, c.loop-col.invariant.place, inside, c.segment_size.ensures.size, c.segment_size.ensures.small, c.len-at.ensures)

pub overflow_add-at : goal.overflow_add-at
overflow_add-at c =
    let columns = c.args.placement.now.schema.columns.items in
    let inside = before_in_order (form_of c.args.layout) columns c.loop-col.col (length columns) (omega arith) in
    omega (arith, c.loop-col.invariant.place, inside, c.segment_size.ensures.size, c.segment_size.ensures.small, c.len-at.ensures, c.block_size-count.ensures.bound)

pub loop-col-preserved : goal.loop-col-preserved
loop-col-preserved c =
    let columns = c.args.placement.now.schema.columns.items in
    let bytes = c.args.bytes.now in
    let col = c.loop-col.col in
    let pieces = (c.args.rows + 511) / 512 in
    let blocks = blocks_among c.args.layout columns bytes c.len-at.result pieces in
    let added : c.push_pieces.new.file.items ≡ c.loop-col.file.items ++ blocks col =
    c.in_ok-push_pieces.ensures.added
    ∙ ap (λ (n : ℕ). c.loop-col.file.items ++ flat_map (piece_from bytes n c.segment_size.result c.block_size-count.result) (range_with_len 0 pieces)) c.loop-col.invariant.place
    ∙ ap₂ (λ (n m : ℕ). c.loop-col.file.items ++ flat_map (piece_from bytes (c.len-at.result + bytes_before c.args.layout columns col) n m) (range_with_len 0 pieces)) c.segment_size.ensures.size c.block_size-count.ensures.size in
    record {
      put = ap (λ (l : List ℕ). l ++ flat_map blocks (range_with_len (col + 1) (length columns - (col + 1)))) added
          ∙ block_more blocks c.loop-col.file.items (length columns) col (omega arith) ∙ c.loop-col.invariant.put;
      place = omega (arith, c.loop-col.invariant.place, c.block_size-count.ensures.size, ap (bytes_before c.args.layout columns) (add-one col));
    }

pub returns-clause-columnar : goal.returns-clause-columnar
returns-clause-columnar c = λ table count are text.
    let schema = c.args.placement.now.schema in
    let columns = schema.columns.items in
    let empty = header_bytes ByColumns 2 c.args.layout schema.name columns 0 in
    let head = c.set_row_count.new.bytes.items in
    let begun : c.push_header.new.bytes.items ≡ empty ++ [] =
    c.in_ok-push_header.ensures.header ∙ ap (λ (l : List ℕ). l ++ empty) c.in_ok-file.ensures.items ∙ sym (append-nil empty) in
    let stated : head ≡ header_bytes ByColumns 2 c.args.layout schema.name columns c.args.rows =
    c.set_row_count.ensures ∙ ap (λ (l : List ℕ). take 12 l ++ to_le_bytes w32 c.args.rows ++ drop 16 l) begun
    ∙ rows_put ByColumns 2 c.args.layout schema.name columns c.args.rows [] ∙ append-nil (header_bytes ByColumns 2 c.args.layout schema.name columns c.args.rows) in
    let pieces = (c.args.rows + 511) / 512 in
    let long : c.len-at.result ≡ length head = omega (arith, c.len-at.ensures) in
    let blocks = blocks_among c.args.layout columns c.args.bytes.now c.len-at.result pieces in
    let none : length columns - c.loop-col.col ≡ 0 = omega arith in
    let all : c.loop-col.file.items ≡ head ++ flat_map blocks (range_with_len 0 (length columns)) =
    sym (append-nil c.loop-col.file.items) ∙ sym (ap (λ (n : ℕ). c.loop-col.file.items ++ flat_map blocks (range_with_len c.loop-col.col n)) none) ∙ c.loop-col.invariant.put in
    columns_put c.args.layout schema table c.args.bytes.now head c.loop-col.file.items pieces are text (ap (λ (n : ℕ). (n + 511) / 512) count)
    (stated ∙ ap (header_bytes ByColumns 2 c.args.layout schema.name columns) count)
    (all ∙ ap (λ (n : ℕ). head ++ flat_map (blocks_among c.args.layout columns c.args.bytes.now n pieces) (range_with_len 0 (length columns))) long)
