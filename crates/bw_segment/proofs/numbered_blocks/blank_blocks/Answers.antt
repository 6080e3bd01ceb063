-- The block of no rows.
use Rattle.std.proofs.Common.{◌∙◌, [], ◌++◌, sym, ap, List, ℕ, length}
use Rattle.bw_model.specs.Groups.{group_size}
use Rattle.bw_segment.specs.Meaning.{null_bits, stored_codes}
use Rattle.bw_segment.specs.Packing.{block_bytes}
use Rattle.bw_segment.proofs.BlankLemmas.{length-blank}
use Rattle.bw_segment.proofs.ColumnLemmas.{empty_kept}
use Rattle.bw_segment.proofs.numbered_blocks.blank_blocks.Goals as goal

pub returns-clause-bytes : goal.returns-clause-bytes
unfolding stored_codes null_bits group_size
returns-clause-bytes g c =
    c.repeat.ensures.bytes ∙ c.in_ok-push_block.ensures.added [] c.empty.ensures.codes c.empty.ensures.nulls
    ∙ ap (λ (l : List ℕ). l ++ block_bytes g.L.CodeLayout.packing c.args.placement.now.schema.columns.items c.args.col []) c.in_ok-block.ensures.items

pub returns-clause-size : goal.returns-clause-size
returns-clause-size g c =
    c.repeat.ensures.size ∙ ap length (sym c.repeat.ensures.bytes) ∙ ap length (returns-clause-bytes g c)
    ∙ length-blank g.L.CodeLayout.packing c.keeps_codes.ensures c.args.placement.now.schema.columns.items c.args.col c.requires
