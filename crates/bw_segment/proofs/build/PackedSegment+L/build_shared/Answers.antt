use Rattle.std.proofs.Common.{◌∙◌, sym, ap, subst, map, arith}
use Rattle.bw_io.specs.Shared.{bytes_in}
use Rattle.bw_model.specs.Row.{values_of}
use Rattle.bw_segment.specs.Columns.{KeepRows}
use Rattle.bw_segment.specs.Packing.{segment_bytes}
use Rattle.bw_segment.specs.declared.placement.Placement.{Placement}
use Rattle.bw_segment.proofs.CodeLemmas.{few_rows}
use Rattle.bw_segment.proofs.PackedLemmas.{built_sound, built_means}
use Rattle.bw_segment.proofs.build.PackedSegment+L.build_shared.Goals as goal

pub overflow_cast-count : goal.overflow_cast-count
overflow_cast-count g c = omega (arith, few_rows c.args.placement.now.value.schema c.args.rows.now c.requires.group)

pub of_blocks-requires-clause-sound : goal.of_blocks-requires-clause-sound
of_blocks-requires-clause-sound g c =
    let packing = g.L.CodeLayout.packing in
    let rows = map values_of c.args.rows.now in
    let keep = subst (KeepRows c.deref-shared.result.now.schema.columns.items rows) (sym c.deref.ensures.value) c.in_ok-kept.ensures.keeps in
    let text = c.in_ok-bytes.ensures.bytes ∙ c.in_ok-blocks_of.ensures.bytes rows keep ∙ ap (λ (placement : Placement). segment_bytes packing placement.schema.columns.items rows) c.deref-shared.ensures in
    built_sound packing c.keeps_codes.ensures c.args.placement.now.value c.in_ok-placement.placement.value c.args.rows.now (bytes_in c.in_ok-bytes.bytes) c.requires.group c.in_ok-placement.ensures.cases text

pub returns-clause-means : goal.returns-clause-means
returns-clause-means g c =
    let packing = g.L.CodeLayout.packing in
    let rows = map values_of c.args.rows.now in
    let keep = subst (KeepRows c.deref-shared.result.now.schema.columns.items rows) (sym c.deref.ensures.value) c.in_ok-kept.ensures.keeps in
    let text = c.in_ok-bytes.ensures.bytes ∙ c.in_ok-blocks_of.ensures.bytes rows keep ∙ ap (λ (placement : Placement). segment_bytes packing placement.schema.columns.items rows) c.deref-shared.ensures in
    c.of_blocks.ensures.means ∙ built_means packing c.keeps_codes.ensures c.args.placement.now.value c.in_ok-placement.placement.value c.args.rows.now (bytes_in c.in_ok-bytes.bytes) c.requires.group c.in_ok-placement.ensures.cases text
