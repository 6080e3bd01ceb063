-- The text of a header, with the size that follows from it.
use Rattle.std.proofs.Common.{◌≡◌, ◌∙◌, ◌+◌, ◌/◌, ◌*◌, ℕ, List, subst, arith}
use Rattle.std.specs.Prelude.{IfOk}
use Rattle.bw_file.specs.TableReader.{layout_in, rows_stated, schema_in, version_in}
use Rattle.bw_csv_calls.specs.Info.{file_size, info_text}
use Rattle.bw_csv_calls.proofs.FactLemmas.{info_same, size_by}
use Rattle.bw_csv_calls.proofs.info_call.header_text.Goals as goal

pub returns-clause-text : goal.returns-clause-text
returns-clause-text c =
    let reader = c.args.reader.now in
    let version = version_in reader in
    let layout = layout_in reader in
    let schema = schema_in reader in
    let count = rows_stated reader in
    let rows : c.rows-rows.result ≡ count = omega (arith, c.rows-rows.ensures) in
    let from : c.from.result ≡ count = omega (arith, c.from.ensures, rows) in
    let size = size_by version layout schema count c.offset.result c.from.result c.segment_size.result (c.offset.ensures ∙ c.requires.head) from c.segment_size.ensures.size in
    let same = info_same c.version.result version c.layout.result layout c.schema.result.now schema c.rows-rows.result count (c.offset.result + (c.from.result + 511) / 512 * c.segment_size.result) (file_size version layout schema count)
    (omega (arith, c.version.ensures)) c.layout.ensures c.schema.ensures rows size in
    subst (λ (told : List ℕ). IfOk c.info_text.result (λ text. text.items ≡ told)) same c.info_text.ensures.text

pub returns-clause-spelled : goal.returns-clause-spelled
returns-clause-spelled c = rw c.schema.ensures at c.info_text.ensures.spelled
