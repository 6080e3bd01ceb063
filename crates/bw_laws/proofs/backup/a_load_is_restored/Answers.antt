-- The bytes of a load are the file of the rows of its CSV text, which the dump's text spells again.
use Rattle.std.proofs.Common.{Ok, ap, sym, ◌∙◌}
use Rattle.bw_file.specs.FileBytes.{file_bytes}
use Rattle.bw_laws.proofs.BackupLemmas.{same_rows}
use Rattle.bw_laws.proofs.LoadThenQueryLemmas.{loaded, loaded_text}
use Rattle.bw_laws.proofs.backup.a_load_is_restored.Goals as goal

pub returns : goal.returns
returns c = λ layout csv bytes rows old new spelled made wrote.
    let schema = c.args.schema.now in
    let of = loaded layout schema csv bytes made in
    let same = same_rows of.rows rows (sym of.spelled ∙ spelled) in
    let file = rw same at (loaded_text layout schema csv bytes c.has_names_and_bounds.ensures.schema of) in
    let text = of.text ∙ ap (file_bytes layout schema) same in
    (c.what_is_dumped_is_loaded.ensures.took bytes layout schema rows old new file wrote, c.a_dump_is_a_backup.ensures.loads bytes layout layout schema rows file ∙ ap Ok (sym text))
