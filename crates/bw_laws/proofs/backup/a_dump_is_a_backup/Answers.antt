-- The text of a dump spells the rows, and so a load gives their file.
use Rattle.std.proofs.Common.{◌∙◌, Ok, ap, sym}
use Rattle.bw_laws.specs.Backup.{table_text}
use Rattle.bw_laws.proofs.BackupLemmas.{dump_text, needed_same, text_loads, text_spells}
use Rattle.bw_laws.proofs.DumpSizes.{table_short, three_columns}
use Rattle.bw_laws.proofs.backup.a_dump_is_a_backup.Goals as goal

pub returns : goal.returns
returns c = record {
  text = dump_text;
  spells = text_spells;
  loads = λ bytes layout other schema rows file. text_loads other schema rows (table_text schema rows) (text_spells bytes layout schema rows file);
  same = λ bytes layout schema rows file needed.
      text_loads layout schema rows (table_text schema rows) (text_spells bytes layout schema rows file) ∙ ap Ok (sym (needed_same bytes layout schema rows file needed));
  size = table_short;
  fits = three_columns;
}
