-- What a dump wrote is the text of the table's rows, of which a load gives their file.
use Rattle.std.proofs.Common.{List, subst, sym, ℕ}
use Rattle.bw_file.proofs.SpelledFile.{of_one_table}
use Rattle.bw_laws.specs.Backup.{LoadsUnder, table_text}
use Rattle.bw_laws.proofs.BackupLemmas.{dumped, load_again, needed_same, text_spells}
use Rattle.bw_laws.proofs.backup.what_is_dumped_is_loaded.Goals as goal

pub returns : goal.returns
returns c = record {
  took = λ bytes layout schema rows old new file wrote.
      dumped bytes layout schema rows old new wrote (of_one_table bytes layout wrote.layout schema wrote.schema rows wrote.rows file wrote.file);
  loaded = λ bytes layout other schema rows file short. load_again other schema rows (table_text schema rows) (text_spells bytes layout schema rows file) short;
  same = λ bytes layout schema rows file short needed.
      subst (λ (bytes : List ℕ). LoadsUnder layout schema (table_text schema rows) bytes) (sym (needed_same bytes layout schema rows file needed))
      (load_again layout schema rows (table_text schema rows) (text_spells bytes layout schema rows file) short);
}
