-- What info tells of a file spells its table's schema, under which the dump is loaded.
use Rattle.bw_laws.proofs.BackupLemmas.{told_spells}
use Rattle.bw_laws.proofs.backup.a_file_is_restored.Goals as goal

pub returns : goal.returns
returns c = record {
  told = told_spells;
  same = λ bytes layout schema rows told old new file needed is wrote. (
    c.what_is_dumped_is_loaded.ensures.took bytes layout schema rows old new file wrote,
    λ short. c.what_is_dumped_is_loaded.ensures.same bytes layout schema rows file short needed told (told_spells bytes layout schema rows told file is),
  );
}
