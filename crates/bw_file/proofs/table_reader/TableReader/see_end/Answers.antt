use Rattle.std.proofs.Common.{refl}
use Rattle.bw_file.proofs.NextLemmas.{end_given, byte_given}
use Rattle.bw_file.proofs.table_reader.TableReader.see_end.Goals as goal

pub returns-in-Ok : goal.returns-in-Ok
returns-in-Ok g c =
    end_given _ _ _ _ c.args.self.now _ (record { version = refl; layout = refl; schema = refl; rows = refl }) refl c.requires.all (rw c.requires.open refl) c.in-Ok.ensures.took c.in-Ok.ensures.failures c.in-Ok.ensures.ended refl

pub returns-in-Err : goal.returns-in-Err
returns-in-Err g c =
    byte_given _ _ _ _ c.args.self.now _ (record { version = refl; layout = refl; schema = refl; rows = refl }) _ refl c.requires.all (rw c.requires.open refl) c.in-Err.ensures.refused refl
