-- A table's file needs each of its bytes.
use Rattle.std.proofs.Common.{◌≡◌, ℕ, ◌<◌, List, length, take, Result, Err}
use Rattle.bw_model.specs.declared.fault.Fault.{Fault}
use Rattle.bw_model.specs.declared.schema.Schema.{Schema}
use Rattle.bw_model.specs.Fault.{at_byte}
use Rattle.bw_model.specs.Row.{Value}
use Rattle.bw_file.specs.declared.layout.Layout.{Layout}
use Rattle.bw_file.specs.FileBytes.{IsFileBytes}
use Rattle.bw_file.specs.TableReading.{Found, IsReadAs}
use Rattle.bw_file.proofs.SpelledFile.{cut_is_refused, read_one_way}
use Rattle.bw_laws.proofs.cut_file.a_cut_file_is_refused.Goals as goal

refused_alone : (bytes : List ℕ) (layout : Layout) (schema : Schema) (rows : List (List Value)) (n : ℕ) (read : Result Found Fault) → IsFileBytes bytes layout schema rows → n < length bytes
    → IsReadAs (take n bytes) read → read ≡ Err (at_byte 305 n)
refused_alone bytes layout schema rows n read file less is = read_one_way (take n bytes) read _ is (cut_is_refused bytes layout schema rows n file less)

pub returns : goal.returns
returns c = record { refused = cut_is_refused; alone = refused_alone }
