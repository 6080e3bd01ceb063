use Rattle.std.proofs.Common.{ap, ◌∙◌}
use Rattle.bw_encode.specs.FieldSet.{keys_bytes}
use Rattle.bw_encode.proofs.SetLemmas.{distinct-bytes, insert_key-bytes, stored-bytes}
use Rattle.bw_encode.proofs.field_set.FieldSet.insert.Goals as goal

pub returns-clause-fields : goal.returns-clause-fields
returns-clause-fields c = ap keys_bytes c.in_ok-place.ensures.keys ∙ insert_key-bytes c.args.self.now.keys.keys (record { bytes = c.args.field })

pub returns-clause-distinct : goal.returns-clause-distinct
returns-clause-distinct c = distinct-bytes _ c.in_ok-place.ensures.unique

pub returns-clause-place : goal.returns-clause-place
returns-clause-place c = let at = c.in_ok-place.ensures.stored in stored-bytes c.insert_full.new.self.keys (record { bytes = c.args.field }) c.in_ok-place.place at.0 at.1 at.2
