use Rattle.std.proofs.Common.{map, subst}
use Rattle.bw_encode.specs.Coded.{encoding_of}
use Rattle.bw_encode.specs.Table.{IsSchemaOf}
use Rattle.bw_encode.proofs.CodedTableLemmas.{all_admitted}
use Rattle.bw_encode.proofs.coded_table.CodedTable.schema.Goals as goal

pub returns-clause-admits : goal.returns-clause-admits
returns-clause-admits c = all_admitted c.args.self.now c.requires c.in_ok-schema.schema
    (subst (λ columns. IsSchemaOf (map encoding_of columns) c.in_ok-schema.schema) c.deref.ensures.value c.in_ok-schema.ensures)
