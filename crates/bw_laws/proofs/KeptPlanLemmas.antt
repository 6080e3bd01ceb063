-- What a sink holds after a plan was written, and that a file which is certified for a condition is
-- so for another one for which its certificate is valid.
use Rattle.std.proofs.Common.{◌≡◌, ℕ, List, [], Some, Result, Ok, sym, subst}
use Rattle.bw_model.specs.declared.column.Column.{Column}
use Rattle.bw_model.specs.declared.cond.Cond.{Cond}
use Rattle.bw_model.specs.declared.fault.Fault.{Fault}
use Rattle.bw_io.specs.Sink.{WriteOutcome, everything, none_aside, sink_state}
use Rattle.bw_program.specs.Program.{ProgramShape}
use Rattle.bw_cert_text.specs.CertificateShape.{CertificateShape}
use Rattle.bw_cert.specs.FileVerdict.{Certifies}
use Rattle.bw_cert.specs.Valid.{Valid}
use Rattle.bw_shell.specs.Plan.{IsPlan, IsPlanned}
use Rattle.bw_model.specs.declared.schema.Schema.{Schema}
use Rattle.bw_model.specs.SchemaText.{IsSchemaText, schema_shape}
use Rattle.bw_sql.specs.QueryShape.{query_shape}
use Rattle.bw_sql.specs.Statement.{Spells}
use Rattle.bw_sql.proofs.SameNames.{columns_too, spells_too}
use Rattle.bw_laws.proofs.SchemaTextLemmas.{one_schema}

pub plan_written : (text sql plan : List ℕ) (given : Result (List ℕ) Fault) (before after : ℕ) → IsPlanned text sql given
    → WriteOutcome {T = Unit {0}} none_aside (sink_state (Some []) before) (sink_state (Some plan) after) given (Ok tt) → IsPlan text sql plan
plan_written text sql plan given before after planned (everything file is took kept) = subst (IsPlan text sql) (sym took) (subst (IsPlanned text sql) is planned)

pub certified_too : (columns : List Column) (cond same : Cond) (file : List ℕ) (program : ProgramShape) (certificate : CertificateShape) → Valid columns same program certificate
    → Certifies columns cond file program certificate → Certifies columns same file program certificate
certified_too columns cond same file program certificate valid of = record {
  short = of.short;
  program_text = of.program_text;
  certificate_text = of.certificate_text;
  first = of.first;
  cut = of.cut;
  spelled = of.spelled;
  stated = of.stated;
  valid = valid;
}

-- under another schema that the text spells, the statement spells the plan's query, and the file is
-- certified for it
module _ (text sql plan : List ℕ) (schema : Schema) (kept : IsPlan text sql plan) (spelled : IsSchemaText text (schema_shape schema)) where
  shapes : schema_shape kept.schema ≡ schema_shape schema
  shapes = one_schema text (schema_shape kept.schema) (schema_shape schema) kept.spelled spelled

  pub spelled_here : Spells schema sql (query_shape kept.query)
  spelled_here = spells_too kept.schema schema sql (query_shape kept.query) shapes kept.asked

  pub certified_here : Certifies schema.columns.items kept.query.cond plan kept.program kept.certificate
  certified_here = rw (columns_too kept.schema schema shapes) at kept.certifies
