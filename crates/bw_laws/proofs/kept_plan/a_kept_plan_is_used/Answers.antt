-- Schemas that one text spells have the same columns, and conditions of one tree are checked alike.
use Rattle.std.proofs.Common.{◌≡◌, ◌∙◌, refl, sym, ap, subst}
use Rattle.bw_model.specs.CondTree.{tree_of}
use Rattle.bw_model.specs.Groups.{groups_of}
use Rattle.bw_model.specs.SchemaText.{IsSchemaText}
use Rattle.bw_file.specs.TableReading.{Found}
use Rattle.bw_file.proofs.SpelledFile.{of_one_table}
use Rattle.bw_program.specs.Program.{ProgramShape}
use Rattle.bw_sql.specs.QueryShape.{QueryShape, query_shape}
use Rattle.bw_sql.proofs.SameNames.{columns_too}
use Rattle.bw_sql.proofs.Texts.{text_query}
use Rattle.bw_query.specs.Served.{ByProgram}
use Rattle.bw_laws.proofs.KeptPlanLemmas.{certified_here, certified_too, plan_written, spelled_here}
use Rattle.bw_laws.proofs.kept_plan.a_kept_plan_is_used.Goals as goal

pub returns-clause-written : goal.returns-clause-written
returns-clause-written c = plan_written

pub returns-clause-accepted : goal.returns-clause-accepted
returns-clause-accepted c = λ text sql plan schema kept spelled.
    (kept.query, (spelled_here text sql plan schema kept spelled, (kept.program, kept.certificate, certified_here text sql plan schema kept spelled)))

pub returns-clause-each : goal.returns-clause-each
returns-clause-each c = λ text sql plan schema query kept spelled is.
    let one = text_query schema sql (query_shape kept.query) (query_shape query) (spelled_here text sql plan schema kept spelled) is in
    let trees : tree_of kept.query.cond ≡ tree_of query.cond = ap (λ (query : QueryShape). query.cond) one in
    let certified = certified_here text sql plan schema kept spelled in
    let judged = c.certificates_are_checked_by_their_fields.ensures schema.columns.items kept.query.cond query.cond kept.program kept.certificate kept.certificate trees refl in
    let complete = c.valid_exactly_where_checked.ensures.complete schema.columns.items kept.query.cond kept.program kept.certificate certified.valid in
    let valid = c.valid_exactly_where_checked.ensures.sound schema.columns.items query.cond kept.program kept.certificate certified.valid.facts (sym judged ∙ complete) in
    (is, (kept.program, kept.certificate, certified_too schema.columns.items kept.query.cond query.cond plan kept.program kept.certificate valid certified))

pub returns-clause-served : goal.returns-clause-served
returns-clause-served c = λ text sql plan schema query groups served kept spelled is.
    let how = is.how in
    let certified = certified_here text sql plan schema kept spelled in
    let one = c.one_verdict.ensures.certified schema.columns.items query.cond kept.query.cond plan how.0 kept.program how.1 kept.certificate how.2 certified in
    subst (λ (program : ProgramShape). ByProgram program schema.columns.items groups served) one.0 how.3

pub returns-clause-file : goal.returns-clause-file
returns-clause-file c = λ text sql plan bytes layout schema rows old new served kept table spelled answers is.
    let same = of_one_table bytes layout answers.layout schema answers.schema rows answers.rows table answers.file in
    let rows_same : rows ≡ answers.rows = ap (λ (found : Found). found.rows) same in
    let shape = ap (λ (found : Found). found.schema) same in
    let by = returns-clause-served c text sql plan answers.schema answers.query (groups_of answers.rows) served kept (subst (IsSchemaText text) shape spelled) is in
    rw (columns_too schema answers.schema shape, rows_same) by
