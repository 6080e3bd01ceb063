-- A statement is spelled under every schema of the same name and columns.
use Rattle.std.proofs.Common.{◌≡◌, ℕ, List, ap, subst}
use Rattle.bw_model.specs.declared.column.Column.{Column}
use Rattle.bw_model.specs.declared.schema.Schema.{Schema}
use Rattle.bw_model.specs.SchemaText.{SchemaShape, schema_shape}
use Rattle.bw_sql.specs.QueryShape.{QueryShape}
use Rattle.bw_sql.specs.Demand.{meets}
use Rattle.bw_sql.specs.Grammar.{StatementIs}
use Rattle.bw_sql.specs.Statement.{Spells, tokens_of}
use Rattle.bw_model.proofs.SameColumns.{columns_same}

pub columns_too : (s t : Schema) → schema_shape s ≡ schema_shape t → s.columns.items ≡ t.columns.items
columns_too s t same = columns_same s.columns.items t.columns.items (ap (λ (h : SchemaShape). h.columns) same)

pub spells_too : (s t : Schema) (text : List ℕ) (query : QueryShape) → schema_shape s ≡ schema_shape t → Spells s text query →
    Spells t text query
spells_too s t text query same spells =
    let tokens = tokens_of spells.tokens in
    record {
      short = spells.short;
      tokens = spells.tokens;
      cut = spells.cut;
      spelled = subst (λ (name : List ℕ). StatementIs t.columns.items (λ d. meets name t.columns.items d) tokens query)
          (ap (λ (h : SchemaShape). h.name) same)
          (subst (λ (cs : List Column). StatementIs cs (λ d. meets s.name cs d) tokens query) (columns_too s t same) spells.spelled);
    }
