-- A schema text spells one schema or has one error: what is read is spelled, what is spelled is
-- read, and what is rejected is rejected by an error of schema texts.
use Rattle.std.proofs.Common.{◌≡◌, ◌∙◌, sym, ◌≤◌, ◌⊎◌, inl, inr, ℕ, List, Result, Ok, Err, refl}
use Rattle.std.proofs.Common.{nat_le}
use Rattle.std.proofs.lemmas.Bool.{and_parts, leb-true}
use Rattle.bw_model.specs.declared.fault.Fault.{Fault}
use Rattle.bw_model.specs.SchemaText.{SchemaShape, schema_of, IsSchemaText}
use Rattle.bw_model.proofs.FaultLemmas.{fault_so}
use Rattle.bw_model.proofs.SchemaCodes as schema
use Rattle.bw_model.proofs.SchemaCodes.{IsNumbered}
use Rattle.bw_model.proofs.SchemaSpelling.{spelled_of, read_of}

either_by : (text : List ℕ) (said : Result SchemaShape Fault) → schema_of text ≡ said
    → ((shape : SchemaShape) × IsSchemaText text shape) ⊎ ((fault : Fault) × (schema_of text ≡ Err fault))
either_by text (Ok shape) e = inl (shape, spelled_of text shape e)
either_by text (Err fault) e = inr (fault, e)

pub either : (text : List ℕ) → ((shape : SchemaShape) × IsSchemaText text shape) ⊎ ((fault : Fault) × (schema_of text ≡ Err fault))
either text = either_by text (schema_of text) refl

pub not_both : (text : List ℕ) (shape : SchemaShape) (fault : Fault) → IsSchemaText text shape → schema_of text ≡ Err fault → ⊥
not_both text shape fault spelled refused = let read : ◌≡◌ {A = Result SchemaShape Fault} (Ok shape) (Err fault) = sym (read_of text shape spelled) ∙ refused in cc

pub one_schema : (text : List ℕ) (shape other : SchemaShape) → IsSchemaText text shape → IsSchemaText text other → shape ≡ other
one_schema text shape other one two = let same : ◌≡◌ {A = Result SchemaShape Fault} (Ok shape) (Ok other) = sym (read_of text shape one) ∙ read_of text other two in cc

pub one_fault : (text : List ℕ) (fault other : Fault) → schema_of text ≡ Err fault → schema_of text ≡ Err other → fault ≡ other
one_fault text fault other one two = let same : ◌≡◌ {A = Result SchemaShape Fault} (Err fault) (Err other) = sym one ∙ two in cc

-- what is rejected is rejected by a number of schema texts
pub numbered : (text : List ℕ) (fault : Fault) → schema_of text ≡ Err fault → (101 ≤ fault.code) × (fault.code ≤ 106)
numbered text fault refused =
    let codes = and_parts (nat_le 101 fault.code) (nat_le fault.code 106) (fault_so IsNumbered (schema_of text) fault (schema.numbered text) refused) in
    (leb-true 101 fault.code codes.0, leb-true fault.code 106 codes.1)
