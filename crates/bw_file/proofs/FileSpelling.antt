-- What is read of a table file is a table's bytes.
use Rattle.std.proofs.Common.{◌≡◌, ℕ, Bool, true, ◌&&◌, List, [], ◌∷◌, ◌++◌, length, map, Result}
use Rattle.std.proofs.Common.{Ok, Err, refl, sym, ap, subst, ◌∙◌, arith, inl, inr, ◌⊎◌}
use Rattle.std.specs.List.{flat_map, list_all}
use Rattle.std.proofs.lemmas.Bool.{eqb-true, or_cases}
use Rattle.std.proofs.lemmas.List.{length-map}
use Rattle.bw_model.specs.declared.column.Column.{Column}
use Rattle.bw_model.specs.declared.fault.Fault.{Fault}
use Rattle.bw_model.specs.declared.schema.Schema.{Schema}
use Rattle.bw_model.specs.Column.{admits_values}
use Rattle.bw_model.specs.Groups.{together, groups_of}
use Rattle.bw_model.specs.Row.{Value}
use Rattle.bw_model.specs.Schema.{IsSchema}
use Rattle.bw_model.specs.SchemaText.{column_shape, SchemaShape, schema_shape}
use Rattle.bw_file.specs.declared.layout.Layout.{Layout}
use Rattle.bw_file.specs.declared.order.FileOrder.{FileOrder}
use Rattle.bw_file.specs.declared.order.FileOrder.TheVariants.{ByRows}
use Rattle.bw_file.specs.Blocks.{segment_bytes}
use Rattle.bw_file.specs.FileBytes.{IsFileBytes, file_bytes, file_bytes2, bytes_of_version}
use Rattle.bw_file.specs.FileBytes.{front_bytes, name_bytes, header_bytes, segments_bytes}
use Rattle.bw_file.specs.FileBytes.{version_for, are_bounds, column_bytes}
use Rattle.bw_file.specs.Reading.{Tail, tail}
use Rattle.bw_file.specs.TableReading.{group_sizes, body, HeaderShape, header, Found, found_in}
use Rattle.bw_file.specs.TableReading.{is_version, IsReadAs, IsReadAfter}
use Rattle.bw_model.proofs.SameColumns.{columns_same}
use Rattle.bw_file.proofs.SpellingLemmas.{IsBytes, TakesBoth, schema_bytes, fits_version}
use Rattle.bw_file.proofs.SpellingLemmas.{head_bytes, IsHeader, header_takes}
use Rattle.bw_file.proofs.BodySpelling.{groups_found}

shapes_spelled : (columns : List Column) → flat_map schema_bytes (map column_shape columns) ≡ flat_map (λ (c : Column). column_bytes c.name c.lo c.hi c.nullable) columns
shapes_spelled [] = refl
shapes_spelled (c ∷ columns) = ap (λ (l : List ℕ). column_bytes c.name c.lo c.hi c.nullable ++ l) (shapes_spelled columns)

pub shapes_fit : (version : ℕ) (columns : List Column) → list_all (fits_version version) (map column_shape columns) ≡ list_all (λ (c : Column). are_bounds version c.lo c.hi) columns
shapes_fit version [] = refl
shapes_fit version (c ∷ columns) = ap (λ (b : Bool). are_bounds version c.lo c.hi && b) (shapes_fit version columns)

-- the text of a header, by its shape
pub head_is : (order : FileOrder) (version rows : ℕ) (layout : Layout) (schema : Schema)
    → head_bytes order (record { version = version; layout = layout; rows = rows; schema = schema_shape schema }) ≡ header_bytes order version layout schema.name schema.columns.items rows
unfolding header_bytes
head_is order version rows layout schema =
    let columns = schema.columns.items in
    ap (λ (n : ℕ). front_bytes order version layout n rows ++ name_bytes schema.name ++ flat_map schema_bytes (map column_shape columns)) (length-map columns column_shape)
    ∙ ap (λ (l : List ℕ). front_bytes order version layout (length columns) rows ++ name_bytes schema.name ++ l) (shapes_spelled columns)

of_version : (version : ℕ) (layout : Layout) (schema : Schema) (rows : List (List Value)) (bytes : List ℕ) → (version ≡ 1) ⊎ (version ≡ 2)
    → list_all (λ (c : Column). are_bounds version c.lo c.hi) schema.columns.items ≡ true → bytes ≡ bytes_of_version version layout schema.name schema.columns.items rows
    → (bytes ≡ file_bytes layout schema rows) ⊎ (bytes ≡ file_bytes2 layout schema rows)
of_version version layout schema rows bytes (inl one) narrow text =
    let room : list_all (λ (c : Column). are_bounds 1 c.lo c.hi) schema.columns.items ≡ true = rw one at narrow in
    let same : version_for schema.columns.items ≡ 1 = rw room refl in
    inl (rw same (rw one at text))
of_version version layout schema rows bytes (inr two) narrow text = inr (rw two at text)

-- the versions of a table file
versions : (version : ℕ) → is_version ByRows version ≡ true → (version ≡ 1) ⊎ (version ≡ 2)
versions version is = elim (or_cases _ _ is) [ inl a ↦ inl (eqb-true _ _ a) | inr b ↦ inr (eqb-true _ _ b) ]

-- what was read, by the header and by what follows it
abbrev pub of_groups : Layout → SchemaShape → List (List (List Value)) → Found
of_groups layout shape groups = record { layout = layout; schema = shape; rows = together groups }

pub body_found : (layout : Layout) (shape : SchemaShape) (r : Result (List (List (List Value)) × Tail) Fault) (found : Found) → found_in layout shape r ≡ Ok found
    → (y : List (List (List Value)) × Tail) × (r ≡ Ok y) × (of_groups layout shape y.0 ≡ found)
body_found layout shape (Ok y) found e = (y, refl, cc)
body_found layout shape (Err fault) found e = absurd cc

-- a table that is after a header
record Spelled (bytes : List ℕ) (found : Found) : Type 0 where
  schema : Schema
  shape : schema_shape schema ≡ found.schema
  text : IsFileBytes bytes found.layout schema found.rows

spelled_with : (bytes : List ℕ) (h : HeaderShape) (t : Tail) (schema : Schema) (y : List (List (List Value)) × Tail) → TakesBoth (tail 0 bytes) (head_bytes ByRows h) t → IsHeader ByRows h
    → schema_shape schema ≡ h.schema → body h.layout schema.columns.items (group_sizes h.rows) [] t ≡ Ok y → Spelled bytes (of_groups h.layout h.schema y.0)
unfolding bytes_of_version segments_bytes
spelled_with bytes h t schema y head known same e =
    let columns = schema.columns.items in
    let rows = together y.0 in
    let f = groups_found h.layout columns (group_sizes h.rows) h.rows [] t y refl e in
    let taken = f.taken head.rest in
    let cut : groups_of rows ≡ y.0 = rw f.after f.cut in
    let count : length rows ≡ h.rows = rw f.after f.count in
    let body_bytes : t.bytes ≡ segments_bytes h.layout columns rows = taken.0 ∙ ap (flat_map (segment_bytes h.layout columns)) (sym f.after ∙ sym cut) in
    let shaped : head_bytes ByRows h ≡ header_bytes ByRows h.version h.layout schema.name columns (length rows) =
    ap (λ (s : SchemaShape). head_bytes ByRows (record { version = h.version; layout = h.layout; rows = h.rows; schema = s })) (sym same)
    ∙ head_is ByRows h.version h.rows h.layout schema ∙ ap (header_bytes ByRows h.version h.layout schema.name columns) (sym count) in
    let whole : bytes ≡ bytes_of_version h.version h.layout schema.name columns rows = head.parts ∙ ap (λ (l : List ℕ). head_bytes ByRows h ++ l) body_bytes ∙ ap (λ (l : List ℕ). l ++ segments_bytes h.layout columns rows) shaped in
    let narrow : list_all (λ (c : Column). are_bounds h.version c.lo c.hi) columns ≡ true =
    sym (shapes_fit h.version columns) ∙ ap (λ (s : SchemaShape). list_all (fits_version h.version) s.columns) same ∙ known.bounds in
    let admitted : list_all (admits_values columns) rows ≡ true = rw f.after taken.1 in
    record {
      schema = schema;
      shape = same;
      text = record {
        under = subst IsSchema (sym same) known.schema;
        admitted = record { within_limit = omega (arith, count, known.within_limit); admitted = admitted };
        text = of_version h.version h.layout schema rows bytes (versions h.version known.version) narrow whole;
      };
    }

read_after : (bytes : List ℕ) (r : Result (HeaderShape × Tail) Fault) (found : Found) → IsBytes bytes → header (tail 0 bytes) ≡ r → IsReadAfter r (Ok found) → Spelled bytes found
read_after bytes (Ok x) found fits e read =
    let head = header_takes ByRows (tail 0 bytes) x fits e in
    let b = body_found x.0.layout x.0.schema (body x.0.layout read.0.columns.items (group_sizes x.0.rows) [] x.1) found (sym read.2) in
    subst (Spelled bytes) b.2 (spelled_with bytes x.0 x.1 read.0 b.0 head.0 head.1 read.1 b.1)
read_after bytes (Err fault) found fits e read = absurd (cc read)

-- so what is read of bytes is spelled by them
pub read_is_spelled : (bytes : List ℕ) (found : Found) → IsBytes bytes → IsReadAs bytes (Ok found)
    → (schema : Schema) × (schema_shape schema ≡ found.schema) × IsFileBytes bytes found.layout schema found.rows
read_is_spelled bytes found fits read =
    let s = read_after bytes (header (tail 0 bytes)) found fits refl read in (s.schema, s.shape, s.text)

-- and by any schema of that shape
pub read_is_spelled_by : (bytes : List ℕ) (found : Found) (schema : Schema) → IsBytes bytes → schema_shape schema ≡ found.schema → IsReadAs bytes (Ok found)
    → IsFileBytes bytes found.layout schema found.rows
unfolding bytes_of_version
read_is_spelled_by bytes found schema fits same read =
    let s = read_is_spelled bytes found fits read in
    let shapes : schema_shape s.0 ≡ schema_shape schema = s.1 ∙ sym same in
    let columns = columns_same s.0.columns.items schema.columns.items (ap (λ (h : SchemaShape). h.columns) shapes) in
    let names : s.0.name ≡ schema.name = ap (λ (h : SchemaShape). h.name) shapes in
    record {
      under = subst IsSchema shapes s.2.under;
      admitted = rw columns at s.2.admitted;
      text = rw (columns, names) at s.2.text;
    }
