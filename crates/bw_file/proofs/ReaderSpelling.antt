-- A reader of a table's bytes.
use Rattle.std.proofs.Common.{◌≡◌, ℕ, ◌-◌, Bool, true, false, List, [], ◌++◌, length, Option, Some}
use Rattle.std.proofs.Common.{None, Ok, Err, refl, sym, ap, subst, ◌∙◌, append-nil}
use Rattle.std.specs.Io.KnownBytes.{Consumes}
use Rattle.bw_model.specs.declared.column.Column.{Column}
use Rattle.bw_model.specs.declared.fault.Fault.{Fault}
use Rattle.bw_model.specs.declared.schema.Schema.{Schema}
use Rattle.bw_model.specs.Groups.{groups_of, together}
use Rattle.bw_model.specs.Row.{Value}
use Rattle.bw_model.specs.SchemaText.{SchemaShape, schema_shape}
use Rattle.bw_file.specs.declared.layout.Layout.{Layout}
use Rattle.bw_file.specs.declared.table_reader.TableReader.{TableReader}
use Rattle.bw_file.specs.FileBytes.{IsFileBytes}
use Rattle.bw_file.specs.Reading.{tail, State}
use Rattle.bw_io.specs.Source.{is_input_fault}
use Rattle.bw_file.specs.TableReading.{group_sizes, body, header, Found, found_as, IsReadAfter}
use Rattle.bw_file.specs.TableReader.{header_stated, ReadProgress, ReadWhole, AnswersFault}
use Rattle.bw_file.specs.TableReader.{ReturnsFirst}
use Rattle.bw_file.proofs.BodySpelling.{groups_found}
use Rattle.bw_model.proofs.SameColumns.{columns_same}
use Rattle.bw_file.proofs.FileSpelling.{of_groups, body_found}
use Rattle.bw_file.proofs.ReaderLemmas.{head_at}
use Rattle.bw_file.proofs.SpelledFile.{spelled_is_read, bytes_read, done_is}

abbrev known_as : List ℕ → Option (List ℕ)
known_as bytes = Some bytes

some_is : (xs ys : List ℕ) → known_as xs ≡ known_as ys → xs ≡ ys
some_is xs ys e = cc

-- what is left of known bytes
known_rest : (known new : Option (List ℕ)) (bytes taken : List ℕ) → known ≡ Some bytes → Consumes known new taken → (rest : List ℕ) × (new ≡ Some rest) × (bytes ≡ taken ++ rest)
known_rest None new bytes taken e consumed = absurd cc
known_rest (Some xs) None bytes taken e consumed = absurd consumed
known_rest (Some xs) (Some ys) bytes taken e consumed = (ys, refl, sym (some_is xs bytes e) ∙ consumed)

pub no_fault : (bytes : List ℕ) (layout : Layout) (schema : Schema) (rows : List (List Value)) → IsFileBytes bytes layout schema rows → (start old now : State) (fault : Fault)
    → start.known ≡ Some bytes → AnswersFault start old now fault → is_input_fault fault ≡ true
no_fault bytes layout schema rows file start old now fault known p = go (is_input_fault fault) refl
  where
    go : (b : Bool) → is_input_fault fault ≡ b → is_input_fault fault ≡ true
    go true e = e
    go false e =
        let has = p.first e in
        let left = known_rest start.known now.known bytes p.bytes known p.took.consumed in
        let coming : left.0 ≡ has.rest = rw left.1 at has.coming in
        let all : bytes ≡ p.bytes ++ has.rest = left.2 ∙ ap (λ (more : List ℕ). p.bytes ++ more) coming in
        let contrary = bytes_read bytes layout schema rows (Err fault) file (rw all has.read) in
        absurd (cc contrary)

pub whole_table : (bytes : List ℕ) (layout : Layout) (schema : Schema) (rows : List (List Value)) → IsFileBytes bytes layout schema rows → (start now : State) (found : Found)
    → start.known ≡ Some bytes → ReadWhole start now found → found ≡ found_as layout (schema_shape schema) rows
whole_table bytes layout schema rows file start now found known p =
    let left = known_rest start.known now.known bytes p.bytes known p.took.consumed in
    let nothing : left.0 ≡ [] = rw left.1 at p.ended in
    let all : bytes ≡ p.bytes = left.2 ∙ ap (λ (more : List ℕ). p.bytes ++ more) nothing ∙ append-nil p.bytes in
    sym (done_is _ _ (bytes_read bytes layout schema rows (Ok found) file (rw all p.read)))

pub gave_first : (bytes : List ℕ) (layout : Layout) (schema : Schema) (rows : List (List Value)) → IsFileBytes bytes layout schema rows → (start now : State) (reader : TableReader)
    (groups : List (List (List Value))) → start.known ≡ Some bytes → ReadProgress start now reader groups → ReturnsFirst reader groups layout schema rows
gave_first bytes layout schema rows file start now reader groups known so_far =
    let head = so_far.head in
    let on = so_far.on in
    let after = so_far.after in
    let own = reader.placement.value.schema in
    let h = header_stated reader.version reader in
    let a = known_rest start.known after.known bytes head.bytes known head.took.consumed in
    let b = known_rest after.known now.known a.0 on.bytes a.1 on.took.consumed in
    let all : bytes ≡ head.bytes ++ (on.bytes ++ b.0) = a.2 ∙ ap (λ (more : List ℕ). head.bytes ++ more) b.2 in
    let e : header (tail 0 bytes) ≡ Ok (h, tail after.offset (on.bytes ++ b.0)) = ap (λ (l : List ℕ). header (tail 0 l)) all ∙ head_at start after h (on.bytes ++ b.0) so_far.first head in
    let read = subst (λ r. IsReadAfter r (Ok (found_as layout (schema_shape schema) rows))) e (spelled_is_read bytes layout schema rows file) in
    let under : read.0.columns.items ≡ own.columns.items = columns_same read.0.columns.items own.columns.items (ap (λ (s : SchemaShape). s.columns) read.1) in
    let found = body_found reader.layout (schema_shape own) (body reader.layout read.0.columns.items (group_sizes reader.rows) [] (tail after.offset (on.bytes ++ b.0))) (found_as layout (schema_shape schema) rows) (sym read.2) in
    let y = found.0 in
    let same : of_groups reader.layout (schema_shape own) y.0 ≡ found_as layout (schema_shape schema) rows = found.2 in
    let whole : body reader.layout own.columns.items (group_sizes reader.rows) [] (tail after.offset (on.bytes ++ b.0)) ≡ Ok y =
    ap (λ (columns : List Column). body reader.layout columns (group_sizes reader.rows) [] (tail after.offset (on.bytes ++ b.0))) (sym under) ∙ found.1 in
    let rest : body reader.layout own.columns.items (group_sizes (reader.rows - reader.given)) groups (tail now.offset b.0) ≡ Ok y = sym (on.on b.0) ∙ whole in
    let first = groups_found reader.layout own.columns.items (group_sizes (reader.rows - reader.given)) (reader.rows - reader.given) groups (tail now.offset b.0) y refl rest in
    let cut = groups_found reader.layout own.columns.items (group_sizes reader.rows) reader.rows [] (tail after.offset (on.bytes ++ b.0)) y refl whole in
    let made : y.0 ≡ cut.groups = cut.after in
    let table : together y.0 ≡ rows = ap (λ (f : Found). f.rows) same in
    record {
      layout = ap (λ (f : Found). f.layout) same;
      schema = ap (λ (f : Found). f.schema) same;
      count = sym cut.count ∙ ap (λ (l : List (List (List Value))). length (together l)) (sym made) ∙ ap length table;
      more = first.groups;
      first = sym first.after ∙ made ∙ sym cut.cut ∙ ap (λ (l : List (List (List Value))). groups_of (together l)) (sym made) ∙ ap groups_of table;
    }
