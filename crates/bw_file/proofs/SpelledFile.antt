-- What is spelled is read: a table's bytes are read as that table, and so they are of one table.
use Rattle.std.proofs.Common.{◌≡◌, ◌-ℤ◌, ℕ, pos, ◌+◌, ◌-◌, ◌^◌, ◌<◌, Bool, true, false, cond, List}
use Rattle.std.proofs.Common.{[], ◌∷◌, ◌++◌, length, length-append, map, take, Result, Ok, Err}
use Rattle.std.proofs.Common.{refl, sym, ap, subst, ◌∙◌, arith, inl, inr, ◌⊎◌}
use Rattle.std.proofs.Math.Seq.{take-append-add}
use Rattle.std.specs.List.{list_all}
use Rattle.std.proofs.lemmas.Bool.{cases_lt}
use Rattle.std.proofs.lemmas.List.{length-map, take-append-le}
use Rattle.bw_model.specs.declared.column.Column.{Column}
use Rattle.bw_model.specs.declared.fault.Fault.{Fault}
use Rattle.bw_model.specs.declared.schema.Schema.{Schema}
use Rattle.bw_model.specs.Fault.{at_byte}
use Rattle.bw_model.specs.Name.{are_apart}
use Rattle.bw_model.specs.Row.{Value}
use Rattle.bw_model.specs.SchemaText.{column_shape, SchemaShape, schema_shape}
use Rattle.bw_model.proofs.GroupLemmas.{groups_of-table}
use Rattle.bw_file.specs.declared.layout.Layout.{Layout}
use Rattle.bw_file.specs.declared.order.FileOrder.TheVariants.{ByRows}
use Rattle.bw_file.specs.FileBytes.{IsFileBytes, bytes_of_version, segments_bytes, version_for}
use Rattle.bw_file.specs.FileBytes.{are_bounds}
use Rattle.bw_file.specs.Reading.{Tail, tail, NeedsEach}
use Rattle.bw_file.specs.TableReading.{group_sizes, body, HeaderShape, header, Found, found_as}
use Rattle.bw_file.specs.TableReading.{found_in, is_version, IsReadAfter, IsReadAs}
use Rattle.bw_model.proofs.SameColumns.{columns_same}
use Rattle.bw_file.proofs.FileSpelling.{head_is, shapes_fit}
use Rattle.bw_file.proofs.SpellingLemmas.{head_bytes, IsHeader}
use Rattle.bw_file.proofs.SpelledHeader.{IsWhole, ReadsText, header_reads}
use Rattle.bw_file.proofs.SpelledBody.{groups_read}
use Rattle.bw_model.proofs.SchemaLemmas.{shape_names-of, ordered, narrow}

-- version 2 has room for every column
pub room_in_2 : (columns : List Column) → list_all (λ (c : Column). are_bounds 2 c.lo c.hi) columns ≡ true
unfolding are_bounds
room_in_2 [] = refl
room_in_2 (c ∷ columns) = rw (ordered c.lo c.hi c.ordered, narrow (c.hi -ℤ c.lo) (pos (2 ^ 63)) c.narrow) (room_in_2 columns)

-- and the version of a table's file has
abbrev HasRoom : ℕ → List Column → Type 0
HasRoom version columns = (is_version ByRows version ≡ true) × (list_all (λ (c : Column). are_bounds version c.lo c.hi) columns ≡ true)

room_by : (columns : List Column) (b : Bool) → list_all (λ (c : Column). are_bounds 1 c.lo c.hi) columns ≡ b → HasRoom (cond b 1 2) columns
room_by columns true e = (refl, e)
room_by columns false e = (refl, room_in_2 columns)

room_in : (columns : List Column) → HasRoom (version_for columns) columns
room_in columns = room_by columns (list_all (λ (c : Column). are_bounds 1 c.lo c.hi) columns) refl

-- a file whose header and body are read so is rejected at its end if it is cut
cut_after : (bytes after : List ℕ) (h : HeaderShape) (schema : Schema) (n : ℕ) → bytes ≡ head_bytes ByRows h ++ after → schema_shape schema ≡ h.schema → ReadsText header (head_bytes ByRows h) h
    → NeedsEach (body h.layout schema.columns.items (group_sizes h.rows) []) (0 + length (head_bytes ByRows h)) after → n < length bytes → IsReadAs (take n bytes) (Err (at_byte 305 n))
cut_after bytes after h schema n parts shape head needs less =
    elim (cases_lt n (length (head_bytes ByRows h))) [
      | inl within ↦
          let cut : take n bytes ≡ take n (head_bytes ByRows h) = ap (take n) parts ∙ take-append-le n (head_bytes ByRows h) after (omega (arith, within)) in
          let place : 0 + n ≡ n = omega arith in
          let e : header (tail 0 (take n bytes)) ≡ Err (at_byte 305 n) =
          ap (λ (l : List ℕ). header (tail 0 l)) cut ∙ head.needs 0 n within ∙ ap (λ (k : ℕ). Err (at_byte 305 k)) place in
          subst (λ h. IsReadAfter h (Err (at_byte 305 n))) (sym e) refl
      | inr past ↦
          let m = n - length (head_bytes ByRows h) in
          let more : n ≡ length (head_bytes ByRows h) + m = omega (arith, past) in
          let cut : take n bytes ≡ head_bytes ByRows h ++ take m after = ap (take n) parts ∙ ap (λ (k : ℕ). take k (head_bytes ByRows h ++ after)) more ∙ take-append-add (head_bytes ByRows h) after m in
          let e : header (tail 0 (take n bytes)) ≡ Ok (h, tail (0 + length (head_bytes ByRows h)) (take m after)) = ap (λ (l : List ℕ). header (tail 0 l)) cut ∙ head.reads 0 (take m after) in
          let short = needs m (omega (arith, less, ap length parts ∙ length-append (head_bytes ByRows h) after, past)) in
          let place : 0 + length (head_bytes ByRows h) + m ≡ n = omega (arith, past) in
          subst (λ h. IsReadAfter h (Err (at_byte 305 n))) (sym e) (schema, shape, sym (ap (found_in h.layout h.schema) short ∙ ap (λ (k : ℕ). Err (at_byte 305 k)) place))
    ]

-- bytes are read as a table, and their beginnings are rejected at their ends
abbrev IsReadWhole : List ℕ → Layout → Schema → List (List Value) → Type 0
IsReadWhole bytes layout schema rows =
    IsReadAs bytes (Ok (found_as layout (schema_shape schema) rows)) × ((n : ℕ) → n < length bytes → IsReadAs (take n bytes) (Err (at_byte 305 n)))

of_version : (version : ℕ) (bytes : List ℕ) (layout : Layout) (schema : Schema) (rows : List (List Value)) → HasRoom version schema.columns.items → IsFileBytes bytes layout schema rows
    → bytes ≡ bytes_of_version version layout schema.name schema.columns.items rows → IsReadWhole bytes layout schema rows
unfolding bytes_of_version segments_bytes
of_version version bytes layout schema rows room file text =
    let columns = schema.columns.items in
    let h : HeaderShape = record { version = version; layout = layout; rows = length rows; schema = schema_shape schema } in
    let count : length (map column_shape columns) ≡ length columns = length-map columns column_shape in
    let known : IsHeader ByRows h = record { version = room.0; within_limit = file.admitted.within_limit; bounds = shapes_fit version columns ∙ room.1; schema = file.under } in
    let is : IsWhole ByRows h = record {
      header = known;
      nonempty = omega (arith, count, schema.inhabited);
      limited = omega (arith, count, schema.limited);
      apart = ap are_apart (shape_names-of columns) ∙ schema.apart;
    } in
    let after = segments_bytes layout columns rows in
    let parts : bytes ≡ head_bytes ByRows h ++ after = text ∙ ap (λ (l : List ℕ). l ++ after) (sym (head_is ByRows version (length rows) layout schema)) in
    let head = header_reads ByRows h is in
    let e : header (tail 0 bytes) ≡ Ok (h, tail (0 + length (head_bytes ByRows h)) after) = ap (λ (l : List ℕ). header (tail 0 l)) parts ∙ head.reads 0 after in
    let groups = groups_read layout columns rows (0 + length (head_bytes ByRows h)) file.admitted.admitted in
    let whole = ap (found_in layout (schema_shape schema)) groups.1 ∙ ap (λ (l : List (List Value)). Ok (found_as layout (schema_shape schema) l)) (groups_of-table rows) in
    (rw e (schema, refl, sym whole), λ n. cut_after bytes after h schema n parts refl head groups.2)

read_whole : (bytes : List ℕ) (layout : Layout) (schema : Schema) (rows : List (List Value)) → IsFileBytes bytes layout schema rows → IsReadWhole bytes layout schema rows
read_whole bytes layout schema rows file =
    elim file.text [
      | inl shorter ↦ of_version (version_for schema.columns.items) bytes layout schema rows (room_in schema.columns.items) file shorter
      | inr longer ↦ of_version 2 bytes layout schema rows (refl, room_in_2 schema.columns.items) file longer
    ]

pub spelled_is_read : (bytes : List ℕ) (layout : Layout) (schema : Schema) (rows : List (List Value)) → IsFileBytes bytes layout schema rows
    → IsReadAs bytes (Ok (found_as layout (schema_shape schema) rows))
spelled_is_read bytes layout schema rows file = (read_whole bytes layout schema rows file).0

pub cut_is_refused : (bytes : List ℕ) (layout : Layout) (schema : Schema) (rows : List (List Value)) (n : ℕ) → IsFileBytes bytes layout schema rows → n < length bytes
    → IsReadAs (take n bytes) (Err (at_byte 305 n))
cut_is_refused bytes layout schema rows n file less = (read_whole bytes layout schema rows file).1 n less

-- bytes are read in one way
after_one_way : (r : Result (HeaderShape × Tail) Fault) (one other : Result Found Fault) → IsReadAfter r one → IsReadAfter r other → one ≡ other
after_one_way (Ok x) one other p q =
    let same = columns_same p.0.columns.items q.0.columns.items (ap (λ (s : SchemaShape). s.columns) (p.1 ∙ sym q.1)) in
    p.2 ∙ ap (λ (columns : List Column). found_in x.0.layout x.0.schema (body x.0.layout columns (group_sizes x.0.rows) [] x.1)) same ∙ sym q.2
after_one_way (Err fault) one other p q = p ∙ sym q

pub read_one_way : (bytes : List ℕ) (one other : Result Found Fault) → IsReadAs bytes one → IsReadAs bytes other → one ≡ other
read_one_way bytes one other p q = after_one_way (header (tail 0 bytes)) one other p q

abbrev done : Found → Result Found Fault
done x = Ok x

pub done_is : (x y : Found) → done x ≡ done y → x ≡ y
done_is x y e = cc

pub of_one_table : (bytes : List ℕ) (layout other_layout : Layout) (schema other_schema : Schema) (rows other_rows : List (List Value))
    → IsFileBytes bytes layout schema rows → IsFileBytes bytes other_layout other_schema other_rows
    → found_as layout (schema_shape schema) rows ≡ found_as other_layout (schema_shape other_schema) other_rows
of_one_table bytes layout other_layout schema other_schema rows other_rows one other =
    done_is _ _ (read_one_way bytes _ _ (spelled_is_read bytes layout schema rows one) (spelled_is_read bytes other_layout other_schema other_rows other))

-- so what is read of a table's bytes is the table
pub bytes_read : (bytes : List ℕ) (layout : Layout) (schema : Schema) (rows : List (List Value)) (read : Result Found Fault) → IsFileBytes bytes layout schema rows → IsReadAs bytes read
    → Ok (found_as layout (schema_shape schema) rows) ≡ read
bytes_read bytes layout schema rows read file is = read_one_way bytes (Ok (found_as layout (schema_shape schema) rows)) read (spelled_is_read bytes layout schema rows file) is
