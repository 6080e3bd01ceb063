-- The canonical text of a program spells it.
use Rattle.std.proofs.Common.{◌≡◌, ◌∙◌, refl, sym, ap, subst, ℕ, zero, suc, ◌+◌, ◌<◌, ◌≤◌, true}
use Rattle.std.proofs.Common.{false, not, ◌&&◌, List, [], ◌∷◌, ◌++◌, length, Some, nat_le, nat_lt}
use Rattle.std.proofs.Common.{get_or, arith, decimal}
use Rattle.std.specs.List.{list_all, list_any}
use Rattle.std.proofs.lemmas.Bool.{ltb-true, lt-ltb, leb-true, not-true, or_parts}
use Rattle.std.proofs.lemmas.List.{append-nil, get_or-map, length-map}
use Rattle.std.proofs.lemmas.List.Sums.{position_or_len_is}
use Rattle.bw_model.specs.declared.column.Column.{Column}
use Rattle.bw_model.specs.Code.{width_at, slices_at}
use Rattle.bw_model.specs.Column.{names_of, column_named}
use Rattle.bw_text.specs.Lines.{cut_lines, numbered_words, numbered_from}
use Rattle.bw_model.specs.Name.{is_name, are_apart}
use Rattle.bw_text.specs.Text.{same_text}
use Rattle.bw_model.specs.Variable.{is_nullable}
use Rattle.bw_program.specs.declared.instr.Instr.{Instr}
use Rattle.bw_program.specs.declared.instr.Instr.TheVariants.{Load, Nulls, Fill, And, Or, Xor, Not}
use Rattle.bw_program.specs.declared.instr.Instr.TheVariants.{ByteLt, ByteEq, Skip}
use Rattle.bw_text.specs.declared.opcode.Opcode.TheVariants as op
use Rattle.bw_text.specs.Opcode.{opcode_spelling}
use Rattle.bw_program.specs.PrintText.{column_text, instr_words, result_words, lines_text}
use Rattle.bw_program.specs.PrintText.{print_text}
use Rattle.bw_program.specs.Program.{ProgramShape, is_program, is_sound, are_sound, instr_fits}
use Rattle.bw_program.specs.Program.{fits}
use Rattle.bw_program.specs.ProgramText.{SpellsInstr, load, nulls, fill, conjunction, disjunction}
use Rattle.bw_program.specs.ProgramText.{difference, negation, below, same, skip, SpellsLines}
use Rattle.bw_program.specs.ProgramText.{result_line, instr_line, IsProgramText}
use Rattle.bw_model.proofs.BitsLemmas.{both}
use Rattle.bw_text.proofs.DecimalLemmas.{natural_of-decimal, plain_number}
use Rattle.bw_text.proofs.RegisterLemmas.{plain_register, register_of-text}
use Rattle.bw_text.proofs.SpacedWords.{line_said}
use Rattle.bw_text.proofs.WordSpelling.{opcode_of-spelling, same_as_itself}
use Rattle.bw_text.specs.Printing.{is_plain_word, line_text}
use Rattle.bw_text.specs.Register.{is_register, register_text}
use Rattle.bw_model.proofs.NameLemmas.{plain_name}
use Rattle.bw_model.proofs.DigitLemmas.{width_at-le}

-- columns as a schema has them
record Named (columns : List Column) : Type 0 where
  apart : are_apart (names_of columns) ≡ true
  names : list_all is_name (names_of columns) ≡ true

-- a name is the first of that spelling
differs_from_each : (name : List ℕ) (names : List (List ℕ)) (c : ℕ) → list_any (same_text name) names ≡ false → c < length names → same_text name (get_or names c []) ≡ false
differs_from_each name [] c none lt = absurd (omega arith)
differs_from_each name (next ∷ names) zero none lt = (or_parts (same_text name next) (list_any (same_text name) names) none).0
differs_from_each name (next ∷ names) (suc c) none lt = differs_from_each name names c (or_parts (same_text name next) (list_any (same_text name) names) none).1 (omega arith)

differ : (names : List (List ℕ)) (k c : ℕ) → are_apart names ≡ true → k < c → c < length names → same_text (get_or names k []) (get_or names c []) ≡ false
unfolding are_apart
differ (name ∷ names) zero (suc c) apart less lt =
    let here = both (not (list_any (same_text name) names)) (are_apart names) apart in
    differs_from_each name names c (not-true (list_any (same_text name) names) here.0) (omega arith)
differ (name ∷ names) (suc k) (suc c) apart less lt =
    differ names k c (both (not (list_any (same_text name) names)) (are_apart names) apart).1 (omega arith) (omega arith)
differ _ k _ apart less lt = absurd (omega arith)

column_named-text : (columns : List Column) (c : ℕ) → are_apart (names_of columns) ≡ true → c < length columns → column_named columns (column_text columns c) ≡ Some c
unfolding column_named
column_named-text [] c apart lt = absurd (omega arith)
column_named-text (column ∷ columns) c apart lt =
    let all : List Column = column ∷ columns in
    let text : List ℕ = column_text (column ∷ columns) c in
    let count = length-map (column ∷ columns) (λ (x : Column). x.name) in
    let name_at : (k : ℕ) → k < length (column ∷ columns) → get_or (names_of (column ∷ columns)) k [] ≡ (get_or (column ∷ columns) k column).name =
    λ k small. get_or-map (λ (x : Column). x.name) (column ∷ columns) k column [] small in
    let before : (k : ℕ) → k < c → same_text (get_or (column ∷ columns) k column).name text ≡ false =
    λ k less. subst (λ (name : List ℕ). same_text name text ≡ false) (name_at k (omega arith)) (differ (names_of (column ∷ columns)) k c apart less (omega arith)) in
    let here : same_text (get_or (column ∷ columns) c column).name text ≡ true =
    subst (λ (name : List ℕ). same_text name text ≡ true) (name_at c lt) (same_as_itself text) in
    let at = position_or_len_is (λ (x : Column). same_text x.name text) (column ∷ columns) c column (omega arith) before (λ _. here) in
    rw (at, lt-ltb c (length (column ∷ columns)) lt) refl

-- the words of a line are plain ones
plain_column : (columns : List Column) (c : ℕ) → list_all is_name (names_of columns) ≡ true → c < length columns → is_plain_word (column_text columns c) ≡ true
plain_column [] c names lt = absurd (omega arith)
plain_column (column ∷ columns) zero names lt = plain_name column.name (both (is_name column.name) (list_all is_name (names_of columns)) names).0
plain_column (column ∷ columns) (suc c) names lt = plain_column columns c (both (is_name column.name) (list_all is_name (names_of columns)) names).1 (omega arith)

-- three registers
three : (r x y : ℕ) → (is_register r && is_register x && is_register y) ≡ true → (r < 64) × (x < 64) × (y < 64)
three r x y sound =
    let last = both (is_register r && is_register x) (is_register y) sound in
    let two = both (is_register r) (is_register x) last.0 in
    (ltb-true r 64 two.0, ltb-true x 64 two.1, ltb-true y 64 last.1)

plain_three : (r x y : ℕ) → (is_register r && is_register x && is_register y) ≡ true → list_all is_plain_word (register_text r ∷ register_text x ∷ register_text y ∷ []) ≡ true
plain_three r x y sound =
    let all = three r x y sound in
    rw (plain_register r all.0, plain_register x all.1, plain_register y all.2) refl

-- an instruction's words spell it
module _ (columns : List Column) (named : Named columns) where
  instr_spelled : (end number : ℕ) (instr : Instr) → end ≤ 4096 → is_sound end number instr ≡ true → instr_fits columns instr ≡ true →
      SpellsInstr columns end number (instr_words columns instr) instr
  instr_spelled end number (Load r column bit) few sound fit =
      let there = both (nat_lt column (length columns)) (nat_lt bit (width_at columns column)) fit in
      let within = ltb-true bit (width_at columns column) there.1 in
      load (opcode_of-spelling op.Load) (register_of-text r (ltb-true r 64 sound)) (column_named-text columns column named.apart (ltb-true column (length columns) there.0))
      (natural_of-decimal bit (omega (arith, width_at-le columns column))) within
  instr_spelled end number (Nulls r column) few sound fit =
      let there = both (nat_lt column (length columns)) (is_nullable columns column) fit in
      nulls (opcode_of-spelling op.Nulls) (register_of-text r (ltb-true r 64 sound)) (column_named-text columns column named.apart (ltb-true column (length columns) there.0)) there.1
  instr_spelled end number (Fill r true) few sound fit =
      fill (opcode_of-spelling op.Fill) (register_of-text r (ltb-true r 64 sound)) (natural_of-decimal 1 (omega arith)) (omega arith)
  instr_spelled end number (Fill r false) few sound fit =
      fill (opcode_of-spelling op.Fill) (register_of-text r (ltb-true r 64 sound)) (natural_of-decimal 0 (omega arith)) (omega arith)
  instr_spelled end number (And r x y) few sound fit =
      let all = three r x y sound in
      conjunction (opcode_of-spelling op.And) (register_of-text r all.0) (register_of-text x all.1) (register_of-text y all.2)
  instr_spelled end number (Or r x y) few sound fit =
      let all = three r x y sound in
      disjunction (opcode_of-spelling op.Or) (register_of-text r all.0) (register_of-text x all.1) (register_of-text y all.2)
  instr_spelled end number (Xor r x y) few sound fit =
      let all = three r x y sound in
      difference (opcode_of-spelling op.Xor) (register_of-text r all.0) (register_of-text x all.1) (register_of-text y all.2)
  instr_spelled end number (Not r x) few sound fit =
      let two = both (is_register r) (is_register x) sound in
      negation (opcode_of-spelling op.Not) (register_of-text r (ltb-true r 64 two.0)) (register_of-text x (ltb-true x 64 two.1))
  instr_spelled end number (ByteLt r column slice k) few sound fit =
      let valid = both (is_register r) (nat_le k 255) sound in
      let there = both (nat_lt column (length columns)) (nat_lt slice (slices_at columns column)) fit in
      let within = ltb-true slice (slices_at columns column) there.1 in
      let small : k ≤ 255 = leb-true k 255 valid.1 in
      below (opcode_of-spelling op.ByteLt) (register_of-text r (ltb-true r 64 valid.0)) (column_named-text columns column named.apart (ltb-true column (length columns) there.0))
      (natural_of-decimal slice (omega (arith, width_at-le columns column))) within (natural_of-decimal k (omega arith)) small
  instr_spelled end number (ByteEq r column slice k) few sound fit =
      let valid = both (is_register r) (nat_le k 255) sound in
      let there = both (nat_lt column (length columns)) (nat_lt slice (slices_at columns column)) fit in
      let within = ltb-true slice (slices_at columns column) there.1 in
      let small : k ≤ 255 = leb-true k 255 valid.1 in
      same (opcode_of-spelling op.ByteEq) (register_of-text r (ltb-true r 64 valid.0)) (column_named-text columns column named.apart (ltb-true column (length columns) there.0))
      (natural_of-decimal slice (omega (arith, width_at-le columns column))) within (natural_of-decimal k (omega arith)) small
  instr_spelled end number (Skip x target) few sound fit =
      let ends = both (is_register x && nat_lt number target) (nat_le target end) sound in
      let begins = both (is_register x) (nat_lt number target) ends.0 in
      let inside : target ≤ end = leb-true target end ends.1 in
      skip (opcode_of-spelling op.Skip) (register_of-text x (ltb-true x 64 begins.0)) (natural_of-decimal target (omega arith)) (ltb-true number target begins.1) inside

  plain_byte : (r column slice k : ℕ) → r < 64 → column < length columns → slice < slices_at columns column → k ≤ 255 →
      list_all is_plain_word (register_text r ∷ column_text columns column ∷ decimal slice ∷ decimal k ∷ []) ≡ true
  plain_byte r column slice k register there within small =
      rw (plain_register r register, plain_column columns column named.names there, plain_number slice (omega (arith, width_at-le columns column)), plain_number k (omega arith)) refl

  -- and its line is cut into them
  instr_said : (line end number : ℕ) (instr : Instr) (rest : List ℕ) → end ≤ 4096 → is_sound end number instr ≡ true → instr_fits columns instr ≡ true →
      numbered_from line (cut_lines (line_text (instr_words columns instr) ++ rest)) ≡ numbered_words line (instr_words columns instr) ∷ numbered_from (line + 1) (cut_lines rest)
  instr_said line end number (Load r column bit) rest few sound fit =
      let there = both (nat_lt column (length columns)) (nat_lt bit (width_at columns column)) fit in
      let within = ltb-true bit (width_at columns column) there.1 in
      line_said line (opcode_spelling op.Load) (register_text r ∷ column_text columns column ∷ decimal bit ∷ []) rest refl refl
      (rw (plain_register r (ltb-true r 64 sound), plain_column columns column named.names (ltb-true column (length columns) there.0), plain_number bit (omega (arith, width_at-le columns column))) refl)
  instr_said line end number (Nulls r column) rest few sound fit =
      let there = both (nat_lt column (length columns)) (is_nullable columns column) fit in
      line_said line (opcode_spelling op.Nulls) (register_text r ∷ column_text columns column ∷ []) rest refl refl
      (rw (plain_register r (ltb-true r 64 sound), plain_column columns column named.names (ltb-true column (length columns) there.0)) refl)
  instr_said line end number (Fill r true) rest few sound fit =
      line_said line (opcode_spelling op.Fill) (register_text r ∷ decimal 1 ∷ []) rest refl refl (rw (plain_register r (ltb-true r 64 sound), plain_number 1 (omega arith)) refl)
  instr_said line end number (Fill r false) rest few sound fit =
      line_said line (opcode_spelling op.Fill) (register_text r ∷ decimal 0 ∷ []) rest refl refl (rw (plain_register r (ltb-true r 64 sound), plain_number 0 (omega arith)) refl)
  instr_said line end number (And r x y) rest few sound fit =
      line_said line (opcode_spelling op.And) (register_text r ∷ register_text x ∷ register_text y ∷ []) rest refl refl (plain_three r x y sound)
  instr_said line end number (Or r x y) rest few sound fit =
      line_said line (opcode_spelling op.Or) (register_text r ∷ register_text x ∷ register_text y ∷ []) rest refl refl (plain_three r x y sound)
  instr_said line end number (Xor r x y) rest few sound fit =
      line_said line (opcode_spelling op.Xor) (register_text r ∷ register_text x ∷ register_text y ∷ []) rest refl refl (plain_three r x y sound)
  instr_said line end number (Not r x) rest few sound fit =
      let two = both (is_register r) (is_register x) sound in
      line_said line (opcode_spelling op.Not) (register_text r ∷ register_text x ∷ []) rest refl refl (rw (plain_register r (ltb-true r 64 two.0), plain_register x (ltb-true x 64 two.1)) refl)
  instr_said line end number (ByteLt r column slice k) rest few sound fit =
      let valid = both (is_register r) (nat_le k 255) sound in
      let there = both (nat_lt column (length columns)) (nat_lt slice (slices_at columns column)) fit in
      line_said line (opcode_spelling op.ByteLt) (register_text r ∷ column_text columns column ∷ decimal slice ∷ decimal k ∷ []) rest refl refl
      (plain_byte r column slice k (ltb-true r 64 valid.0) (ltb-true column (length columns) there.0) (ltb-true slice (slices_at columns column) there.1) (leb-true k 255 valid.1))
  instr_said line end number (ByteEq r column slice k) rest few sound fit =
      let valid = both (is_register r) (nat_le k 255) sound in
      let there = both (nat_lt column (length columns)) (nat_lt slice (slices_at columns column)) fit in
      line_said line (opcode_spelling op.ByteEq) (register_text r ∷ column_text columns column ∷ decimal slice ∷ decimal k ∷ []) rest refl refl
      (plain_byte r column slice k (ltb-true r 64 valid.0) (ltb-true column (length columns) there.0) (ltb-true slice (slices_at columns column) there.1) (leb-true k 255 valid.1))
  instr_said line end number (Skip x target) rest few sound fit =
      let ends = both (is_register x && nat_lt number target) (nat_le target end) sound in
      let begins = both (is_register x) (nat_lt number target) ends.0 in
      let inside : target ≤ end = leb-true target end ends.1 in
      line_said line (opcode_spelling op.Skip) (register_text x ∷ decimal target ∷ []) rest refl refl
      (rw (plain_register x (ltb-true x 64 begins.0), plain_number target (omega arith)) refl)

  lines_spelled : (line end number : ℕ) (instrs : List Instr) (result : ℕ) → end ≤ 4096 → result < 64 → are_sound end number instrs ≡ true → list_all (instr_fits columns) instrs ≡ true → SpellsLines columns end number (numbered_from line (cut_lines (lines_text columns instrs result))) instrs result
  unfolding lines_text are_sound cut_lines numbered_from
  lines_spelled line end number [] result few lt sound fit =
      let plain : list_all is_plain_word (register_text result ∷ []) ≡ true = rw (plain_register result lt) refl in
      let said = line_said line (opcode_spelling op.Result) (register_text result ∷ []) [] refl refl plain in
      let whole : numbered_from line (cut_lines (line_text (result_words result))) ≡ numbered_words line (result_words result) ∷ [] =
      ap (λ (text : List ℕ). numbered_from line (cut_lines text)) (sym (append-nil (line_text (result_words result)))) ∙ said in
      rw whole (result_line (opcode_of-spelling op.Result) (register_of-text result lt))
  lines_spelled line end number (instr ∷ instrs) result few lt sound fit =
      let s = both (is_sound end number instr) (are_sound end (suc number) instrs) sound in
      let f = both (instr_fits columns instr) (list_all (instr_fits columns) instrs) fit in
      rw (instr_said line end number instr (lines_text columns instrs result) few s.0 f.0)
      (instr_line (instr_spelled end number instr few s.0 f.0) (lines_spelled (line + 1) end (suc number) instrs result few lt s.1 f.1))

pub text_spells : (columns : List Column) (program : ProgramShape) → are_apart (names_of columns) ≡ true → list_all is_name (names_of columns) ≡ true → is_program program ≡ true →
    fits columns program ≡ true → IsProgramText columns (print_text columns program) program
unfolding fits
text_spells columns program apart names valid fit =
    let named : Named columns = record { apart = apart; names = names } in
    let limits = both (nat_le (length program.instrs) 4096 && is_register program.result) (are_sound (length program.instrs) 0 program.instrs) valid in
    let sizes = both (nat_le (length program.instrs) 4096) (is_register program.result) limits.0 in
    let few = leb-true (length program.instrs) 4096 sizes.0 in
    (few, lines_spelled columns named 1 (length program.instrs) 0 program.instrs program.result few (ltb-true program.result 64 sizes.1) limits.1 fit)
