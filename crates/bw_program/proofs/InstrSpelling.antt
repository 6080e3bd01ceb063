-- What is read of a line is spelled by it, and what is spelled is read.
use Rattle.std.proofs.Common.{◌≡◌, ◌∙◌, refl, sym, ap, subst, ℕ, ◌<◌, ◌≤◌, ◌==◌, true, false, not}
use Rattle.std.proofs.Common.{List, [], ◌∷◌, drop, Option, Some, None, Result, Ok, Err, nat_le}
use Rattle.std.proofs.Common.{nat_lt, ltb-true, ltb-false, leb-false, lt-ltb, le-ltb}
use Rattle.std.proofs.lemmas.Bool.{lt-leb, not-false}
use Rattle.bw_model.specs.declared.column.Column.{Column}
use Rattle.bw_model.specs.declared.fault.Fault.{Fault}
use Rattle.bw_model.specs.Code.{width_at, slices_at}
use Rattle.bw_model.specs.Column.{column_named}
use Rattle.bw_model.specs.Fault.{at_line, ◌>>=◌, refused_if}
use Rattle.bw_text.specs.Lines.{NumberedWords}
use Rattle.bw_text.specs.Number.{natural_of}
use Rattle.bw_model.specs.Variable.{is_nullable}
use Rattle.bw_model.proofs.FaultLemmas.{not_refused}
use Rattle.bw_program.specs.declared.instr.Instr.{Instr}
use Rattle.bw_program.specs.declared.instr.Instr.TheVariants.{Load, Nulls, Fill, And, Or, Xor, Not}
use Rattle.bw_program.specs.declared.instr.Instr.TheVariants.{ByteLt, ByteEq, Skip}
use Rattle.bw_text.specs.declared.opcode.Opcode.{Opcode}
use Rattle.bw_text.specs.declared.opcode.Opcode.TheVariants as op
use Rattle.bw_text.specs.Opcode.{opcode_of}
use Rattle.bw_program.specs.ProgramText.{found_on, load_on, nulls_on, fill_on, three_on, not_on}
use Rattle.bw_program.specs.ProgramText.{byte_on, skip_on, opcode_in, instr_after, instr_on}
use Rattle.bw_program.specs.ProgramText.{goes_past, SpellsInstr, load, nulls, fill, conjunction}
use Rattle.bw_program.specs.ProgramText.{disjunction, difference, negation, below, same, skip}
use Rattle.bw_text.specs.Register.{register_of}

module _ (columns : List Column) (end number line : ℕ) where
  load_spelled : (word r c b : List ℕ) (instr : Instr) → opcode_of word ≡ Some op.Load → load_on columns line (r ∷ c ∷ b ∷ []) ≡ Ok instr → SpellsInstr columns end number (word ∷ r ∷ c ∷ b ∷ []) instr
  load_spelled word r c b instr is e = go (natural_of b) (register_of r) (column_named columns c) refl refl refl e
    where
      go : (nb nr nc : Option ℕ) → natural_of b ≡ nb → register_of r ≡ nr → column_named columns c ≡ nc →
          (found_on 501 line nb >>= λ bit. found_on 502 line nr >>= λ register. found_on 503 line nc >>= λ column.
          refused_if (not (nat_lt bit (width_at columns column))) (at_line 503 line) (Ok (Load register column bit))) ≡ Ok instr →
          SpellsInstr columns end number (word ∷ r ∷ c ∷ b ∷ []) instr
      go (Some bit) (Some register) (Some column) x y z e =
          let ok = not_refused (not (nat_lt bit (width_at columns column))) (at_line 503 line) (Ok (Load register column bit)) instr e in
          let there : Load register column bit ≡ instr = cc ok.1 in
          rw (← there) (load is y z x (ltb-true bit (width_at columns column) (not-false (nat_lt bit (width_at columns column)) ok.0)))
      go _ _ _ x y z e = absurd (cc e)

  nulls_spelled : (word r c : List ℕ) (instr : Instr) → opcode_of word ≡ Some op.Nulls → nulls_on columns line (r ∷ c ∷ []) ≡ Ok instr → SpellsInstr columns end number (word ∷ r ∷ c ∷ []) instr
  nulls_spelled word r c instr is e = go (register_of r) (column_named columns c) refl refl e
    where
      go : (nr nc : Option ℕ) → register_of r ≡ nr → column_named columns c ≡ nc →
          (found_on 502 line nr >>= λ register. found_on 503 line nc >>= λ column.
          refused_if (not (is_nullable columns column)) (at_line 507 line) (Ok (Nulls register column))) ≡ Ok instr →
          SpellsInstr columns end number (word ∷ r ∷ c ∷ []) instr
      go (Some register) (Some column) y z e =
          let ok = not_refused (not (is_nullable columns column)) (at_line 507 line) (Ok (Nulls register column)) instr e in
          let there : Nulls register column ≡ instr = cc ok.1 in
          rw (← there) (nulls is y z (not-false (is_nullable columns column) ok.0))
      go _ _ y z e = absurd (cc e)

  fill_spelled : (word r b : List ℕ) (instr : Instr) → opcode_of word ≡ Some op.Fill → fill_on line (r ∷ b ∷ []) ≡ Ok instr → SpellsInstr columns end number (word ∷ r ∷ b ∷ []) instr
  fill_spelled word r b instr is e = go (natural_of b) (register_of r) refl refl e
    where
      go : (nb nr : Option ℕ) → natural_of b ≡ nb → register_of r ≡ nr →
          (found_on 501 line nb >>= λ bit. refused_if (nat_lt 1 bit) (at_line 501 line) (found_on 502 line nr >>= λ register. Ok (Fill register (bit == 1)))) ≡ Ok instr →
          SpellsInstr columns end number (word ∷ r ∷ b ∷ []) instr
      go None nr x y e = absurd (cc e)
      go (Some bit) nr x y e =
          let ok = not_refused (nat_lt 1 bit) (at_line 501 line) (found_on 502 line nr >>= λ register. Ok (Fill register (bit == 1))) instr e in
          written nr y ok.1 (ltb-false 1 bit ok.0)
        where
          written : (nr : Option ℕ) → register_of r ≡ nr → (found_on 502 line nr >>= λ register. Ok (Fill register (bit == 1))) ≡ Ok instr → bit ≤ 1 →
              SpellsInstr columns end number (word ∷ r ∷ b ∷ []) instr
          written None y e le = absurd (cc e)
          written (Some register) y e le = let there : Fill register (bit == 1) ≡ instr = cc e in rw (← there) (fill is y x le)

  -- three registers, and a register, a column, a slice and a byte
  record Three (words : List (List ℕ)) (t : ℕ × ℕ × ℕ) : Type 0 where
    r : List ℕ
    a : List ℕ
    b : List ℕ
    words_are : words ≡ r ∷ a ∷ b ∷ []
    first : register_of r ≡ Some t.0
    second : register_of a ≡ Some t.1
    third : register_of b ≡ Some t.2

  three_read : (words : List (List ℕ)) (t : ℕ × ℕ × ℕ) → three_on line words ≡ Ok t → Three words t
  three_read (r ∷ a ∷ b ∷ []) t e = go (register_of r) (register_of a) (register_of b) refl refl refl e
    where
      go : (nr na nb : Option ℕ) → register_of r ≡ nr → register_of a ≡ na → register_of b ≡ nb →
          (found_on 502 line nr >>= λ register. found_on 502 line na >>= λ x. found_on 502 line nb >>= λ y. Ok (register, x, y)) ≡ Ok t → Three (r ∷ a ∷ b ∷ []) t
      go (Some n) (Some m) (Some k) x y z e =
          let there : ◌≡◌ {A = ℕ × ℕ × ℕ} (n, m, k) t = cc e in
          rw (← there) (record { r = r; a = a; b = b; words_are = refl; first = x; second = y; third = z })
      go _ _ _ x y z e = absurd (cc e)
  three_read _ t e = absurd (cc e)

  logic_spelled : (op : Opcode) (f : ℕ → ℕ → ℕ → Instr) (words : List (List ℕ)) (instr : Instr) → (three_on line words >>= λ three. Ok (f three.0 three.1 three.2)) ≡ Ok instr →
      (t : ℕ × ℕ × ℕ) × Three words t × (f t.0 t.1 t.2 ≡ instr)
  logic_spelled op f words instr e = go (three_on line words) refl e
    where
      go : (o : Result (ℕ × ℕ × ℕ) Fault) → three_on line words ≡ o → (o >>= λ three. Ok (f three.0 three.1 three.2)) ≡ Ok instr → (t : ℕ × ℕ × ℕ) × Three words t × (f t.0 t.1 t.2 ≡ instr)
      go (Err fault) is e = absurd (cc e)
      go (Ok t) is e = (t, three_read words t is, cc e)

  record Four (words : List (List ℕ)) (t : ℕ × ℕ × ℕ × ℕ) : Type 0 where
    r : List ℕ
    c : List ℕ
    s : List ℕ
    b : List ℕ
    words_are : words ≡ r ∷ c ∷ s ∷ b ∷ []
    register : register_of r ≡ Some t.0
    column : column_named columns c ≡ Some t.1
    slice : natural_of s ≡ Some t.2
    there : t.2 < slices_at columns t.1
    byte : natural_of b ≡ Some t.3
    small : t.3 ≤ 255

  four_read : (words : List (List ℕ)) (t : ℕ × ℕ × ℕ × ℕ) → byte_on columns line words ≡ Ok t → Four words t
  four_read (r ∷ c ∷ s ∷ b ∷ []) t e = go (natural_of s) (natural_of b) refl refl e
    where
      go : (ns nb : Option ℕ) → natural_of s ≡ ns → natural_of b ≡ nb →
          (found_on 501 line ns >>= λ slice. found_on 501 line nb >>= λ byte. refused_if (nat_lt 255 byte) (at_line 501 line)
          (found_on 502 line (register_of r) >>= λ register. found_on 503 line (column_named columns c) >>= λ column.
          refused_if (not (nat_lt slice (slices_at columns column))) (at_line 503 line) (Ok (register, column, slice, byte)))) ≡ Ok t → Four (r ∷ c ∷ s ∷ b ∷ []) t
      go (Some slice) (Some byte) x y e =
          let small = not_refused (nat_lt 255 byte) (at_line 501 line) _ t e in
          named (ltb-false 255 byte small.0) (register_of r) (column_named columns c) refl refl small.1
        where
          named : byte ≤ 255 → (nr nc : Option ℕ) → register_of r ≡ nr → column_named columns c ≡ nc →
              (found_on 502 line nr >>= λ register. found_on 503 line nc >>= λ column.
              refused_if (not (nat_lt slice (slices_at columns column))) (at_line 503 line) (Ok (register, column, slice, byte))) ≡ Ok t → Four (r ∷ c ∷ s ∷ b ∷ []) t
          named le (Some register) (Some column) z w e =
              let there = not_refused (not (nat_lt slice (slices_at columns column))) (at_line 503 line) (Ok (register, column, slice, byte)) t e in
              let is : ◌≡◌ {A = ℕ × ℕ × ℕ × ℕ} (register, column, slice, byte) t = cc there.1 in
              rw (← is) (record {
                r = r;
                c = c;
                s = s;
                b = b;
                words_are = refl;
                register = z;
                column = w;
                slice = x;
                there = ltb-true slice (slices_at columns column) (not-false (nat_lt slice (slices_at columns column)) there.0);
                byte = y;
                small = le;
              })
          named le _ _ z w e = absurd (cc e)
      go _ _ x y e = absurd (cc e)
  four_read _ t e = absurd (cc e)

  byte_spelled : (op : Opcode) (f : ℕ → ℕ → ℕ → ℕ → Instr) (words : List (List ℕ)) (instr : Instr) → (byte_on columns line words >>= λ four. Ok (f four.0 four.1 four.2 four.3)) ≡ Ok instr →
      (t : ℕ × ℕ × ℕ × ℕ) × Four words t × (f t.0 t.1 t.2 t.3 ≡ instr)
  byte_spelled op f words instr e = go (byte_on columns line words) refl e
    where
      go : (o : Result (ℕ × ℕ × ℕ × ℕ) Fault) → byte_on columns line words ≡ o → (o >>= λ four. Ok (f four.0 four.1 four.2 four.3)) ≡ Ok instr → (t : ℕ × ℕ × ℕ × ℕ) × Four words t × (f t.0 t.1 t.2 t.3 ≡ instr)
      go (Err fault) is e = absurd (cc e)
      go (Ok t) is e = (t, four_read words t is, cc e)

  not_spelled : (word r a : List ℕ) (instr : Instr) → opcode_of word ≡ Some op.Not → not_on line (r ∷ a ∷ []) ≡ Ok instr → SpellsInstr columns end number (word ∷ r ∷ a ∷ []) instr
  not_spelled word r a instr is e = go (register_of r) (register_of a) refl refl e
    where
      go : (nr na : Option ℕ) → register_of r ≡ nr → register_of a ≡ na → (found_on 502 line nr >>= λ register. found_on 502 line na >>= λ x. Ok (Not register x)) ≡ Ok instr →
          SpellsInstr columns end number (word ∷ r ∷ a ∷ []) instr
      go (Some n) (Some m) x y e = let there : Not n m ≡ instr = cc e in rw (← there) (negation is x y)
      go _ _ x y e = absurd (cc e)

  skip_spelled : (word a l : List ℕ) (instr : Instr) → opcode_of word ≡ Some op.Skip → skip_on number line (a ∷ l ∷ []) ≡ Ok instr → goes_past end instr ≡ false → SpellsInstr columns end number (word ∷ a ∷ l ∷ []) instr
  skip_spelled word a l instr is e within = go (natural_of l) (register_of a) refl refl e
    where
      go : (nl na : Option ℕ) → natural_of l ≡ nl → register_of a ≡ na →
          (found_on 501 line nl >>= λ target. found_on 502 line na >>= λ x. refused_if (nat_le target number) (at_line 504 line) (Ok (Skip x target))) ≡ Ok instr →
          SpellsInstr columns end number (word ∷ a ∷ l ∷ []) instr
      go (Some target) (Some n) x y e =
          let ok = not_refused (nat_le target number) (at_line 504 line) (Ok (Skip n target)) instr e in
          let there : Skip n target ≡ instr = cc ok.1 in
          let near : nat_lt end target ≡ false = ap (goes_past end) there ∙ within in
          rw (← there) (skip is y x (leb-false target number ok.0) (ltb-false end target near))
      go _ _ x y e = absurd (cc e)

  placed_so : (word : List ℕ) (rest words : List (List ℕ)) (instr i : Instr) → rest ≡ words → i ≡ instr → SpellsInstr columns end number (word ∷ words) i → SpellsInstr columns end number (word ∷ rest) instr
  placed_so word rest words instr i alike there spelled =
      subst (λ (x : Instr). SpellsInstr columns end number (word ∷ rest) x) there (subst (λ (ws : List (List ℕ)). SpellsInstr columns end number (word ∷ ws) i) (sym alike) spelled)

  by_opcode : (word : List ℕ) (rest : List (List ℕ)) (o : Option Opcode) (instr : Instr) → opcode_of word ≡ o → instr_after columns number line o rest ≡ Ok instr → goes_past end instr ≡ false →
      SpellsInstr columns end number (word ∷ rest) instr
  by_opcode word rest (Some op.And) instr is e within =
      let t = logic_spelled op.And And rest instr e in placed_so word rest _ instr _ t.1.words_are t.2 (conjunction is t.1.first t.1.second t.1.third)
  by_opcode word (r ∷ c ∷ b ∷ []) (Some op.Load) instr is e within = load_spelled word r c b instr is e
  by_opcode word (r ∷ c ∷ []) (Some op.Nulls) instr is e within = nulls_spelled word r c instr is e
  by_opcode word (r ∷ b ∷ []) (Some op.Fill) instr is e within = fill_spelled word r b instr is e
  by_opcode word rest (Some op.Or) instr is e within =
      let t = logic_spelled op.Or Or rest instr e in placed_so word rest _ instr _ t.1.words_are t.2 (disjunction is t.1.first t.1.second t.1.third)
  by_opcode word rest (Some op.Xor) instr is e within =
      let t = logic_spelled op.Xor Xor rest instr e in placed_so word rest _ instr _ t.1.words_are t.2 (difference is t.1.first t.1.second t.1.third)
  by_opcode word (r ∷ a ∷ []) (Some op.Not) instr is e within = not_spelled word r a instr is e
  by_opcode word rest (Some op.ByteLt) instr is e within =
      let t = byte_spelled op.ByteLt ByteLt rest instr e in placed_so word rest _ instr _ t.1.words_are t.2 (below is t.1.register t.1.column t.1.slice t.1.there t.1.byte t.1.small)
  by_opcode word rest (Some op.ByteEq) instr is e within =
      let t = byte_spelled op.ByteEq ByteEq rest instr e in placed_so word rest _ instr _ t.1.words_are t.2 (same is t.1.register t.1.column t.1.slice t.1.there t.1.byte t.1.small)
  by_opcode word (a ∷ l ∷ []) (Some op.Skip) instr is e within = skip_spelled word a l instr is e within
  by_opcode word rest _ instr is e within = absurd (cc e)

pub instr_spelled : (columns : List Column) (end number : ℕ) (line : NumberedWords) (instr : Instr) → instr_on columns number line ≡ Ok instr → goes_past end instr ≡ false →
    SpellsInstr columns end number line.words instr
unfolding instr_on
instr_spelled columns end number line instr e within = go line.words e
  where
    go : (words : List (List ℕ)) → instr_after columns number line.number (opcode_in words) (drop 1 words) ≡ Ok instr → SpellsInstr columns end number words instr
    go [] e = absurd (cc e)
    go (word ∷ rest) e = by_opcode columns end number line.number word rest (opcode_of word) instr refl e within

-- what is spelled is read
pub spelled_instr : (columns : List Column) (end number : ℕ) (line : NumberedWords) (instr : Instr) → SpellsInstr columns end number line.words instr →
    (instr_on columns number line ≡ Ok instr) × (goes_past end instr ≡ false)
unfolding instr_on
spelled_instr columns end number line instr spelled = go line.words instr spelled
  where
    go : (words : List (List ℕ)) (instr : Instr) → SpellsInstr columns end number words instr →
        (instr_after columns number line.number (opcode_in words) (drop 1 words) ≡ Ok instr) × (goes_past end instr ≡ false)
    go _ _ (load {column = column} {bit = bit} o r c b lt) = let fits : nat_lt bit (width_at columns column) ≡ true = lt-ltb _ _ lt in (rw (o, b, r, c, fits) refl, refl)
    go _ _ (nulls o r c nullable) = (rw (o, r, c, nullable) refl, refl)
    go _ _ (fill {bit = bit} o r b le) = let small : nat_lt 1 bit ≡ false = le-ltb _ _ le in (rw (o, b, small, r) refl, refl)
    go _ _ (conjunction o r a b) = (rw (o, r, a, b) refl, refl)
    go _ _ (disjunction o r a b) = (rw (o, r, a, b) refl, refl)
    go _ _ (difference o r a b) = (rw (o, r, a, b) refl, refl)
    go _ _ (negation o r a) = (rw (o, r, a) refl, refl)
    go _ _ (below {column = column} {slice = slice} {byte = byte} o r c s lt b le) =
        let small : nat_lt 255 byte ≡ false = le-ltb _ _ le in let there : nat_lt slice (slices_at columns column) ≡ true = lt-ltb _ _ lt in (rw (o, s, b, small, r, c, there) refl, refl)
    go _ _ (same {column = column} {slice = slice} {byte = byte} o r c s lt b le) =
        let small : nat_lt 255 byte ≡ false = le-ltb _ _ le in let there : nat_lt slice (slices_at columns column) ≡ true = lt-ltb _ _ lt in (rw (o, s, b, small, r, c, there) refl, refl)
    go _ _ (skip {target = target} o a l forward near) =
        let onward : nat_le target number ≡ false = lt-leb _ _ forward in let within : nat_lt end target ≡ false = le-ltb _ _ near in (rw (o, l, a, onward) refl, within)
