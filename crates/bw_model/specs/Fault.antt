-- Errors, and the results of calls that can run out of memory.
use Rattle.std.specs.Prelude.{◌≡◌, ℕ, Bool, ◌==◌, ◌&&◌, true, false, List, [], ◌++◌, codes, Result}
use Rattle.std.specs.Prelude.{Ok, Err}
use Rattle.std.specs.Fmt.{decimal}
use Rattle.bw_model.specs.declared.fault.Fault.{Fault}
use Rattle.bw_model.specs.declared.fault.Place.{Place}
use Rattle.bw_model.specs.declared.fault.Place.TheVariants.{Nowhere, Byte, Line, Rec}
use Rattle.bw_model.specs.FaultTable.{OUT_OF_MEMORY, words_of}

-- an error without a place, at a byte, at a line or at a record
abbrev pub nowhere : ℕ → Fault
nowhere c = record { code = c; place = Nowhere }

abbrev pub at_byte : ℕ → ℕ → Fault
at_byte c at = record { code = c; place = Byte at }

abbrev pub at_line : ℕ → ℕ → Fault
at_line c at = record { code = c; place = Line at }

abbrev pub at_record : ℕ → ℕ → Fault
at_record c at = record { code = c; place = Rec at }

-- how a place is printed, after the error's words
abbrev pub place_text : Place → List ℕ
place_text Nowhere = []
place_text (Byte at) = codes " at byte " ++ decimal at
place_text (Line at) = codes " at line " ++ decimal at
place_text (Rec at) = codes " at record " ++ decimal at

-- the line of an error, with its line end: its number, its words and its place, as
-- `bw: 404 unknown column at byte 7`
abbrev pub fault_line : Fault → List ℕ
fault_line fault =
    ((((codes "bw: " ++ decimal fault.code) ++ codes " ") ++ words_of fault.code)
    ++ place_text fault.place)
    ++ codes "\n"

-- out of memory
abbrev pub no_memory : Fault
no_memory = nowhere OUT_OF_MEMORY

-- the place is none
abbrev pub is_nowhere : Place → Bool
is_nowhere Nowhere = true
is_nowhere (Byte at) = false
is_nowhere (Line at) = false
is_nowhere (Rec at) = false

-- the error is out of memory, which no rule of a format foresees
abbrev pub is_memory : Fault → Bool
is_memory fault = (fault.code == OUT_OF_MEMORY) && is_nowhere fault.place

-- what follows from a result, or its error
infixl 10 ◌>>=◌
abbrev pub ◌>>=◌ : {A B : Type 0} → Result A Fault → (A → Result B Fault) → Result B Fault
(Ok x) >>= f = f x
(Err fault) >>= f = Err fault

-- the error if the test is true, else what follows
abbrev pub refused_if : {A : Type 0} → Bool → Fault → Result A Fault → Result A Fault
refused_if true fault next = Err fault
refused_if false fault next = next

-- What a call returned, seen by view, is what is expected, unless it ran out of memory.
abbrev pub MatchesUnlessOom : {A B : Type 0} → (A → B) → Result A Fault → Result B Fault → Type 0
MatchesUnlessOom view (Ok x) expected = expected ≡ Ok (view x)
MatchesUnlessOom view (Err fault) expected = is_memory fault ≡ false → expected ≡ Err fault
