-- What reading bytes in memory gives of them.
use Rattle.std.proofs.Common.{◌≡◌, ◌∙◌, sym, ap, ap₂, ℕ, ◌+◌, List, [], ◌++◌, length, drop, true, false, refl}
use Rattle.std.proofs.Common.{Some, Ok, Err, Result, append_assoc, arith}
use Rattle.std.proofs.Math.Seq.{drop-append_seam}
use Rattle.bw_model.specs.declared.fault.Fault.{Fault}
use Rattle.bw_model.specs.Fault.{is_memory}
use Rattle.bw_io.specs.Source.{is_read_fault, source_state}
use Rattle.bw_file.specs.Reading.{Reading, Tail, give, state_at, tail}
use Rattle.bw_file.specs.Reading.{Fails, GoesOn}
use Rattle.bw_file.proofs.TableLemmas.{no_read_failed}

pub parsed_in : {A : Type 0} (reading : Reading A) (bytes last : List ℕ) (offset : ℕ) (x : A)
    → GoesOn reading (state_at (source_state (Some bytes) 0) 0) (give x) (state_at (source_state (Some last) 0) offset)
    → (rest : List ℕ) → reading (tail 0 (bytes ++ rest)) ≡ Ok (x, tail offset (drop offset (bytes ++ rest)))
parsed_in {A = A} reading bytes last offset x p rest =
    let all : bytes ++ rest ≡ p.bytes ++ (last ++ rest) = ap (λ (l : List ℕ). l ++ rest) p.took.consumed ∙ append_assoc p.bytes last rest in
    let long : offset ≡ length p.bytes = omega (arith, p.took.advanced) in
    let left : drop offset (bytes ++ rest) ≡ last ++ rest = ap₂ (λ n (l : List ℕ). drop n l) long all ∙ drop-append_seam p.bytes (last ++ rest) in
    let done : ℕ → List ℕ → Result (A × Tail) Fault = λ at rest. Ok (x, tail at rest) in
    ap (λ (l : List ℕ). reading (tail 0 l)) all ∙ p.on (last ++ rest) ∙ ap (done offset) (sym left)

pub refused_in : {A : Type 0} (reading : Reading A) (bytes last : List ℕ) (offset : ℕ) (fault : Fault)
    → Fails reading (state_at (source_state (Some bytes) 0) 0) (state_at (source_state (Some last) 0) offset) fault → is_memory fault ≡ false → reading (tail 0 bytes) ≡ Err fault
refused_in reading bytes last offset fault p kept =
    let own : is_read_fault fault ≡ false = no_read_failed (is_read_fault fault) p.failures in
    let has = p.refused (rw (kept, own) refl) in
    let all : bytes ≡ p.bytes ++ has.rest = p.took.consumed ∙ ap (λ (more : List ℕ). p.bytes ++ more) has.coming in
    ap (λ (l : List ℕ). reading (tail 0 l)) all ∙ has.gives
