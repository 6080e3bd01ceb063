-- The records of a text are the next one and those after it.
use Rattle.std.proofs.Common.{◌≡◌, ℕ, List, [], ◌∷◌, length, Some, None, refl, ap, add-one}
use Rattle.csv.specs.Machine.{Read, next_record}
use Rattle.csv.specs.Reading.{records_from}
use Rattle.csv.specs.declared.parser.State.{State}
use Rattle.bw_csv.proofs.TurnLemmas.{next-eats, turns-rest}
use Rattle.bw_encode.specs.declared.dialect.Dialect.{Dialect}
use Rattle.bw_encode.specs.Dialect.{config_of, records_in}

-- the first record, and those after it
pub records_in-next : (dialect : Dialect) (s : State) (xs : List ℕ) (p : Read) → next_record (config_of dialect) s [] [] xs ≡ Some p
    → records_in dialect s xs ≡ p.0 ∷ records_in dialect p.1 p.2
unfolding records_from
records_in-next dialect s xs p e =
    rw (add-one, e) (ap (λ (rest : List (List (List ℕ))). p.0 ∷ rest) (turns-rest (config_of dialect) p (length xs) (next-eats (config_of dialect) s [] [] xs p e)))

pub records_in-none : (dialect : Dialect) (s : State) (xs : List ℕ) → next_record (config_of dialect) s [] [] xs ≡ None → records_in dialect s xs ≡ []
unfolding records_from
records_in-none dialect s xs e = rw (add-one, e) refl
