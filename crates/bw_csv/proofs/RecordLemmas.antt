-- Each read gives the first of the records to come, however many turns are left for the others.
use Rattle.std.proofs.Common.{◌≡◌, ℕ, List, [], ◌∷◌, length, Option, Some, None, true, false, refl}
use Rattle.std.proofs.Common.{ap, add-one, IsSome, Bor}
use Rattle.csv.specs.Machine.{Read, next_record}
use Rattle.csv.specs.Reading.{records_from, default_config, source_of, ReadRecord, Reached}
use Rattle.csv.specs.declared.parser.State.{State}
use Rattle.csv.specs.declared.reader.Reader.{Reader}
use Rattle.csv.proofs.ReadFacts.{rows-more, rows-end}
use Rattle.bw_csv.proofs.TurnLemmas.{next-eats, turns-rest}
use Rattle.bw_csv.specs.Records.{bytes_under, records_in, IsOpenReader}

-- the first record, and those after it
pub records_in-next : (s : State) (xs : List ℕ) (p : Read) → next_record default_config s [] [] xs ≡ Some p
    → records_in s (Some xs) ≡ p.0 ∷ records_in p.1 (Some p.2)
unfolding records_from
records_in-next s xs p e =
    rw (add-one, e) (ap (λ (rest : List (List (List ℕ))). p.0 ∷ rest) (turns-rest default_config p (length xs) (next-eats default_config s [] [] xs p e)))

pub records_in-none : (s : State) (xs : List ℕ) → next_record default_config s [] [] xs ≡ None → records_in s (Some xs) ≡ []
unfolding records_from
records_in-none s xs e = rw (add-one, e) refl

some_bytes : (o : Option (List ℕ)) → IsSome o → (bytes : List ℕ) × (o ≡ Some bytes)
some_bytes None h = cc h
some_bytes (Some bytes) h = (bytes, refl)

same_next : (all : List (List (List ℕ))) (p : Read) (f : List (List ℕ)) (s : State) (rest : List ℕ)
    → all ≡ p.0 ∷ records_in p.1 (Some p.2) → f ≡ p.0 → p.1 ≡ s → p.2 ≡ rest → all ≡ f ∷ records_in s (Some rest)
same_next all p f s rest e fields state bytes = rw (fields, ← state, ← bytes) e

-- a read that finds a record gives the first of those to come, and the others are still to come
pub next-found : (a b : Reader (Bor (List ℕ))) (f : List (List ℕ)) → IsOpenReader a → ReadRecord bytes_under a b true f
    → (records_in a.state (source_of bytes_under a) ≡ f ∷ records_in b.state (source_of bytes_under b)) × IsSome (source_of bytes_under b)
unfolding Reached
next-found a b f reads r =
    let bytes = some_bytes (source_of bytes_under a) reads.4 in
    let more = rows-more bytes_under a b f default_config a.state bytes.0 bytes.0 [] reads.0 bytes.1 (refl, refl) r in
    let read = more.2.1 in
    let first = records_in-next a.state bytes.0 more.2.0 read in
    (rw (bytes.1, more.1) (same_next _ more.2.0 f b.state more.0 first more.2.2 more.2.3.0 more.2.3.1), rw more.1 refl)

-- a read that finds none says that there is none
pub next-none : (a b : Reader (Bor (List ℕ))) (f : List (List ℕ)) → IsOpenReader a → ReadRecord bytes_under a b false f → records_in a.state (source_of bytes_under a) ≡ []
next-none a b f reads r =
    let bytes = some_bytes (source_of bytes_under a) reads.4 in
    rw bytes.1 (records_in-none a.state bytes.0 (rows-end bytes_under a b f default_config bytes.0 reads.0 bytes.1 r))
