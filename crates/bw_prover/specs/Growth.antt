-- What stays as facts are added.
use Rattle.std.specs.Prelude.{◌≡◌, ◌≤◌}
use Rattle.bw_prover.specs.declared.facts.Facts.{Facts}

-- the schema and the limit of product rows stay, and no product row goes
abbrev pub HasGrown : Facts → Facts → Type 0
HasGrown old new = (new.schema ≡ old.schema) × (new.products.limit ≡ old.products.limit)
    × (old.products.count ≤ new.products.count)
