-- The first 64 bytes of blocks, which stand apart.
use Rattle.std.specs.Prelude.{◌≡◌, ℕ, ◌+◌, ◌*◌, ◌≤◌, List, length, take, drop}

-- Of blocks of so many bytes, each of which begins a stride after the one before it, the first ones
-- have their first 64 bytes apart, back to back.
abbrev pub AreFronts : ℕ → ℕ → List ℕ → List ℕ → Type 0
AreFronts stride size bytes fronts = (number : ℕ) → 64 * number + 64 ≤ length fronts
    → (number * stride + size ≤ length bytes)
    × (take 64 (drop (64 * number) fronts) ≡ take 64 (take size (drop (number * stride) bytes)))

-- there are as many of these as blocks
abbrev pub HasFronts : ℕ → List ℕ → List ℕ → Type 0
HasFronts size bytes fronts = (count : ℕ) × (length fronts ≡ 64 * count)
    × (length bytes ≡ count * size)
