-- The cached scans, and the program files that they were chosen among.
use Rattle.std.specs.Prelude.{All, ◌≡◌, ◌<◌, ℕ, false, List, [], ◌∷◌, ◌++◌, Some, length, slice_get}
use Rattle.std.specs.Prelude.{slice_index_or, take, drop, nat_le, if◌then◌else◌}
use Rattle.bw_model.specs.declared.column.Column.{Column}
use Rattle.bw_model.specs.declared.cond.Cond.{Cond}
use Rattle.bw_model.specs.CondTree.{tree_of}
use Rattle.bw_model.specs.Fault.{is_memory}
use Rattle.bw_cert.specs.FileVerdict.{IsTextFault}
use Rattle.bw_query.specs.declared.program_cache.CachedScan.{CachedScan}
use Rattle.bw_query.specs.declared.program_cache.ProgramCache.{ProgramCache}
use Rattle.bw_query.specs.declared.program_cache.RejectedFile.{RejectedFile}
use Rattle.bw_query.specs.ProgramChoice.{IsChosenAmong, IsFileRead, texts_of}
use Rattle.bw_query.specs.Scan.{IsFor}

-- the bytes of the program files, in the order in which they were given
abbrev pub files_of : ProgramCache → List (List ℕ)
files_of programs = texts_of programs.files.items

-- a cached scan was certified and chosen for its condition
abbrev pub IsCached : List (List ℕ) → List Column → CachedScan → Type 0
IsCached files columns kept = IsFor columns kept.cond kept.scan
    × IsChosenAmong files columns kept.cond kept.scan

-- each cached scan was certified and chosen, for tables of these columns
abbrev pub Serves : List Column → ProgramCache → Type 0
Serves columns programs = All (IsCached (files_of programs) columns) programs.kept.items

-- the scan of a number was certified and chosen for a condition
abbrev pub HasScan : List Column → ProgramCache → Cond → ℕ → Type 0
HasScan columns programs cond number = (number < length programs.kept.items)
    × ((none : CachedScan) → let scan = (slice_index_or programs.kept.items number none).scan in
    IsFor columns cond scan × IsChosenAmong (files_of programs) columns cond scan)

-- the scan of a number is cached for an equal condition
abbrev pub IsForEqual : ProgramCache → Cond → ℕ → Type 0
IsForEqual programs cond number = (number < length programs.kept.items)
    × ((none : CachedScan) → tree_of cond
    ≡ tree_of (slice_index_or programs.kept.items number none).cond)

-- the cached scans that stay if one more is added: all of them, or of 64 all but the first
abbrev pub with_room : List CachedScan → List CachedScan
with_room scans = if nat_le 64 (length scans) then drop 1 scans else scans

-- no cached scan is for an equal condition
abbrev pub HasNone : List CachedScan → Cond → Type 0
HasNone scans cond = All (λ kept. tree_of cond ≡ tree_of kept.cond → ⊥) scans

-- A scan for a condition, for which there was none, was added to the cached ones as the last, and
-- has this number.
pub record IsAdded (old new : List CachedScan) (cond : Cond) (number : ℕ) : Type 0 where
  pub fresh : HasNone old cond
  pub scan : CachedScan
  pub equal : tree_of scan.cond ≡ tree_of cond
  pub is : new ≡ with_room old ++ scan ∷ []
  pub last : number ≡ length (with_room old)

-- the file of a number has this error for every condition, and the files before it are read; or
-- memory ran out
abbrev pub IsRejection : List Column → List (List ℕ) → RejectedFile → Type 0
IsRejection columns files rejected = is_memory rejected.fault ≡ false →
    (file : List ℕ) × (slice_get files rejected.number ≡ Some file)
    × IsTextFault columns file rejected.fault
    × All (IsFileRead columns) (take rejected.number files)
