-- Files that the command line names.
use Rattle.std.specs.Prelude.{ℕ, ◌≡◌, ◌<◌, ◌+◌, ◌⊎◌, ⊤, List, [], ◌∷◌, Option, Some, None, length, slice_index_or}
use Rattle.hh_faults.specs.declared.error.ToolError.{ToolError}
use Rattle.hh_faults.specs.declared.error.ToolError.TheVariants.{FileFault, Memory}

-- the files with these names have these bytes, in their order
abbrev pub AreRead : (List ℕ → Option (List ℕ) → Type 0) → List (List ℕ) → List (List ℕ) → Type 0
AreRead gives [] [] = ⊤
AreRead gives [] (file ∷ files) = ⊥
AreRead gives (name ∷ names) [] = ⊥
AreRead gives (name ∷ names) (file ∷ files) = gives name (Some file) × AreRead gives names files

-- the fault is of the file in this place, which can't be read, and has its number from 1 on
pub record IsOfPlace (gives : List ℕ → Option (List ℕ) → Type 0) (names : List (List ℕ)) (fault : ToolError) (place : ℕ) : Type 0 where
  pub within : place < length names
  pub unread : gives (slice_index_or names place []) None
  pub number : fault ≡ FileFault (place + 1)

-- the fault is of memory, or of one of the files with these names
abbrev pub TellsFile : (List ℕ → Option (List ℕ) → Type 0) → List (List ℕ) → ToolError → Type 0
TellsFile gives names fault = (fault ≡ Memory) ⊎ ((place : ℕ) × IsOfPlace gives names fault place)
