-- Files that are replaced as a whole.
use Rattle.std.specs.Prelude.{ℕ, ◌≡◌, ◌⊎◌, IfSome, List, Option, Some}
use Rattle.hh_faults.specs.declared.error.ToolError.{ToolError}
use Rattle.hh_faults.specs.declared.error.ToolError.TheVariants.{Memory, WriteFault}

-- where a file's bytes were known, these are its bytes now
abbrev pub IsReplaced : Option (List ℕ) → Option (List ℕ) → List ℕ → Type 0
IsReplaced old new bytes = IfSome old (λ _. new ≡ Some bytes)

-- a new file is not written with this fault: there was no memory for it, or none of its bytes came to the file's name
abbrev pub IsUnwritten : ToolError → Type 0
IsUnwritten fault = (fault ≡ Memory) ⊎ (fault ≡ WriteFault 0)
