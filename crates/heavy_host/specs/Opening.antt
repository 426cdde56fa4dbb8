-- Inputs that the command line names, each opened once.
use Rattle.std.specs.Prelude.{ℕ, ◌≡◌, ◌⊎◌, ◌==◌, Bool, false, List, [], ◌∷◌}
use Rattle.hh_faults.specs.declared.error.ToolError.{ToolError}
use Rattle.hh_faults.specs.declared.error.ToolError.TheVariants.{FileFault, Memory}

-- whether a name is that of standard input, which is a dash
abbrev pub names_standard : List ℕ → Bool
names_standard [] = false
names_standard (byte ∷ []) = byte == 45
names_standard (byte ∷ next ∷ rest) = false

-- an input with this name and number is not opened with this fault: there was no memory for it, or it is a file, which
-- could not be opened
abbrev pub FailsToOpen : List ℕ → ℕ → ToolError → Type 0
FailsToOpen name number fault =
    (fault ≡ Memory) ⊎ ((names_standard name ≡ false) × (fault ≡ FileFault number))
