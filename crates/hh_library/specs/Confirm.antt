-- The fault of a summary that is not confirmed.
use Rattle.std.specs.Prelude.{◌≢◌, ℕ, ⊤}
use Rattle.hh_faults.specs.declared.error.ToolError.{ToolError}
use Rattle.hh_faults.specs.declared.error.ToolError.TheVariants as tool

-- what a refusal of counted items tells: that their total n is not the summary's total m
abbrev pub TotalRefused : ℕ → ℕ → ToolError → Type 0
TotalRefused m n tool.TotalDiffers = m ≢ n
TotalRefused m n tool.Memory = ⊤
TotalRefused m n _ = ⊥
