-- The exit status of words that ask for help, or are wrong.
use Rattle.std.specs.Prelude.{ℕ, ◌≡◌, ◌⊎◌}
use Rattle.clap.specs.declared.error.kind.ErrorKind.{ErrorKind}
use Rattle.clap.specs.declared.error.kind.ErrorKind.TheVariants as kind

-- help or the version is shown, and no mistake in the words
abbrev pub IsShown : ErrorKind → Type 0
IsShown said = (said ≡ kind.DisplayHelp) ⊎ (said ≡ kind.DisplayVersion)

-- help ends a run with 0, or with 1 where it can't be printed; a mistake with 2, or with 4 where there is no memory for its text
pub record EndsUsage (said : ErrorKind) (status : ℕ) : Type 0 where
  pub help : IsShown said → (status ≡ 0) ⊎ (status ≡ 1)
  pub mistake : (IsShown said → ⊥) → (status ≡ 2) ⊎ (status ≡ 4)
