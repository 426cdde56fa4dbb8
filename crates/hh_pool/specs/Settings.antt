-- What an analysis is asked for.
use Rattle.std.specs.Prelude.{ℕ}
use Rattle.hh_countmin.specs.Family.{Coefficients}

-- what a contract sees of options; p/q is the threshold
pub record Settings : Type 0 where
  pub k : ℕ
  pub p : ℕ
  pub q : ℕ
  pub workers : ℕ
  pub width : ℕ
  pub family : Coefficients
