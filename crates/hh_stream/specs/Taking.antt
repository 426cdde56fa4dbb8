-- What takes items, one after the other.
use Rattle.std.specs.Prelude.{◌≡◌, ◌+◌, ◌<◌, ℕ, All, List, fold, sum_by}
use Rattle.hh_stream.specs.Weights.{Entry, total_of}

-- a taker has taken some items, of which something is given, and each item weighs something
pub record Takes {A : Type 0} (with_item : A → Entry → A) (weight_taken : A → ℕ) (old new : A)
    (gives : List Entry → Type 0) : Type 0 where
  pub xs : List Entry
  pub given : gives xs
  pub positive : All (λ (e : Entry). 0 < e.1) xs
  pub weight : weight_taken new ≡ weight_taken old + total_of xs
  pub taken : new ≡ fold with_item old xs

-- whatever is added up over both lists the sums are one, as where their items come in another order
abbrev pub HaveSameSums : List Entry → List Entry → Type 0
HaveSameSums xs ys = (f : Entry → ℕ) → sum_by f xs ≡ sum_by f ys
