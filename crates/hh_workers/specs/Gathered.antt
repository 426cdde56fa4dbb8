-- What workers gather of the items of pieces.
use Rattle.std.specs.Prelude.{◌≡◌, ℕ, ◌<◌, ◌≤◌, All, List, length}
use Rattle.hh_stream.specs.Cuttings.{whole_of}
use Rattle.hh_stream.specs.Taking.{HaveSameSums}
use Rattle.hh_stream.specs.Weights.{Entry, max_total, total_of}
use Rattle.hh_shared.specs.Numbers.{IsDistinctBelow}
use Rattle.hh_workers.specs.Pieces.{items_at}

-- the items are those of the pieces with these numbers, each of which was taken once
pub record AreTheirs (pieces : List (List Entry)) (numbers : List ℕ) (xs : List Entry) : Type 0 where
  pub distinct : IsDistinctBelow (length pieces) numbers
  pub items : xs ≡ items_at pieces numbers

-- what was gathered is of some items, each of which weighs something: where the pieces are known, of those of the pieces
-- with these numbers
pub record Gathers {T : Type 0} (is_of : List Entry → T → Type 0) (known : Type 0) (pieces : List (List Entry))
    (numbers : List ℕ) (t : T) : Type 0 where
  pub xs : List Entry
  pub positive : All (λ (e : Entry). 0 < e.1) xs
  pub made : is_of xs t
  pub theirs : known → AreTheirs pieces numbers xs

-- so it is with all pieces, in whatever order
pub record GathersAll {T : Type 0} (is_of : List Entry → T → Type 0) (known : Type 0) (pieces : List (List Entry))
    (t : T) : Type 0 where
  pub xs : List Entry
  pub positive : All (λ (e : Entry). 0 < e.1) xs
  pub made : is_of xs t
  pub few : total_of xs ≤ max_total
  pub whole : known → HaveSameSums xs (whole_of pieces)
