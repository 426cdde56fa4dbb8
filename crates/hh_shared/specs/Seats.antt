-- The sums and their seats as contracts see them.
use Rattle.std.specs.Prelude.{◌≡◌, ℕ, ◌+◌, ◌<◌, ◌≤◌, List, [], ◌++◌}
use Rattle.atomic_table.specs.Seated.{TableId}

-- the most claims
abbrev pub max_claims : ℕ
max_claims = 1024

-- the most cells
abbrev pub max_cells : ℕ
max_cells = 1048576

-- which sums these are: their table, and how many claims and cells it has
pub record Sums : Type 0 where
  pub table : TableId
  pub claims : ℕ
  pub cells : ℕ

-- what a seat stands for: whose seat it is, what it claimed, what it found claimed, and the cells and amounts that it
-- added
pub record Holding : Type 0 where
  pub sums : Sums
  pub claims : List ℕ
  pub met : List ℕ
  pub adds : List (ℕ × ℕ)

-- a seat with empty lists
abbrev pub fresh : Sums → Holding
fresh sums = record { sums = sums; claims = []; met = []; adds = [] }

-- the first seat with the lists of both
abbrev pub seat_of_both : Holding → Holding → Holding
seat_of_both one other = record {
  sums = one.sums;
  claims = one.claims ++ other.claims;
  met = one.met ++ other.met;
  adds = one.adds ++ other.adds;
}

-- a table of this key has a word for each claim and each cell, and no slot
pub record IsLaid (key : ℕ × ℕ) (table : TableId) (claims cells : ℕ) : Type 0 where
  pub counts : key ≡ (claims, cells)
  pub words : table.words ≡ claims + cells
  pub slots : table.slots ≡ 0
  pub some_claim : 0 < claims
  pub few_claims : claims ≤ max_claims
  pub few_cells : cells ≤ max_cells
