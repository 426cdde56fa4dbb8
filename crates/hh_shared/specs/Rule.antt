-- The rule of the shared words, true between any two steps, and what each step tells its seat.
use Rattle.std.specs.Prelude.{◌≡◌, ◌≢◌, ℕ, ◌+◌, ◌-◌, ◌%◌, ◌^◌, ◌<◌, List, [], ◌∷◌, ◌++◌, length, slice_index, sum_by}
use mathlib.Core.Option.{some}
use lib.ListN.{get_elem?}
use Rattle.atomic_table.specs.Seated.{TableId}
use Rattle.atomic_table.specs.Table.{Me}
use Rattle.hh_shared.specs.Numbers.{times, cell_total, IsDistinctBelow}
use Rattle.hh_shared.specs.Seats.{Holding}
use Rattle.hh_shared.specs.declared.rule.Lists.{Lists}

-- a seat's lists from their parts
abbrev pub lists : ℕ × ℕ → List ℕ → List ℕ → List (ℕ × ℕ) → Lists
lists counts claims met adds = record { counts = counts; claims = claims; met = met; adds = adds }

-- a seat that has done nothing
abbrev pub newcomer : ℕ × ℕ → Lists
newcomer counts = lists counts [] [] []

-- what the rule says of one seat: its numbers are numbers of claims, those that it met are claimed, and without a claim
-- it has no adds
pub record FitsSeat (claims : ℕ) (words : List ℕ) (seat : Lists) : Type 0 where
  pub claims_below : (j : ℕ) → 0 < times j seat.claims → j < claims
  pub met_below : (j : ℕ) → 0 < times j seat.met → j < claims
  pub met_claimed : (j : ℕ) → 0 < times j seat.met → slice_index words j ≡ 1
  pub idle : seat.claims ≡ [] → seat.adds ≡ []

-- The words of the claims stand first. A claim's word is 0 or 1, and the number of times that it stands in the claims
-- of all seats; a cell's word is the sum of what all seats added. Dropped seats count
pub record IsTallied (claims cells : ℕ) (words : List ℕ) (seats : List Lists) : Type 0 where
  pub size : length words ≡ claims + cells
  pub each : (id : ℕ) (seat : Lists) → get_elem? seats id ≡ some seat → FitsSeat claims words seat
  pub claimed : (j : ℕ) → j < claims → slice_index words j ≡ sum_by (λ seat. times j seat.claims) seats
  pub once : (j : ℕ) → j < claims → slice_index words j < 2
  pub summed : (cell : ℕ) → cell < cells
      → slice_index words (claims + cell) ≡ sum_by (λ seat. cell_total cell seat.adds) seats % 2 ^ 64

-- the number was found free, and is the seat's; or it was found claimed, and was met
pub record Claims (seat : Lists) (j found : ℕ) (after : Lists) : Type 0 where
  pub free : found ≡ 0 → after ≡ lists seat.counts (seat.claims ++ j ∷ []) seat.met seat.adds
  pub taken : found ≢ 0 → after ≡ lists seat.counts seat.claims (seat.met ++ j ∷ []) seat.adds
  pub distinct : IsDistinctBelow after.counts.0 after.claims

-- an amount was added to the cell whose word this is
abbrev pub Adds : Lists → ℕ → ℕ → Lists → Type 0
Adds seat word amount after =
    after ≡ lists seat.counts seat.claims seat.met (seat.adds ++ (word - seat.counts.0, amount) ∷ [])

-- nothing changed, and the claims are distinct
abbrev pub Looks : Lists → Lists → Type 0
Looks seat after = (after ≡ seat) × IsDistinctBelow after.counts.0 after.claims

-- the first seat has the lists of both
abbrev pub both_lists : Lists → Lists → Lists
both_lists one other = lists one.counts (one.claims ++ other.claims) (one.met ++ other.met) (one.adds ++ other.adds)

-- what is left of a seat that was joined into another
abbrev pub spent_seat : Lists
spent_seat = newcomer (0, 0)

-- a table's seat as contracts see it
abbrev pub holding_of : TableId → Lists → Holding
holding_of table seat = record {
  sums = record { table = table; claims = seat.counts.0; cells = seat.counts.1 };
  claims = seat.claims;
  met = seat.met;
  adds = seat.adds;
}

-- a seat that holds no slot and has `count` claims, all distinct
pub record IsCounted (me : Me ℕ Lists) (count : ℕ) : Type 0 where
  pub no_slot : me.1 ≡ []
  pub counted : count ≡ length me.0.claims
  pub distinct : IsDistinctBelow me.0.counts.0 me.0.claims
