-- What the workers of a pass bring back.
use Rattle.std.specs.Prelude.{◌≡◌, ℕ, ◌+◌, ◌*◌, ◌<◌, All, List, length, map, slice_get, Some}
use Rattle.std.specs.List.Sorted.{IsStrictlyIncreasing}
use Rattle.hh_stream.specs.Weights.{Bytes, Entry, weight_of}
use Rattle.hh_summaries.specs.Counters.{SummaryView, sketch_of}
use Rattle.hh_countmin.specs.Table.{cell_sum}
use Rattle.hh_shared.specs.Numbers.{HasAllBelow, IsDistinctBelow, cell_total}
use Rattle.hh_shared.specs.Seats.{Holding}
use Rattle.hh_pool.specs.Settings.{Settings}
use Rattle.hh_workers.specs.Pieces.{items_at, piece_of}
use Rattle.hh_workers.specs.Workers.{HasTried}

-- the summaries of the pieces with these numbers, each with its number
abbrev pub summaries_at : ℕ → List (List Entry) → List ℕ → List (ℕ × SummaryView)
summaries_at k pieces numbers = map (λ i. (i, sketch_of k (piece_of pieces i))) numbers

-- these are the summaries of all pieces, each with its piece's number, in any order
pub record AreSummaries (k : ℕ) (pieces : List (List Entry)) (found : List (ℕ × SummaryView)) : Type 0 where
  pub theirs : All (λ it. it.1 ≡ sketch_of k (piece_of pieces it.0)) found
  pub distinct : IsDistinctBelow (length pieces) (map (λ it. it.0) found)
  pub all : HasAllBelow (length pieces) (map (λ it. it.0) found)

-- What workers of the first pass bring back together. Each piece was claimed or met. The additions to the cell that
-- has row r, cell c of the table sum up to the table's cell over the claimed pieces, and the summaries are exactly
-- those of the claimed pieces
pub record AreFirstPasses (pieces : List (List Entry)) (settings : Settings) (seat : Holding)
    (kept : List (ℕ × SummaryView)) : Type 0 where
  pub tried : HasTried (length pieces) seat
  pub adds : (r c : ℕ) → r < length settings.family.rows → c < settings.width
      → cell_total (r * settings.width + c) seat.adds
      ≡ cell_sum settings.family settings.width r c (items_at pieces seat.claims)
  pub summaries : kept ≡ summaries_at settings.k pieces seat.claims

-- What workers of the second pass bring back together. Each piece was claimed or met. The additions to a key's cell sum
-- up to its weight over the claimed pieces
pub record AreSecondPasses (pieces : List (List Entry)) (keys : List Bytes) (seat : Holding) : Type 0 where
  pub tried : HasTried (length pieces) seat
  pub adds : (i : ℕ) (key : Bytes) → slice_get keys i ≡ Some key
      → cell_total i seat.adds ≡ weight_of key (items_at pieces seat.claims)

-- One worker takes the lowest piece that it finds unclaimed: each piece that it claims is above those that it claimed
-- before
pub record IsFirstPass (pieces : List (List Entry)) (settings : Settings) (seat : Holding)
    (kept : List (ℕ × SummaryView)) : Type 0 where
  pub rising : IsStrictlyIncreasing seat.claims
  pub work : AreFirstPasses pieces settings seat kept

-- one worker of the second pass takes the lowest piece that it finds unclaimed
pub record IsSecondPass (pieces : List (List Entry)) (keys : List Bytes) (seat : Holding) : Type 0 where
  pub rising : IsStrictlyIncreasing seat.claims
  pub work : AreSecondPasses pieces keys seat
