-- What workers are asked for, and what they bring back.
use Rattle.std.specs.Prelude.{◌≡◌, ℕ, ◌+◌, ◌^◌, ◌<◌, All, List, [], length, slice_index, Result, IfOk, IsErrOf}
use Rattle.std.specs.Borrow.{RattleType}
use Rattle.std.specs.List.Sorted.{IsStrictlyIncreasing}
use Rattle.std.specs.Thread.{IsSend, IsSync}
use Rattle.hh_shared.specs.Numbers.{HasAllBelow, IsDistinctBelow, times, sum_at}
use Rattle.hh_shared.specs.Seats.{Holding, Sums, fresh}
use Rattle.hh_stream.specs.declared.taking.PieceFault.{PieceFault}
use Rattle.hh_stream.specs.declared.taking.PieceFault.TheVariants as fault

-- the most workers
abbrev pub max_workers : ℕ
max_workers = 64

-- sums with a claim for each of `pieces` pieces, and `width` cells
pub record AreSumsFor (pieces width : ℕ) (sums : Sums) : Type 0 where
  pub claims : sums.claims ≡ pieces
  pub cells : sums.cells ≡ width

-- each number below n stands in the list once
pub record HasEach (n : ℕ) (numbers : List ℕ) : Type 0 where
  pub distinct : IsDistinctBelow n numbers
  pub all : HasAllBelow n numbers

-- each number below n was claimed, or met as another's claim
abbrev pub HasTried : ℕ → Holding → Type 0
HasTried n seat = (i : ℕ) → i < n → 0 < times i seat.claims + times i seat.met

-- a worker has tried the first n of `pieces` pieces from the lowest on, each once, and has added nothing
pub record HasTriedUpTo (pieces n : ℕ) (seat : Holding) : Type 0 where
  pub tried : HasTried n seat
  pub distinct : IsDistinctBelow pieces seat.claims
  pub rising : IsStrictlyIncreasing seat.claims
  pub low : All (λ i. i < n) seat.claims
  pub none_added : seat.adds ≡ []

-- What workers bring back who claimed each piece: what the pass says of a seat, and each cell's sum of what was added
-- through it
pub record AreDone {K : Type 0} (all_done : Holding → K → Type 0) (pieces cells : ℕ) (values : List ℕ) (kept : K)
    : Type 0 where
  pub seat : Holding
  pub each : HasEach pieces seat.claims
  pub done : all_done seat kept
  pub len : length values ≡ cells
  pub sums : (cell : ℕ) → cell < cells → slice_index values cell ≡ sum_at seat.adds cell

-- What is asked where a thread of `count` workers, numbered from `first` on, is started: the runtime and the pass may be
-- shared with it, what the workers keep may be sent, and the pass fits the sums, of which they have a fresh seat
pub record CanRun (runtime pass kept : RattleType) (fits : Type 0) (sums : Sums) (seat : Holding) (first count : ℕ)
    : Type 0 where
  pub runtime_shared : IsSync runtime
  pub pass_shared : IsSync pass
  pub kept_sent : IsSend kept
  pub pass_fits : fits
  pub seat_fresh : seat ≡ fresh sums
  pub some : 0 < count
  pub numbers : first + count < 2 ^ 64

-- what workers bring back: a seat of these sums, of which the pass says all that it does, or why there is none
abbrev pub BringBack : {K : Type 0} → (Holding → K → Type 0) → Type 0 → Sums → Result (Holding × K) PieceFault → Type 0
BringBack all_done may_refuse sums result =
    IfOk result (λ r. (r.0.sums ≡ sums) × all_done r.0 r.1) × (IsErrOf result fault.Refused → may_refuse)
