use Rattle.std.proofs.Common.{◌≡◌, ℕ, ◌+◌, ◌<◌, ◌≤◌, get_or, vec_len}
use Rattle.std.specs.Vec.{vec_capacity}
use Rattle.hh_shared.proofs.sums.SharedSums.close.Given as goal

abbrev pub invariant-loop-cell : goal.invariant-loop-cell
invariant-loop-cell l = record {
  len : vec_len l.sums ≡ l.cell;
  room : l.cells ≤ vec_capacity l.sums;
  read : (k : ℕ) → k < l.cell → get_or l.sums.items k 0 ≡ get_or l.closed.words.items (l.claims + k) 0;
}
