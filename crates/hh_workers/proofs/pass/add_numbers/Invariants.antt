use Rattle.std.proofs.Common.{◌≡◌, ◌+◌, ℕ, take, get_or}
use Rattle.hh_shared.specs.Numbers.{cell_total}
use Rattle.hh_workers.proofs.pass.add_numbers.Given as goal

abbrev pub invariant-loop-cell : goal.invariant-loop-cell
invariant-loop-cell l = record {
  unchanged : l.seat ≡ record l.initial.seat { adds = l.seat.adds };
  added : (cell : ℕ)
      → cell_total cell l.seat.adds ≡ cell_total cell l.initial.seat.adds + get_or (take l.cell l.numbers) cell 0;
}
