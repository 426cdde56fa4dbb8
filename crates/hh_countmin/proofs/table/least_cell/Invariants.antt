use Rattle.std.proofs.Common.{◌≡◌, ◌-◌}
use Rattle.hh_countmin.specs.Family.{coefficients_of, cell_of_fingerprint}
use Rattle.hh_countmin.specs.Table.{cell_at, least_up_to}
use Rattle.hh_countmin.proofs.table.least_cell.Given as goal

-- the least of the rows below r
abbrev pub invariant-loop-r : goal.invariant-loop-r
invariant-loop-r l =
    l.least ≡ least_up_to (λ q. cell_at l.width l.cells q
    (cell_of_fingerprint (coefficients_of l.family q) l.fingerprint l.width)) (l.r - 1)
