use Rattle.std.proofs.Common.{◌≡◌, length, ap, arith}
use Rattle.std.proofs.lemmas.List.{take_at}
use Rattle.std.proofs.lemmas.Nat.{mod_below}
use Rattle.std.proofs.lemmas.Bool.Decides.{nat_tests}
use Rattle.hh_countmin.specs.Table.{TableView}
use Rattle.hh_countmin.proofs.Cells.{cell-le-total, fits_raised}
use Rattle.hh_countmin.proofs.Raising.{cell_in_row}
use Rattle.hh_countmin.proofs.table.Table.add_within.Goals as goal

pub raise_cells-requires-clause-room : goal.raise_cells-requires-clause-room
raise_cells-requires-clause-room c =
    let t = c.self.inside in
    rw c.deref_mut.ensures.value
    (λ i lt. omega (arith, cell-le-total t.family t.width t.total t.cells.items c.self.invariant i lt))

pub invariant_of-self : goal.invariant_of-self
invariant_of-self c =
    let t = c.self.inside in
    let len : length c.raise_cells.new.cells ≡ t.cells.len = omega arith in
    rw (take_at c.raise_cells.new.cells _ _ len, c.raise_cells.ensures, c.deref_mut.ensures.value)
    (fits_raised t.family t.width t.total t.cells.items c.args.weight
    (cell_in_row t.family c.fingerprint_of-fingerprint.result t.width) c.self.invariant
    (omega (arith, ap (λ (v : TableView). v.total) c.self.view_is))
    (λ r. mod_below _ t.width (grind (arith, nat_tests, c.self.invariant.width_in_range))))
