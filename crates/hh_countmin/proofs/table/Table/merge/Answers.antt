use Rattle.std.proofs.Common.{◌≡◌, ◌+◌, List, ℕ, length, ap, ap₂, ◌∙◌, arith}
use Rattle.std.proofs.lemmas.List.{take_at}
use Rattle.hh_countmin.specs.Table.{TableView, cell_at, cells_by, grid_sum}
use Rattle.hh_countmin.proofs.Cells.{cell-le-total, fits_same, fits_summed, summed_cells}
use Rattle.hh_countmin.proofs.table.Table.merge.Goals as goal

pub add_each-requires-clause-room : goal.add_each-requires-clause-room
add_each-requires-clause-room c =
    let s = c.self.inside in
    let t = c.other.inside in
    let other_fits = fits_same s.family t.family s.width t.width t.total t.cells.items
    (c.are_one.ensures.0 c.if-not-are_one.false) c.if-self-other.false c.other.invariant in
    rw (c.deref_mut.ensures.value, c.deref.ensures.value)
    (λ i lt. omega (
      arith,
      cell-le-total s.family s.width s.total s.cells.items c.self.invariant i lt,
      cell-le-total s.family s.width t.total t.cells.items other_fits i
          (omega (arith, c.self.invariant.all_cells, other_fits.all_cells)),
    ))

pub invariant_of-self : goal.invariant_of-self
invariant_of-self c =
    let s = c.self.inside in
    let t = c.other.inside in
    let other_fits = fits_same s.family t.family s.width t.width t.total t.cells.items
    (c.are_one.ensures.0 c.if-not-are_one.false) c.if-self-other.false c.other.invariant in
    let len : length c.add_each.new.numbers ≡ s.cells.len = omega arith in
    let all = summed_cells (length s.family.rows) s.width c.deref_mut.result.now c.deref.result.now
    c.add_each.new.numbers (omega (arith, c.self.invariant.all_cells)) c.add_each.ensures in
    rw (take_at c.add_each.new.numbers _ _ len, all, c.deref_mut.ensures.value, c.deref.ensures.value)
    (fits_summed s.family s.width s.total t.total s.cells.items t.cells.items c.self.invariant other_fits (omega arith))

pub returns-clause-merged : goal.returns-clause-merged
returns-clause-merged c =
    let s = c.self.inside in
    let len : length c.add_each.new.numbers ≡ s.cells.len = omega arith in
    let sums : List ℕ → List ℕ → List ℕ =
    λ a b. cells_by (λ r q. cell_at s.width a r q + cell_at s.width b r q) (length s.family.rows) s.width in
    let all = take_at c.add_each.new.numbers _ _ len
    ∙ summed_cells (length s.family.rows) s.width c.deref_mut.result.now c.deref.result.now c.add_each.new.numbers
    (omega (arith, c.self.invariant.all_cells)) c.add_each.ensures
    ∙ ap₂ sums c.deref_mut.ensures.value c.deref.ensures.value in
    let grid : List ℕ → TableView =
    λ cells. record { family = s.family; width = s.width; total = s.total + c.other.inside.total; cells = cells } in
    ap grid all ∙ ap₂ grid_sum c.self.view_is c.other.view_is
