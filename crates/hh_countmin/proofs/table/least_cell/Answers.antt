use Rattle.std.proofs.Common.{◌+◌, ◌*◌, ◌<◌, get_or, length, ap, ap₂, min, sym, ◌∙◌, arith}
use Rattle.hh_countmin.specs.Family.{coefficients_of, cell_of_fingerprint}
use Rattle.hh_countmin.specs.Table.{cell_at}
use Rattle.std.proofs.lemmas.Nat.{mul-add-lt}
use Rattle.hh_countmin.proofs.Cells.{place-small, range-low}
use Rattle.hh_countmin.proofs.Estimates.{least_up_to-more}
use Rattle.hh_countmin.proofs.table.least_cell.Goals as goal

pub loop-r-preserved : goal.loop-r-preserved
loop-r-preserved c =
    let cells = c.args.cells.now in
    c.min-least.ensures
    ∙ ap₂ min c.loop-r.invariant (ap (λ n. get_or cells (c.loop-r.r * c.args.width + n) 0) c.cell_of_fingerprint-in-loop-r.ensures.cell)
    ∙ sym (least_up_to-more (λ q. cell_at c.args.width cells q
    (cell_of_fingerprint (coefficients_of c.args.family.now q) c.args.fingerprint c.args.width)) c.loop-r.r
    (omega arith))

pub overflow_mul-cell : goal.overflow_mul-cell
overflow_mul-cell c =
    let family = c.args.family.now in
    let some : 0 < c.args.width = range-low c.args.width c.requires.width in
    omega (arith, place-small family c.args.width c.loop-r.r 0 c.depth-depth.ensures.family c.requires.width (omega arith) some)

pub overflow_add-cell : goal.overflow_add-cell
overflow_add-cell c =
    omega (
      arith,
      place-small c.args.family.now c.args.width c.loop-r.r c.cell_of_fingerprint-in-loop-r.result c.depth-depth.ensures.family
          c.requires.width (omega arith) c.cell_of_fingerprint-in-loop-r.ensures.within,
    )

pub bounds-cells-cell : goal.bounds-cells-cell
bounds-cells-cell c =
    let within = mul-add-lt c.loop-r.r c.args.width c.cell_of_fingerprint-in-loop-r.result (length c.args.family.now.rows) (omega arith)
    c.cell_of_fingerprint-in-loop-r.ensures.within in
    omega (arith, within, c.requires.all_cells)
