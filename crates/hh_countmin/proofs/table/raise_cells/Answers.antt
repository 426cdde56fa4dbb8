use Rattle.std.proofs.Common.{◌≡◌, ◌+◌, ◌*◌, ◌<◌, length, get_or, ap, subst, arith}
use Rattle.hh_countmin.specs.Table.{cell_at}
use Rattle.std.proofs.lemmas.Nat.{mul-add-lt}
use Rattle.hh_countmin.proofs.Cells.{place-small, range-low}
use Rattle.hh_countmin.proofs.Raising.{cell_in_row, IsRaised, one_raised, all_raised}
use Rattle.hh_countmin.proofs.table.raise_cells.Goals as goal

pub loop-r-preserved : goal.loop-r-preserved
loop-r-preserved c =
    let width = c.args.width in
    let r = c.loop-r.r in
    let cell = cell_in_row c.args.family.now c.args.fingerprint width in
    let is = c.cell_of_fingerprint.ensures.cell in
    let in_row : cell r < width = omega (arith, is, c.cell_of_fingerprint.ensures.within) in
    let value : get_or c.loop-r.cells (r * width + cell r) 0 + c.args.weight ≡ cell_at width c.args.cells.now r
    (cell r) + c.args.weight =
    ap (λ n. n + c.args.weight) (c.loop-r.invariant.others r (cell r) (omega arith) in_row) in
    rw is (one_raised width c.args.weight (length c.args.family.now.rows) cell c.args.cells.now c.loop-r.cells r _
    c.loop-r.invariant c.requires.all_cells (omega arith) in_row value)

pub returns : goal.returns
returns c =
    let depth = length c.args.family.now.rows in
    let cell = cell_in_row c.args.family.now c.args.fingerprint c.args.width in
    let all : c.loop-r.r ≡ depth = omega arith in
    all_raised c.args.width c.args.weight depth cell c.args.cells.now c.loop-r.cells c.requires.all_cells
    (subst (IsRaised c.args.width c.args.weight cell c.args.cells.now c.loop-r.cells) all c.loop-r.invariant)

pub overflow_mul-cell : goal.overflow_mul-cell
overflow_mul-cell c =
    let family = c.args.family.now in
    let some : 0 < c.args.width = range-low c.args.width c.requires.width in
    omega (arith, place-small family c.args.width c.loop-r.r 0 c.depth-r-end.ensures.family c.requires.width (omega arith) some)

pub overflow_add-cell : goal.overflow_add-cell
overflow_add-cell c =
    omega (
      arith,
      place-small c.args.family.now c.args.width c.loop-r.r c.cell_of_fingerprint.result c.depth-r-end.ensures.family
          c.requires.width (omega arith) c.cell_of_fingerprint.ensures.within,
    )

pub bounds-cells-cell : goal.bounds-cells-cell
bounds-cells-cell c =
    let within = mul-add-lt c.loop-r.r c.args.width c.cell_of_fingerprint.result (length c.args.family.now.rows) (omega arith)
    c.cell_of_fingerprint.ensures.within in
    omega (arith, within, c.requires.all_cells)
