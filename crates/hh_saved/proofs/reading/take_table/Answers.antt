use Rattle.std.proofs.Common.{arith}
use Rattle.std.proofs.lemmas.Bool.Decides.{nat_tests}
use Rattle.hh_saved.proofs.Fields.{IsBytes, wide8, wide32, number_takes}
use Rattle.hh_saved.proofs.Entries.{total_takes}
use Rattle.hh_saved.proofs.Families.{family_takes}
use Rattle.hh_saved.proofs.Grids.{rows_take, cells_fit}
use Rattle.hh_saved.proofs.reading.take_table.Goals as goal

pub from_cells-requires : goal.from_cells-requires
from_cells-requires c =
    let width = c.in_ok-width in
    let depth = c.in_ok-depth in
    let family = c.in_ok-family in
    let total = c.in_ok-total in
    let cells = c.in_ok-cells in
    let fits : IsBytes c.args.bytes.now = λ i. omega (arith, c.type_inv.bytes i) in
    let t0 = number_takes _ _ wide32 _ _ fits width.ensures in
    let t1 = number_takes _ _ wide8 _ _ t0.0.rest_fits depth.ensures in
    let t2 = family_takes _ _ _ t1.0.rest_fits family.ensures.family in
    let t3 = total_takes _ _ t2.0.rest_fits total.ensures in
    let t4 = rows_take _ _ _ _ _ t3.0.rest_fits cells.ensures in
    cells_fit family.family c.from-width.result total.total cells.cells.items (grind (arith, nat_tests)) t3.1
    (rw t2.2 t4.1)
