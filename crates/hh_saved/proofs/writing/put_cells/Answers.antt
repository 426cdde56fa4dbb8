use Rattle.std.proofs.Common.{refl}
use Rattle.std.specs.Int.{w64, to_be_bytes}
use Rattle.hh_saved.proofs.Written.{written_more}
use Rattle.hh_saved.proofs.writing.put_cells.Goals as goal

pub loop-cell-preserved : goal.loop-cell-preserved
loop-cell-preserved c =
    written_more (to_be_bytes w64) _ _ _ c.args.cells.now c.loop-cell.cell-index _ 0 c.loop-cell-test.true refl
    c.loop-cell.invariant c.in_ok-put_u64.ensures
