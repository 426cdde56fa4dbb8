use Rattle.std.proofs.lemmas.Result.{err_from_is_err_and}
use Rattle.hh_saved.proofs.Loops.{rows_go_on, rows_fail, rows_end}
use Rattle.hh_saved.proofs.reading.take_rows.Goals as goal

pub loop-preserved : goal.loop-preserved
loop-preserved c =
    rows_go_on _ _ _ _ _ _ _ _ _
    c.loop-test.true c.in_ok-rest.ensures c.loop.invariant

pub returns : goal.returns
returns c = rows_end _ _ _ _ _ _ _ c.loop-test.false c.loop.invariant

pub returns-in_err-rest : goal.returns-in_err-rest
returns-in_err-rest c =
    let p = err_from_is_err_and c.from_residual.result c.from_residual.ensures.1 in
    rw (p.1, p.2) (rows_fail c.in_err-rest.field-0.0 _ _ _ _ _ _ _ c.loop-test.true c.in_err-rest.ensures
    c.loop.invariant)
