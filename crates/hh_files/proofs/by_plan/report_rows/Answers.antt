use Rattle.std.proofs.Common.{refl}
use Rattle.hh_files.proofs.by_plan.report_rows.Goals as goal

pub returns-clause-rows : goal.returns-clause-rows
returns-clause-rows g c =
    let (xs, are, keys, total) = c.in_ok-total.ensures.keys in
    (are, (xs, c.in_ok-total.keys.items, keys, rw (c.in_ok-printed_text.ensures, c.deref.ensures.value, total) refl))
