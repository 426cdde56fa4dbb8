use Rattle.std.proofs.Common.{◌∙◌, ℕ, ap}
use Rattle.hh_rows.specs.Printed.{printed_rows}
use Rattle.hh_files.proofs.once.report_once.Goals as goal

pub returns-clause-rows : goal.returns-clause-rows
returns-clause-rows g c =
    let r = c.args.rows.now in
    let keys = c.in_ok-total.keys.items in
    let (xs, are, reports, sum) = c.in_ok-total.ensures.keys in (
      are,
      (
        xs,
        keys,
        reports,
        c.in_ok-printed_text.ensures ∙ ap (printed_rows c.in_ok-total.total r) c.deref.ensures.value
            ∙ ap (λ (n : ℕ). printed_rows n r keys) sum,
      ),
    )
