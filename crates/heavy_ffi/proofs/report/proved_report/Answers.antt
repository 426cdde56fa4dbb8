use Rattle.std.proofs.Common.{◌≡◌, rules, sym}
use Rattle.hh_library.specs.LaidOut.{bad_report}
use Rattle.heavy_ffi.specs.Items.{keys_of}
use Rattle.heavy_ffi.specs.Layouts.{LaidRefused}
use Rattle.heavy_ffi.proofs.OutcomeFacts.{outcome_of, told_wrong}
use Rattle.heavy_ffi.proofs.report.proved_report.Goals as goal

pub returns-clause-answers : goal.returns-clause-answers
returns-clause-answers c = rw (sym c.share_given-share.ensures) (record {
  passed = λ none.
      outcome_of _ _ c.report_of-rows.result c.report_of-rows.ensures.rows c.report_of-rows.ensures.refused c.answer.ensures.outcome;
  tested = search rules;
})

pub returns-clause-early : goal.returns-clause-early
returns-clause-early c = λ none.
    rw (sym c.share_given-share.ensures)
    (told_wrong (bad_report c.args.k c.share_given-share.result)
    (λ wrong. LaidRefused c.args.layout.now (keys_of c.args.columns.now c.args.ends.now) (λ l e. e ≡ wrong))
    c.report_of-rows.result c.report_of-rows.ensures.early c.answer.ensures.size c.answer.ensures.outcome)
