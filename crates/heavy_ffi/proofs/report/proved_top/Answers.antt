use Rattle.std.proofs.Common.{rules}
use Rattle.heavy_ffi.proofs.OutcomeFacts.{outcome_of}
use Rattle.heavy_ffi.proofs.report.proved_top.Goals as goal

pub returns-clause-answers : goal.returns-clause-answers
returns-clause-answers c = record {
  passed = λ none.
      outcome_of _ _ c.top_of-rows.result c.top_of-rows.ensures.rows c.top_of-rows.ensures.refused c.answer.ensures.outcome;
  tested = search rules;
}
