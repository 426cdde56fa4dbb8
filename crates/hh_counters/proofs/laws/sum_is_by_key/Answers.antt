use Rattle.hh_counters.proofs.laws.sum_is_by_key.Goals as goal
use Rattle.std.proofs.Common.{◌∙◌, sym}
use Rattle.hh_summaries.proofs.Weights.{counters-plus, weight_of-plus, same_counters}
use Rattle.hh_summaries.proofs.Summaries.{counters-join, weight_of-join}

pub returns-clause-sum : goal.returns-clause-sum
returns-clause-sum c = λ d e h g. (
  counters-plus d e h g,
  λ x. weight_of-plus x d e,
  λ s k same. same_counters s _ k (counters-plus d e h g) (λ x. same x ∙ sym (weight_of-plus x d e)),
)

pub returns-clause-join : goal.returns-clause-join
returns-clause-join c = λ d e k. (counters-join d e k, λ x. weight_of-join x d e k)
