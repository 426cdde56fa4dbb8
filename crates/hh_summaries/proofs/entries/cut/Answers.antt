use Rattle.std.proofs.Common.{sym, ap, ◌∙◌, arith}
use Rattle.hh_summaries.specs.Counters.{lower}
use Rattle.hh_summaries.proofs.Level.{level_few}
use Rattle.hh_summaries.proofs.Summaries.{lower_none}
use Rattle.hh_summaries.proofs.entries.cut.Goals as goal

pub returns-then-len-k-clause-lowered : goal.returns-then-len-k-clause-lowered
returns-then-len-k-clause-lowered c =
    let entries = c.args.entries.now.items in
    let few = level_few entries c.args.k (omega (arith, c.len.ensures, c.if-len-k.true)) in
    sym (ap (λ t. lower t entries) few ∙ lower_none entries c.requires)
