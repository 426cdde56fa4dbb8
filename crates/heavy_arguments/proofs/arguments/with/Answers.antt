-- One argument more.
use Rattle.std.proofs.Common.{rules}
use Rattle.heavy_arguments.proofs.Rules.{argument_added}
use Rattle.heavy_arguments.proofs.arguments.with.Goals as goal

pub loop-argument-preserved : goal.loop-argument-preserved
loop-argument-preserved c = (
  search rules,
  argument_added _ _ _ _ _ _ _ _ c.loop-argument-test.true c.loop-argument.invariant.1 c.to_arg.ensures.rule
      (c.in_ok-command.ensures.shape c.to_arg.ensures.local),
)
