-- One command more.
use Rattle.std.proofs.Common.{rules}
use Rattle.heavy_arguments.proofs.Rules.{command_added}
use Rattle.heavy_arguments.proofs.arguments.with_commands.Goals as goal

pub loop-words-preserved : goal.loop-words-preserved
loop-words-preserved c = (
  search rules,
  command_added _ _ _ _ _ _ _ _ c.loop-words-test.true c.loop-words.invariant.1 c.in_ok-command_of.ensures.app
      (c.in_ok-all-2.ensures.shape c.in_ok-command_of.ensures.globals),
)
