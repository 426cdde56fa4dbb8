use Rattle.std.proofs.Common.{arith}
use Rattle.std.proofs.lemmas.Grind.{common_steps}
use Rattle.heavy_host.proofs.words.read_words.Goals as goal

pub loop-number-preserved : goal.loop-number-preserved
loop-number-preserved g c = record {
  count = grind (arith, common_steps);
  each = λ k less. grind (arith, common_steps);
}
