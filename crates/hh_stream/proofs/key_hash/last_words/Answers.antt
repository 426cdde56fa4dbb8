use Rattle.std.proofs.lemmas.Grind.{common_steps}
use Rattle.std.proofs.Common.{arith}
use Rattle.hh_stream.specs.KeyHash.{last_words}
use Rattle.hh_stream.proofs.key_hash.last_words.Goals as goal

pub returns-then-len-ge8 : goal.returns-then-len-ge8
unfolding last_words
returns-then-len-ge8 c = grind (arith, common_steps)

pub returns-then-len-ge4 : goal.returns-then-len-ge4
unfolding last_words
returns-then-len-ge4 c = grind (arith, common_steps)

pub returns-then-len-ge1 : goal.returns-then-len-ge1
unfolding last_words
returns-then-len-ge1 c = grind (arith, common_steps)

pub returns-else-len-ge1 : goal.returns-else-len-ge1
unfolding last_words
returns-else-len-ge1 c = grind (arith, common_steps)
