use Rattle.std.proofs.Common.{refl}
use Rattle.hh_stream.specs.KeyHash.{fixed_words}
use Rattle.hh_stream.proofs.key_hash.KeyHash.fixed.Goals as goal

pub returns : goal.returns
unfolding fixed_words
returns c = refl
