use Rattle.std.specs.Hash.FoldHasher.{folded_multiply}
use Rattle.hh_stream.proofs.key_hash.folded_multiply.Goals as goal

pub returns : goal.returns
unfolding folded_multiply
returns c = rw (c.from.ensures, c.from-2.ensures)
