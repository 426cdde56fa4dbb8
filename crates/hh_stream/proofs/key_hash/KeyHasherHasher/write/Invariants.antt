use Rattle.std.proofs.Common.{◌≡◌}
use Rattle.hh_stream.specs.KeyHash.{after_blocks}
use Rattle.hh_stream.proofs.key_hash.KeyHasherHasher.write.Given as goal

abbrev pub invariant-loop-block : goal.invariant-loop-block
invariant-loop-block l = l.state ≡ after_blocks l.self.factor l.initial.state l.bytes l.block
