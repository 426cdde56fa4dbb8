use Rattle.std.proofs.Common.{◌≡◌, ◌-◌, ◌/◌, length, refl, add-one, arith}
use Rattle.hh_stream.specs.KeyHash.{after_blocks, write}
use Rattle.hh_stream.proofs.key_hash.KeyHasherHasher.write.Goals as goal

pub loop-block-init : goal.loop-block-init
unfolding after_blocks
loop-block-init c = refl

pub loop-block-preserved : goal.loop-block-preserved
unfolding after_blocks
loop-block-preserved c =
    rw (add-one, c.step-state.ensures, c.word.ensures, c.word-in-loop-block.ensures, ← c.loop-block.invariant)

pub returns : goal.returns
unfolding write
returns c =
    let count : (length c.args.bytes.now - 1) / 16 ≡ c.loop-block.block = omega (arith, c.loop-block.auto.block-end, c.loop-block-test.false) in
    rw (c.step-self.ensures, ← c.last_words-first.ensures, c.loop-block.invariant, count, c.rotate_left-state.ensures)
