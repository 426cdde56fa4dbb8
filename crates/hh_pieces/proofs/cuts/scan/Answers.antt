use Rattle.std.proofs.Math.Seq.{take-length}
use Rattle.hh_pieces.proofs.QuoteFacts.{no-quote, no-quotes}
use Rattle.hh_pieces.proofs.cuts.scan.Goals as goal

pub feed_after-last-requires-clause-plain : goal.feed_after-last-requires-clause-plain
feed_after-last-requires-clause-plain c =
    no-quote c.args.text.now c.loop-run.from c.in-Some.run' c.in-Some.ensures.0

pub run_after-requires-clause-plain : goal.run_after-requires-clause-plain
run_after-requires-clause-plain c =
    no-quote c.args.text.now c.loop-run.from c.in-Some.run' c.in-Some.ensures.0

pub run_after-requires-2-clause-plain : goal.run_after-requires-2-clause-plain
run_after-requires-2-clause-plain c =
    no-quotes c.args.text.now c.loop-run.from c.loop-run.invariant.within c.in_default.ensures

pub feed_after-requires-clause-plain : goal.feed_after-requires-clause-plain
feed_after-requires-clause-plain c =
    no-quotes c.args.text.now c.loop-run.from c.loop-run.invariant.within c.in_default.ensures

pub returns : goal.returns
returns c = record {
  place = rw (take-length c.args.text.now) at c.run_after-2.ensures;
  last = c.feed_after.ensures;
}
