use Rattle.std.proofs.Common.{arith}
use Rattle.hh_pieces.proofs.SpanFacts.{known-span-more, known-spans-end}
use Rattle.hh_pieces.proofs.cut_files.spans_of.Goals as goal

pub loop-preserved : goal.loop-preserved
loop-preserved g c =
    rw c.in_ok-push.ensures.items
    (known-span-more (g.S.ReadAt.bytes c.args.source.now) c.loop.spans.items
    record { from = c.loop.from; to = c.in-Some-find_feed.to }
    (omega (arith, c.requires.some, c.in-Some.ensures, c.in-Some-find_feed.ensures.after))
    c.in-Some-find_feed.ensures.feed c.loop.invariant)

pub returns : goal.returns
returns g c =
    rw c.in_ok-push-2.ensures.items
    (known-spans-end (g.S.ReadAt.bytes c.args.source.now) c.loop.spans.items c.loop.from c.args.len _ (omega arith)
    c.requires.len c.loop.invariant)
