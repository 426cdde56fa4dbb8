use Rattle.std.proofs.Common.{[], subst, sym}
use Rattle.hh_stream.proofs.TakingFacts.{follows}
use Rattle.hh_records.proofs.texts.gather_in_turn.Goals as goal

pub returns-clause-made : goal.returns-clause-made
returns-clause-made g c =
    let start = c.args.start in
    let is_of = g.T.Sketch.is_of start in
    let t = c.in_ok-read_into.ensures.items in
    let made = follows is_of _ (c.follow_items.ensures.more start) t.xs [] start c.requires.none in
    (t.xs, t.reads, t.positive, subst (is_of t.xs) (sym t.taken) made)
