use Rattle.std.proofs.Common.{◌∙◌, sym}
use Rattle.hh_pieces.proofs.QuoteFacts.{line-none, line-quoted, line-some}
use Rattle.hh_pieces.proofs.cuts.feed_after.Goals as goal

pub returns-then-not-is_open : goal.returns-then-not-is_open
returns-then-not-is_open c =
    line-quoted c.args.delimiter c.args.text.now c.args.from c.args.to c.args.place c.args.last c.requires.order
    c.requires.within c.requires.place c.requires.plain (sym c.is_open.ensures ∙ c.if-not-is_open.true) c.requires.last

pub returns-in-Some : goal.returns-in-Some
returns-in-Some c =
    line-some c.args.delimiter c.args.text.now c.args.from c.args.to c.in-Some.at c.args.place c.requires.order
    c.requires.within c.requires.place c.requires.plain (sym c.is_open.ensures ∙ c.if-not-is_open.false)
    c.in-Some.ensures.0 c.in-Some.ensures.1

pub returns-in-None : goal.returns-in-None
returns-in-None c =
    line-none c.args.delimiter c.args.text.now c.args.from c.args.to c.args.last c.requires.order c.requires.within
    c.in-None.ensures c.requires.last
