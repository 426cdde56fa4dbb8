use Rattle.hh_pieces.proofs.FieldFacts.{line-is}
use Rattle.hh_pieces.proofs.lines.plain_parts.Goals as goal

pub returns-in-Whole-clause-end : goal.returns-in-Whole-clause-end
returns-in-Whole-clause-end c = line-is c.args.text.now c.args.from c.feed_from-end.result c.requires.no_return c.feed_from-end.ensures
