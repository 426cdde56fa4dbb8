use Rattle.csv.specs.Machine.{line_feed}
use Rattle.memchr.specs.Find.{is_byte}
use Rattle.hh_pieces.proofs.FieldFacts.{run-found, run-none}
use Rattle.hh_pieces.proofs.fields.feed_from.Goals as goal

pub returns-in-Some : goal.returns-in-Some
returns-in-Some c =
    run-found (is_byte line_feed) c.args.text.now c.args.from c.requires.within c.in-Some.run' c.in-Some.ensures.0 c.in-Some.ensures.1

pub returns-in-None : goal.returns-in-None
returns-in-None c = run-none (is_byte line_feed) c.args.text.now c.args.from c.requires.within c.in-None.ensures
