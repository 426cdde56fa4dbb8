use Rattle.hh_pieces.proofs.TextFacts.{one-opened}
use Rattle.hh_pieces.proofs.texts.open_next.Goals as goal

pub returns-clause-opened : goal.returns-clause-opened
returns-clause-opened g c =
    one-opened g.R.Read.remaining c.args.layout.now _ c.args.texts.now.items c.push.new.self.items c.in-Some.text
    c.in-Ok.ensures.items (rw c.in-Some.is at c.in_ok-text.ensures.opened)
