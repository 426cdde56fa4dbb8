use Rattle.hh_pieces.specs.Texts.{bytes_left}
use Rattle.hh_pieces.proofs.TakesFacts.{takes-as}
use Rattle.hh_pieces.proofs.TurnFacts.{leaves-all}
use Rattle.hh_pieces.proofs.texts.read_text.Goals as goal

pub returns-clause-items : goal.returns-clause-items
returns-clause-items g c =
    takes-as _ _ _ _ _ _ c.in_ok-taken.ensures.items (λ xs leaves. leaves-all c.args.layout.now c.args.text.columns
    c.args.before c.in_ok-taken.taken.number (g.T.TakeItems.weight_taken c.args.taker.now) xs
    (bytes_left g.R.Read.remaining c.args.text) leaves)
