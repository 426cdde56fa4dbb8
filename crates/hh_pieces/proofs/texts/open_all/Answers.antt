use Rattle.std.proofs.Common.{◌∷◌, ◌∙◌, [], length, sym, ap, arith}
use Rattle.hh_records.proofs.OpenFacts.{nothing-left}
use Rattle.hh_pieces.proofs.TextFacts.{open-start, open-more, open-refused, open-end}
use Rattle.hh_pieces.proofs.texts.open_all.Goals as goal

pub returns-in-Err-clause-refused : goal.returns-in-Err-clause-refused
returns-in-Err-clause-refused g c =
    let all = c.args.first ∷ c.args.others.items in
    open-refused g.R.Read.remaining c.args.layout.now _ all c.args.first c.args.others.items [] c.in-Err.error
    (open-start g.R.Read.remaining c.args.layout.now all) c.in-Err.ensures.refused

pub loop-reader-init : goal.loop-reader-init
loop-reader-init g c =
    let all = c.args.first ∷ c.args.others.items in
    let gives = c.into_iter-reader-iterator.ensures.into_iter_gives in (
      tt,
      tt,
      gives.1 ∙ c.args.others.ok.0 ∙ ap length (sym gives.0),
      rw gives.0 (open-more g.R.Read.remaining c.args.layout.now all c.args.first c.args.others.items [] _
          (open-start g.R.Read.remaining c.args.layout.now all) (rw c.new-texts.ensures.items at c.in-Ok.ensures.opened)),
    )

pub loop-reader-preserved : goal.loop-reader-preserved
loop-reader-preserved g c =
    let all = c.args.first ∷ c.args.others.items in
    let inv = c.loop-reader.invariant in
    let steps = c.in-Some.ensures.steps in
    let long = ap length steps.0 in (
      tt,
      tt,
      let was = inv.2 in let gone = steps.1 in omega (arith, was, gone, long),
      open-more g.R.Read.remaining c.args.layout.now all c.in-Some.reader _ _ _ (rw steps.0 at inv.3)
          c.in-Ok-open_next.ensures.opened,
    )

pub returns-in-Err-open_next-clause-refused : goal.returns-in-Err-open_next-clause-refused
returns-in-Err-open_next-clause-refused g c =
    let all = c.args.first ∷ c.args.others.items in
    open-refused g.R.Read.remaining c.args.layout.now _ all c.in-Some.reader _ c.loop-reader.texts.items
    c.in-Err-open_next.error (rw c.in-Some.ensures.steps.0 at c.loop-reader.invariant.3) c.in-Err-open_next.ensures.refused

pub returns-clause-opened : goal.returns-clause-opened
returns-clause-opened g c =
    let inv = c.loop-reader.invariant in
    let none = nothing-left _ (sym c.in-None.ensures.steps.0 ∙ inv.2) in
    open-end g.R.Read.remaining c.args.layout.now (c.args.first ∷ c.args.others.items) c.loop-reader.texts.items
    (rw (← none) at inv.3)
