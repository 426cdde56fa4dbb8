use Rattle.std.proofs.Common.{◌++◌, ◌∷◌, ◌∙◌, [], ap, arith, rules, IsErrOf}
use Rattle.hh_countmin.specs.Table.{TableView}
use Rattle.hh_stream.specs.declared.taking.PieceFault.TheVariants as fault
use Rattle.hh_workers.specs.Pieces.{items_at}
use Rattle.hh_workers.proofs.PieceSums.{more_total}
use Rattle.hh_pool.proofs.Tried.{first_more}
use Rattle.hh_pool.proofs.first.FirstPassPass.take.Goals as goal

pub returns-in_err-summary-clause-refused : goal.returns-in_err-summary-clause-refused
returns-in_err-summary-clause-refused g c is numbers distinct made =
    let total = ap (λ (t : TableView). t.total) made.table in
    let refused : IsErrOf c.summarise.result fault.Refused = search rules in
    omega (arith, c.summarise.ensures.refused refused, more_total c.args.self.now.pieces.now numbers c.args.piece distinct, total)

pub returns-clause-more : goal.returns-clause-more
returns-clause-more g c numbers distinct made =
    let lists = c.args.self.now.pieces.now in
    let options = c.args.self.now.options.now in
    let kept = c.in-Ok.ensures.items
    ∙ ap (λ s. c.args.made.summaries.items ++ (c.args.piece, s) ∷ []) c.in_ok-summary.ensures.summary in
    let table = c.in_ok-summary.ensures.table options.family options.width (items_at lists numbers) made.table in
    first_more lists options numbers c.args.piece _ _ _ _ kept table made

pub returns-in_err-summary-clause-more : goal.returns-in_err-summary-clause-more
returns-in_err-summary-clause-more g c = search rules
