use Rattle.std.proofs.Common.{◌∙◌, refl, arith, rules}
use Rattle.hh_stream.specs.Cuttings.{whole_of}
use Rattle.hh_pool.proofs.Closed.{closed_weights}
use Rattle.hh_pool.proofs.analysis.weigh.Goals as goal

pub returns-in-Some-clause-weights : goal.returns-in-Some-clause-weights
returns-in-Some-clause-weights g c =
    let lists = c.args.pieces.now in
    let done = rw c.in-Some.is at c.in_ok-weights.ensures.done in
    closed_weights lists (whole_of lists) c.args.candidates.now done.seat c.in-Some.weights.items refl c.requires.fits
    done.done done.each.distinct done.each.all (done.len ∙ c.len.ensures.len)
    (λ cell inside. done.sums cell (omega (arith, inside, c.len.ensures.len)))

pub returns-in_err-weights-clause-weights : goal.returns-in_err-weights-clause-weights
returns-in_err-weights-clause-weights g c = search rules

pub returns-in_err-counted-in-None-clause-weights : goal.returns-in_err-counted-in-None-clause-weights
returns-in_err-counted-in-None-clause-weights g c = search rules
