use Rattle.std.proofs.Common.{rules, arith, IsErrOf}
use Rattle.hh_stream.specs.declared.taking.PieceFault.TheVariants as fault
use Rattle.hh_workers.specs.Pieces.{items_at}
use Rattle.hh_workers.proofs.PieceSums.{more_total}
use Rattle.hh_pool.proofs.Tried.{second_more}
use Rattle.hh_pool.proofs.second.SecondPassPass.take.Goals as goal

pub returns-in_err-count_piece-clause-refused : goal.returns-in_err-count_piece-clause-refused
returns-in_err-count_piece-clause-refused g c is numbers distinct made =
    let refused : IsErrOf c.count_piece.result fault.Refused = search rules in
    omega (
      arith,
      c.count_piece.ensures.refused refused,
      more_total c.args.self.now.pieces.now numbers c.args.piece distinct,
      made.total,
    )

pub returns-clause-more : goal.returns-clause-more
returns-clause-more g c numbers distinct made =
    let lists = c.args.self.now.pieces.now in
    second_more lists c.args.self.now.candidates.now numbers c.args.piece _
    (c.in_ok-count_piece.ensures.counted (items_at lists numbers) made)
