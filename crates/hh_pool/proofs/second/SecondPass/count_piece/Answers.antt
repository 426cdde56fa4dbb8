use Rattle.std.proofs.Common.{◌≡◌, ◌++◌, arith, inl, inr, length, subst}
use Rattle.std.proofs.lemmas.Bool.Decides.{nat_tests}
use Rattle.hh_workers.specs.Pieces.{piece_of}
use Rattle.hh_pool.specs.Progress.{AreCounted}
use Rattle.hh_pool.proofs.Held.{still_counted}
use Rattle.hh_pool.proofs.Taken.{counted_on, on_ok}
use Rattle.hh_pool.proofs.second.SecondPass.count_piece.Goals as goal

pub returns-then-is_empty-clause-counted : goal.returns-then-is_empty-clause-counted
returns-then-is_empty-clause-counted g c = λ ys p.
    let keys = c.args.self.now.candidates.now in
    let none : length keys ≡ 0 = grind (arith, nat_tests) in
    still_counted keys ys (piece_of c.args.self.now.pieces.now c.args.piece) c.args.counts.now none p

pub returns-clause-counted : goal.returns-clause-counted
returns-clause-counted g c =
    let keys = c.args.self.now.candidates.now in
    on_ok c.feed.result (λ took ys p. subst (λ xs. AreCounted keys (ys ++ xs) c.feed.new.taker) (took.given tt)
    (counted_on keys ys took.xs c.args.counts.now _ p took.taken)) c.feed.ensures.taken

pub returns-clause-refused : goal.returns-clause-refused
returns-clause-refused g c is = elim (c.feed.ensures.refused is tt) [
  | inl none ↦ absurd none
  | inr high ↦ high
]
