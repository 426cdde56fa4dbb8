use Rattle.std.specs.Prelude.{IfSome}
use Rattle.hh_pieces.proofs.SpanFacts.{IsCutSoFar}
use Rattle.hh_pieces.proofs.cut_files.spans_of.Given as goal

abbrev pub invariant-loop : goal.invariant-loop
invariant-loop g l = IfSome (g.S.ReadAt.bytes l.source) (λ bytes. IsCutSoFar bytes l.from l.spans.items)
