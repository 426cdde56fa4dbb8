use Rattle.std.proofs.Common.{◌≤◌, take}
use Rattle.std.specs.Prelude.{All, IfSome}
use Rattle.hh_pieces.proofs.long_record.fields_read.Given as goal

abbrev pub invariant-loop-place : goal.invariant-loop-place
invariant-loop-place l =
    All (λ place. place ≤ l.last) (take l.place-index l.place-items) × IfSome l.columns.weight (λ place. place ≤ l.last)
