use Rattle.std.proofs.Common.{◌<◌, ℕ, get_or}
use Rattle.hh_commands.specs.Bounds.{IsWithin}
use Rattle.hh_commands.proofs.BoundsFacts.{bounds_at}
use Rattle.hh_commands.proofs.compared.key_outside.Given as goal

-- the keys before this place are within their bounds
abbrev pub invariant-loop-place : goal.invariant-loop-place
invariant-loop-place l = (i : ℕ) → i < l.place → IsWithin l.bounds (bounds_at l.summary i) (get_or l.counts.weights i 0)
