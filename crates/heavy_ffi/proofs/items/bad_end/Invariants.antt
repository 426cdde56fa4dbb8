use Rattle.std.proofs.Common.{◌≡◌, ◌+◌, drop}
use Rattle.heavy_ffi.specs.Items.{bad_end}
use Rattle.heavy_ffi.proofs.items.bad_end.Given as goal

-- the ends that are left have the first fault of all
abbrev pub invariant-loop-i : goal.invariant-loop-i
invariant-loop-i l = bad_end (l.i + 1) l.from l.len (drop l.i l.ends) ≡ bad_end 1 0 l.len l.ends
