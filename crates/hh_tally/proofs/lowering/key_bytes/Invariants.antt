use Rattle.std.proofs.Common.{◌≡◌, ◌*◌, ◌≤◌, take}
use Rattle.std.specs.Map.{keys_of}
use Rattle.hh_tally.specs.Tallies.{bytes_of}
use Rattle.hh_tally.proofs.lowering.key_bytes.Given as goal

abbrev pub invariant-loop-i : goal.invariant-loop-i
invariant-loop-i l = (l.bytes ≡ bytes_of (keys_of (take l.i l.index.entries))) × (l.bytes ≤ 4096 * l.i)
