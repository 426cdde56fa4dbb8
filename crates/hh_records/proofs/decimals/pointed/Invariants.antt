use Rattle.std.proofs.Common.{◌≡◌, ◌-◌, ◌++◌}
use Rattle.hh_records.specs.Decimals.{last_digits, pointed}
use Rattle.hh_records.proofs.decimals.pointed.Given as goal

abbrev pub invariant-loop-i : goal.invariant-loop-i
invariant-loop-i l = l.text.items ++ last_digits (l.decimals - l.i) l.number ≡ pointed l.decimals l.number
