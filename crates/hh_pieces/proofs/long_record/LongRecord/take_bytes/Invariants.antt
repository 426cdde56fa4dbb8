use Rattle.std.proofs.Common.{◌≤◌, ◌-◌, false, length, take}
use Rattle.hh_pieces.specs.LongRecords.{IsFed, config_for}
use Rattle.hh_pieces.proofs.long_record.LongRecord.take_bytes.Given as goal

abbrev pub invariant-loop-count : goal.invariant-loop-count
invariant-loop-count l = (l.count ≤ length l.bytes)
    × IsFed (config_for l.syntax) l.limits l.initial.self (take l.count l.bytes) l.self false

abbrev pub decreases-loop-count : goal.decreases-loop-count
decreases-loop-count l = length l.bytes - l.count
