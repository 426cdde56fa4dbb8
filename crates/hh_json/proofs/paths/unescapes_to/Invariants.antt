use Rattle.std.proofs.Common.{◌≡◌, ◌↔◌, length}
use Rattle.serde_json.specs.Find.{unescape}
use Rattle.hh_json.proofs.paths.unescapes_to.Given as goal

abbrev pub invariant-loop-byte : goal.invariant-loop-byte
invariant-loop-byte l = (unescape l.part ≡ l.name) ↔ (unescape l.part_left ≡ l.name_left)

abbrev pub decreases-loop-byte : goal.decreases-loop-byte
decreases-loop-byte l = length l.part_left
