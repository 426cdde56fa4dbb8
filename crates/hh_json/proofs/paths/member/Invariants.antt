use Rattle.std.proofs.Common.{◌≡◌, length, Option}
use Rattle.json.specs.Find.{Finds, InMembers, get_member, later_or}
use Rattle.json.specs.Json.{Json, Members}
use Rattle.hh_json.specs.Paths.{part_name}
use Rattle.hh_json.proofs.paths.member.Given as goal

abbrev pub invariant-loop-name : goal.invariant-loop-name
invariant-loop-name l =
    let name = part_name l.is_escaped l.part in
    (ms : Members) → InMembers l.fn.members ms
    → (rest : Members) × (earlier : Option Json) × InMembers l.left rest × Finds l.found earlier
    × (get_member name ms ≡ later_or (get_member name rest) earlier)

abbrev pub decreases-loop-name : goal.decreases-loop-name
decreases-loop-name l = length l.left
