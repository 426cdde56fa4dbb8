use Rattle.std.proofs.Common.{◌≡◌, ◌++◌}
use Rattle.std.specs.List.{flat_map}
use Rattle.hh_rows.specs.Json.{next_member}
use Rattle.hh_rows.proofs.json.push_others.Given as goal

abbrev pub invariant-loop-name : goal.invariant-loop-name
invariant-loop-name l =
    l.text.items ≡ l.fn.text.items ++ flat_map (λ p. next_member (p.0.now.now, p.1.now.now)) l.yielded
