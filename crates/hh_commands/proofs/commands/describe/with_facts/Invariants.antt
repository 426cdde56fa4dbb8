use Rattle.std.proofs.Common.{◌≡◌, take}
use Rattle.hh_rows.specs.Outputs.{with_rows}
use Rattle.hh_commands.specs.Describe.{fact_fields}
use Rattle.hh_commands.proofs.commands.describe.with_facts.Given as goal

abbrev pub invariant-loop-name : goal.invariant-loop-name
invariant-loop-name l = l.rows ≡ with_rows l.fn.head (λ f. fact_fields (f.0.now, f.1)) (take l.name-index l.facts)
