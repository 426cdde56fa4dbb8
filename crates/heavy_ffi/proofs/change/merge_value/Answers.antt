use Rattle.hh_commands.specs.Files.{Refuses}
use Rattle.hh_commands.specs.Merge.{merge_saved}
use Rattle.heavy_ffi.specs.Outcomes.{Becomes}
use Rattle.heavy_ffi.proofs.OutcomeFacts.{refused_change}
use Rattle.heavy_ffi.proofs.change.merge_value.Goals as goal

pub returns-in-Err-clause-outcome : goal.returns-in-Err-clause-outcome
returns-in-Err-clause-outcome c =
    refused_change (λ value. Becomes (merge_saved 2 value c.args.next.now)) (λ value. Refuses (merge_saved 2 value c.args.next.now))
    c.args.heavy.now.place.value c.put.new.self.place.value c.in-Some.value.value _ _ c.in-Err.refusal c.in-Some.ensures.taken
    c.put.ensures c.deref_mut.ensures.value c.in-Err.ensures.unchanged c.in-Err.ensures.refused c.tell.ensures.reported
