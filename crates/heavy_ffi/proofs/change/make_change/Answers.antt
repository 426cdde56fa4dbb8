use Rattle.heavy_ffi.specs.Changes.{ChangeRefused, LeavesChanged}
use Rattle.heavy_ffi.proofs.OutcomeFacts.{refused_change}
use Rattle.heavy_ffi.proofs.change.make_change.Goals as goal

pub returns-in-Err-clause-outcome : goal.returns-in-Err-clause-outcome
returns-in-Err-clause-outcome c =
    refused_change (LeavesChanged c.args.change) (ChangeRefused c.args.change)
    c.args.heavy.now.place.value c.put.new.self.place.value c.in-Some.value.value _ _ c.in-Err.refusal c.in-Some.ensures.taken
    c.put.ensures c.deref_mut.ensures.value c.in-Err.ensures.unchanged c.in-Err.ensures.refused c.tell.ensures.reported
