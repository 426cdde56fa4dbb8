use Rattle.std.proofs.Common.{rules}
use Rattle.heavy_ffi.proofs.OutcomeFacts.{by_file}
use Rattle.heavy_ffi.proofs.file_call.answer_by_file.Goals as goal

pub returns-in-Some-saved-clause-answers : goal.returns-in-Some-saved-clause-answers
returns-in-Some-saved-clause-answers g c = record {
  passed = λ none. record {
    outcome =
        by_file (g.C.FileCall.gives c.args.call) (g.C.FileCall.refuses c.args.call) (g.met.C.FileCall.memory c.args.call)
        c.args.heavy.now.place.value c.in-Some-saved.file c.bytes_by.result c.in-Some-saved.ensures.saved
        c.in-Some-saved.ensures.refused c.bytes_by.ensures.given c.bytes_by.ensures.made c.bytes_by.ensures.refused
        c.answer.ensures.outcome;
    nothing = search rules;
  };
  tested = search rules;
}
