use Rattle.std.proofs.Common.{◌∷◌, ◌++◌, [], List, refl}
use Rattle.hh_stream.specs.Weights.{Entry}
use Rattle.hh_records.proofs.TakenFacts.{taken_all}
use Rattle.hh_files.proofs.by_plan.stream_of.Goals as goal

pub returns-clause-stream : goal.returns-clause-stream
returns-clause-stream g c =
    let t = c.in_ok-read_records.ensures.items in
    rw (taken_all (λ (xs : List Entry) (e : Entry). xs ++ e ∷ []) (λ xs. xs) (λ xs e. refl) t c.new.ensures) t.reads
