use Rattle.hh_workers.proofs.workers.found_or_made.Goals as goal

pub returns-in-Some-clause-made : goal.returns-in-Some-clause-made
returns-in-Some-clause-made g c =
    let shared = rw c.in-Some.is at c.requires.found in
    (shared.seat.claims, shared.each, c.requires.kept shared.seat c.in-Some.made shared.done)
