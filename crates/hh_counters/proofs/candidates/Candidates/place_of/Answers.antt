use Rattle.hh_counters.proofs.Counting.{place_is, place_found}
use Rattle.hh_counters.proofs.candidates.Candidates.place_of.Goals as goal

pub returns-clause-at : goal.returns-clause-at
returns-clause-at c = λ i. rw (← c.self.view_is) (place_is c.self.inside.keys.keys c.args.key.now c.get_index_of.result
    c.self.invariant c.get_index_of.ensures.index c.get_index_of.ensures.found i)

pub returns-clause-found : goal.returns-clause-found
returns-clause-found c = rw (← c.self.view_is) (place_found c.self.inside.keys.keys c.args.key.now c.get_index_of.result
    c.get_index_of.ensures.index c.get_index_of.ensures.found)
