use Rattle.std.proofs.Common.{◌+◌, sym, ap₂, ◌∙◌, subst, arith}
use Rattle.hh_summaries.specs.Counters.{Counters, Fits, join}
use Rattle.hh_summaries.proofs.Summaries.{fits_join}
use Rattle.hh_summaries.proofs.summary.Summary.merge.Goals as goal

pub invariant_of-self : goal.invariant_of-self
invariant_of-self c =
    let inside = c.self.inside in
    let other = c.other.inside in
    let is =
    c.in-Ok.ensures.joined ∙ ap₂ (λ (d e : Counters). join d e inside.k) c.deref.ensures.value c.deref-2.ensures.value in
    subst (Fits inside.k (inside.total + other.total)) (sym is)
    (fits_join inside.entries.items other.entries.items inside.total other.total inside.k c.self.invariant
    c.other.invariant.within (omega arith))
