use Rattle.std.proofs.Common.{◌-◌, is_ge, refl, sym, ap, ◌∙◌, arith}
use Rattle.hh_summaries.proofs.Places.{counters_from_places, less_at}
use Rattle.hh_summaries.proofs.entries.are_counters.Goals as goal

pub returns-then-ge : goal.returns-then-ge
returns-then-ge c = (
  λ h. absurd (cc),
  λ h.
      let entries = c.args.entries.now in
      let i = c.loop-i.i in
      let less = less_at entries h (i - 1) i c.index-entries-i-then-i-gt0.result c.index-entries-i-then-i-gt0-2.result
      (omega arith) c.loop-i-test.true in
      absurd (cc (sym c.if-ge.true ∙ c.ge.ensures ∙ ap is_ge less)),
)

pub returns : goal.returns
returns c = (
  λ h. counters_from_places c.args.entries.now (λ k d l. c.loop-i.invariant.positive k d (omega arith))
      (λ k d l. c.loop-i.invariant.rising k d (omega arith)),
  λ h. refl,
)
