use Rattle.std.proofs.Common.{◌≡◌, length, sym, ap, ap₂, subst, arith}
use Rattle.std.proofs.lemmas.Bool.{false≢true}
use Rattle.hh_summaries.specs.Counters.{Counters, IsCounters, plus, tally}
use Rattle.hh_summaries.proofs.Weights.{counters-plus}
use Rattle.hh_summaries.proofs.entries.join.Goals as goal

pub cut-requires : goal.cut-requires
cut-requires c =
    subst IsCounters (sym c.in_ok-push_sums.ensures.summed)
    (counters-plus c.args.left.now c.args.right.now c.requires.left c.requires.right)

pub returns-in_err-cut-clause-none : goal.returns-in_err-cut-clause-none
unfolding tally
returns-in_err-cut-clause-none c = λ left right.
    let none : length (plus c.args.left.now c.args.right.now) ≡ 0 =
    ap₂ (λ (d e : Counters). length (plus d e)) left right in
    absurd (false≢true (c.in_err-cut.ensures.few (omega (arith, none, ap length c.in_ok-push_sums.ensures.summed))))
