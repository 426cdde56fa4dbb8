use Rattle.std.proofs.Common.{List, length, sym, ap, ◌∙◌, subst, arith, take_all}
use Rattle.std.specs.List.Sorted.{IsStrictlySortedBy}
use Rattle.std.specs.Map.{keys_of}
use Rattle.std.proofs.lemmas.List.Sums.{count_by-le-length, length-filter}
use Rattle.hh_stream.specs.Weights.{Entry, key_cmp}
use Rattle.hh_summaries.proofs.Reports.{rising-filter}
use Rattle.hh_tally.specs.Tallies.{is_unsure, unsure_of}
use Rattle.hh_tally.proofs.tally.Tally.unsure.Goals as goal

pub returns-clause-rising : goal.returns-clause-rising
returns-clause-rising c = λ rises.
    let es = c.args.entries.now in
    let all = c.loop-key.invariant
    ∙ ap (unsure_of c.args.self.now) (take_all c.loop-key.key-index es (omega (arith, c.loop-key-test.false))) in
    subst (λ (es : List Entry). IsStrictlySortedBy key_cmp (keys_of es)) (sym all)
    (rising-filter (is_unsure c.args.self.now) es rises)

pub returns-clause-few : goal.returns-clause-few
returns-clause-few c =
    let es = c.args.entries.now in
    let all = c.loop-key.invariant
    ∙ ap (unsure_of c.args.self.now) (take_all c.loop-key.key-index es (omega (arith, c.loop-key-test.false))) in
    let test = is_unsure c.args.self.now in
    omega (arith, ap length all, length-filter test es, count_by-le-length test es)
