use Rattle.std.proofs.Common.{◌≡◌, ℕ, ap₂, ◌+◌, ◌-◌, ◌≤◌, ◌⊎◌, inl, inr, List, ◌++◌, length, take, drop, take_all, sym, ap, ◌∙◌, arith, rules}
use Rattle.std.proofs.lemmas.List.{length-drop}
use Rattle.std.proofs.lemmas.Result.{on_ok_weaker}
use Rattle.hh_stream.specs.Weights.{Entry}
use Rattle.hh_summaries.specs.Counters.{Counters}
use Rattle.hh_summaries.proofs.Summing.{summed_left, summed_right, summed_both, summed_whole}
use Rattle.hh_summaries.proofs.entries.push_sums.Goals as goal
use Rattle.hh_summaries.proofs.entries.push_sums.Goals.{in-Less, in-Equal, in-Greater, then-loop-l-test+else-r-right, else-loop-l-test}

pub loop-l-preserved : goal.loop-l-preserved
loop-l-preserved c =
    let so_far = c.loop-l in
    elim c.match-order.branch [
      | in-Less w ↦
          let one : c.from-l.result ≡ 1 = search rules in
          let none : c.from-r.result ≡ 0 = search rules in
          let stays : so_far.r + c.from-r.result ≡ so_far.r = omega (arith, none) in
          rw (one, stays, c.in_ok-push_copy.ensures.pushed, ap {B = Entry} (λ n. (n.0.now, n.1)) w.number-is)
          (summed_left c.args.left.now c.args.right.now so_far.all.items so_far.l so_far.r c.index-left-l.result
          c.index-right-r.result c.loop-l-test.true c.if-r-right.true c.index-left-l.is c.index-right-r.is
          (sym c.cmp-order.ensures ∙ w.in-Less.is) so_far.invariant)
      | in-Equal w ↦
          let left_on : c.from-l.result ≡ 1 = search rules in
          let right_on : c.from-r.result ≡ 1 = search rules in
          rw (left_on, right_on, c.in_ok-push_copy.ensures.pushed, ap {B = Entry} (λ n. (n.0.now, n.1)) w.number-is)
          (summed_both c.args.left.now c.args.right.now so_far.all.items so_far.l so_far.r c.index-left-l.result
          c.index-right-r.result c.loop-l-test.true c.if-r-right.true c.index-left-l.is c.index-right-r.is
          (sym c.cmp-order.ensures ∙ w.in-Equal.is) so_far.invariant)
      | in-Greater w ↦
          let none : c.from-l.result ≡ 0 = search rules in
          let stays : so_far.l + c.from-l.result ≡ so_far.l = omega (arith, none) in
          let one : c.from-r.result ≡ 1 = search rules in
          rw (stays, one, c.in_ok-push_copy.ensures.pushed, ap {B = Entry} (λ n. (n.0.now, n.1)) w.number-is)
          (summed_right c.args.left.now c.args.right.now so_far.all.items so_far.l so_far.r c.index-left-l.result
          c.index-right-r.result c.loop-l-test.true c.if-r-right.true c.index-left-l.is c.index-right-r.is
          (sym c.cmp-order.ensures ∙ w.in-Greater.is) so_far.invariant)
    ]

-- the slice from i on
rest_is : (c : Counters) (i : ℕ) → take (length c - i) (drop i c) ≡ drop i c
rest_is c i = take_all (length c - i) (drop i c) (omega (arith, length-drop i c))

pub returns-clause-summed : goal.returns-clause-summed
returns-clause-summed c =
    let left = c.args.left.now in
    let right = c.args.right.now in
    let l = c.loop-l.l in
    let r = c.loop-l.r in
    let all = c.loop-l.all.items in
    let done : (length left ≤ l) ⊎ (length right ≤ r) = elim c.loop-l-test.branch [
      | then-loop-l-test+else-r-right w ↦ inr w.if-r-right.false
      | else-loop-l-test w ↦ inl w.loop-l-test.false
    ] in
    on_ok_weaker c.push_copies-2.result (λ put. put
    ∙ ap₂ (λ (d e : List Entry). d ++ e) (c.in_ok-push_copies.ensures.pushed
    ∙ ap (λ (d : List Entry). all ++ d) (rest_is left l)) (rest_is right r)
    ∙ summed_whole left right all l r c.requires.left c.requires.right done c.loop-l.invariant) c.push_copies-2.ensures.pushed

pub returns-in_err-push_copies : goal.returns-in_err-push_copies
returns-in_err-push_copies c = search rules
