use Rattle.std.proofs.Common.{◌≡◌, rules, ◌+◌, ◌<◌, ◌++◌, ◌∷◌, [], List, false, length, get_or, sym, ap, ◌∙◌, arith, take_all}
use Rattle.std.specs.Map.{keys_of}
use Rattle.std.proofs.lemmas.List.{length-append}
use Rattle.hh_stream.specs.Weights.{Entry}
use Rattle.hh_summaries.specs.Report.{weights_at}
use Rattle.hh_tally.specs.Tallies.{is_sure}
use Rattle.hh_tally.proofs.Counted.{counted_next, unsure_more, unsure_same, unsure_within, weights_more}
use Rattle.hh_tally.proofs.tally.Tally.weights.Goals as goal
use Rattle.hh_tally.proofs.tally.Tally.weights.Goals.{in-Some+in_ok-push-in-Some, in-None+in_ok-push-in-None}

pub bounds-counted-next : goal.bounds-counted-next
bounds-counted-next c =
    let within = unsure_within c.args.self.now c.args.entries.now c.loop-key.key-index c.loop-key-item.result c.loop-key-test.true
    c.loop-key-item.is c.in-None.ensures.sure in
    omega (arith, within, c.loop-key.invariant.1, c.requires.counted)

pub offset_bounds-counted-next : goal.offset_bounds-counted-next
offset_bounds-counted-next c =
    let within = unsure_within c.args.self.now c.args.entries.now c.loop-key.key-index c.loop-key-item.result c.loop-key-test.true
    c.loop-key-item.is c.in-None.ensures.sure in
    let low : c.loop-key.next < length c.args.counted.now = omega (arith, within, c.loop-key.invariant.1, c.requires.counted) in
    search rules

pub overflow_add-next : goal.overflow_add-next
overflow_add-next c =
    let within = unsure_within c.args.self.now c.args.entries.now c.loop-key.key-index c.loop-key-item.result c.loop-key-test.true
    c.loop-key-item.is c.in-None.ensures.sure in
    omega (arith, within, c.loop-key.invariant.1, c.requires.counted, c.type_inv.counted)

pub loop-key-preserved : goal.loop-key-preserved
loop-key-preserved c =
    let t = c.args.self.now in
    let es = c.args.entries.now in
    let i = c.loop-key.key-index in
    let e : Entry = c.loop-key-item.result in
    let l = c.loop-key-test.true in
    let is = c.loop-key-item.is in
    elim c.match-sure_weight.branch [
      | in-Some+in_ok-push-in-Some w ↦
          let pushed = ap (λ v. v.items) w.weights-is ∙ w.in_ok-push-in-Some.ensures.items in (
            ap length pushed ∙ length-append c.loop-key.weights.items _ ∙ ap (λ n. n + 1) c.loop-key.invariant.0,
            w.next-is ∙ c.loop-key.invariant.1 ∙ ap length (sym (unsure_same t es i e l is w.in-Some.ensures.sure)),
            λ xs bounds counted.
                pushed
                ∙ (λ j. c.loop-key.invariant.2 xs bounds counted j ++ w.in-Some.ensures.weight xs bounds j ∷ [])
                ∙ sym (weights_more t es i e l is xs),
          )
      | in-None+in_ok-push-in-None w ↦
          let other : is_sure t e.0 ≡ false = w.in-None.ensures.sure in
          let pushed = ap (λ v. v.items) w.weights-is ∙ w.in_ok-push-in-None.ensures.items in (
            ap length pushed ∙ length-append c.loop-key.weights.items _ ∙ ap (λ n. n + 1) c.loop-key.invariant.0,
            w.next-is ∙ ap (λ n. n + 1) c.loop-key.invariant.1
                ∙ sym (ap length (unsure_more t es i e l is other) ∙ length-append _ (e ∷ [])),
            λ xs bounds counted.
                let weight = ap (λ n. get_or c.args.counted.now n 0) c.loop-key.invariant.1
                ∙ counted_next t es i e l is other xs c.args.counted.now 0 counted in
                pushed
                ∙ (λ j. c.loop-key.invariant.2 xs bounds counted j ++ weight j ∷ [])
                ∙ sym (weights_more t es i e l is xs),
          )
    ]

pub returns-clause-weights : goal.returns-clause-weights
returns-clause-weights c = λ xs bounds counted.
    c.loop-key.invariant.2 xs bounds counted
    ∙ ap (λ (es : List Entry). weights_at (keys_of es) xs)
    (take_all c.loop-key.key-index c.args.entries.now (omega (arith, c.loop-key-test.false)))
