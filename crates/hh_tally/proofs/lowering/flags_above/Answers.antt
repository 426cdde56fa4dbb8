use Rattle.std.proofs.Common.{◌≡◌, ◌+◌, ◌++◌, ◌-◌, [], ◌∷◌, true, false, List, cond, length, map, take, append-nil, nat_lt, true≢false, sym, ap, ◌∙◌, arith}
use Rattle.std.specs.Map.{keys_of}
use Rattle.std.proofs.lemmas.Bool.Decides.{nat_tests}
use Rattle.std.proofs.lemmas.List.{length-append, map-append}
use Rattle.std.proofs.lemmas.Option.{slice_get_within}
use Rattle.hh_stream.specs.Weights.{Entry}
use Rattle.hh_summaries.specs.Counters.{lower}
use Rattle.hh_summaries.proofs.Level.{lower-nil}
use Rattle.hh_summaries.proofs.Level.{lowered_more}
use Rattle.hh_tally.proofs.Sure.{flag_of_entry}
use Rattle.hh_tally.proofs.lowering.flags_above.Goals as goal
use Rattle.hh_tally.proofs.lowering.flags_above.Goals.{in-Some+then-counter-t+in_ok-push, in-Some+else-counter-t, in_default}

pub loop-i-init : goal.loop-i-init
loop-i-init c = (
  λ test are. c.new-kept.ensures.items ∙ ap (λ (es : List Entry). map test (keys_of es)) (sym (lower-nil c.args.t)),
  ap length c.new-kept.ensures.items ∙ ap length (sym (lower-nil c.args.t)),
)

pub loop-i-preserved : goal.loop-i-preserved
loop-i-preserved c =
    let es = c.args.index.now.entries in
    let i = c.loop-i.i in
    let t = c.args.t in
    let so_far : List Entry = lower t (take i es) in
    elim c.match-get_index.branch [
      | in-Some+then-counter-t+in_ok-push w ↦
          let e : Entry = (w.in-Some.field-0-0.now, w.in-Some.counter.now) in
          let is = w.in-Some.ensures.entry in
          let less : Entry = (e.0, e.1 - t) in
          let above : nat_lt t e.1 ≡ true = grind (arith, nat_tests, w.if-counter-t.true) in
          let more : lower t (take (i + 1) es) ≡ so_far ++ less ∷ [] =
          lowered_more t es i e is ∙ ap (λ b. so_far ++ cond b (less ∷ []) []) above in
          let pushed = ap (λ v. v.items) w.kept-is ∙ w.in_ok-push.ensures.items in (
            λ test are.
                let flag = w.flag_at.ensures (length es) (slice_get_within es i e (sym is))
                ∙ flag_of_entry c.args.sure.now c.args.rest es test i e are is in
                pushed
                ∙ (λ j. c.loop-i.invariant.0 test are j ++ flag j ∷ [])
                ∙ sym (ap (λ (ds : List Entry). map test (keys_of ds)) more
                ∙ ap (map test) (map-append (λ (d : Entry). d.0) so_far (less ∷ []))
                ∙ map-append test (keys_of so_far) (e.0 ∷ [])),
            ap length pushed
                ∙ length-append c.loop-i.kept.items (w.flag_at.result ∷ [])
                ∙ ap (λ n. n + 1) c.loop-i.invariant.1
                ∙ sym (ap length more ∙ length-append so_far (less ∷ [])),
          )
      | in-Some+else-counter-t w ↦
          let e : Entry = (w.in-Some.field-0-0.now, w.in-Some.counter.now) in
          let is = w.in-Some.ensures.entry in
          let below : nat_lt t e.1 ≡ false = grind (arith, nat_tests, w.if-counter-t.false) in
          let same : lower t (take (i + 1) es) ≡ so_far =
          lowered_more t es i e is ∙ ap (λ b. so_far ++ cond b ((e.0, e.1 - t) ∷ []) []) below ∙ append-nil so_far in
          let items = ap (λ v. v.items) w.kept-is in (
            λ test are. items ∙ c.loop-i.invariant.0 test are ∙ ap (λ (ds : List Entry). map test (keys_of ds)) (sym same),
            ap length items ∙ c.loop-i.invariant.1 ∙ ap length (sym same),
          )
      | in_default w ↦ absurd (true≢false (sym (w.in_default.ensures.found.1 (omega (arith, c.loop-i-test.true, c.len-i-end.ensures.len)))))
    ]
