use Rattle.std.proofs.Common.{◌++◌, [], ◌∷◌, List, true≢false, sym, ap, ◌∙◌, arith}
use Rattle.hh_stream.specs.Weights.{Entry}
use Rattle.hh_summaries.proofs.Level.{above_more, above_same}
use Rattle.hh_tally.proofs.lowering.entries_above.Goals as goal
use Rattle.hh_tally.proofs.lowering.entries_above.Goals.{in-Some+then-counter-t+in_ok-push_copy, in-Some+else-counter-t, in_default}

pub loop-i-preserved : goal.loop-i-preserved
loop-i-preserved c =
    let es = c.args.index.now.entries in
    let i = c.loop-i.i in
    let t = c.args.t in
    elim c.match-get_index.branch [
      | in-Some+then-counter-t+in_ok-push_copy w ↦
          let e : Entry = (w.in-Some.key.now, w.in-Some.counter.now) in
          ap (λ v. v.items) w.entries-is ∙ w.in_ok-push_copy.ensures.pushed
          ∙ ap (λ (ds : List Entry). ds ++ e ∷ []) c.loop-i.invariant
          ∙ sym (above_more t es i e w.in-Some.ensures.entry w.if-counter-t.true)
      | in-Some+else-counter-t w ↦
          let e : Entry = (w.in-Some.key.now, w.in-Some.counter.now) in
          ap (λ v. v.items) w.entries-is ∙ c.loop-i.invariant
          ∙ sym (above_same t es i e w.in-Some.ensures.entry w.if-counter-t.false)
      | in_default w ↦ absurd (true≢false (sym (w.in_default.ensures.found.1 (omega (arith, c.loop-i-test.true, c.len-i-end.ensures.len)))))
    ]
