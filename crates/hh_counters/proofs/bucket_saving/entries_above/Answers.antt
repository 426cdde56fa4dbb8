use Rattle.std.proofs.Common.{[], ◌∷◌, ◌++◌, true≢false, sym, ap, ap₂, ◌∙◌, arith}
use Rattle.hh_stream.specs.Weights.{Bytes, Entry}
use Rattle.hh_summaries.specs.Counters.{Counters}
use Rattle.hh_summaries.proofs.Level.{above_more, above_same}
use Rattle.hh_counters.proofs.bucket_saving.entries_above.Goals as goal
use Rattle.hh_counters.proofs.bucket_saving.entries_above.Goals.{in-Some+then-counter-least+in_ok-push_copy, in-Some+else-counter-least, in_default}

pub loop-i-preserved : goal.loop-i-preserved
loop-i-preserved c =
    let es = c.args.index.now.entries in
    let i = c.loop-i.i in
    let t = c.args.least in
    elim c.match-get_index.branch [
      | in-Some+then-counter-least+in_ok-push_copy w ↦
          let e : Entry = (w.in-Some.key.now, w.in-Some.counter.now) in
          ap (λ v. v.items) w.entries-is ∙ w.in_ok-push_copy.ensures.pushed
          ∙ ap₂ (λ (d : Counters) (k : Bytes). d ++ (k, e.1) ∷ []) c.loop-i.invariant w.key.ensures
          ∙ sym (above_more t es i e w.in-Some.ensures.entry w.if-counter-least.true)
      | in-Some+else-counter-least w ↦
          let e : Entry = (w.in-Some.key.now, w.in-Some.counter.now) in
          ap (λ v. v.items) w.entries-is ∙ c.loop-i.invariant
          ∙ sym (above_same t es i e w.in-Some.ensures.entry w.if-counter-least.false)
      | in_default w ↦ absurd (true≢false (sym (w.in_default.ensures.found.1 (omega (arith, c.loop-i-test.true, c.len-i-end.ensures.len)))))
    ]
