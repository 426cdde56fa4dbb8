use Rattle.std.proofs.Common.{◌+◌, ◌++◌, [], ◌∷◌, List, length, map, true≢false, sym, ap, ◌∙◌, arith}
use Rattle.std.specs.Prelude.{◌&&◌}
use Rattle.std.specs.Map.{keys_of}
use Rattle.std.proofs.lemmas.List.{length-append, map-append}
use Rattle.std.proofs.lemmas.Option.{slice_get_within}
use Rattle.hh_stream.specs.Weights.{Entry}
use Rattle.hh_tally.specs.Tallies.{and_sure, is_sure}
use Rattle.hh_summaries.proofs.Level.{entry_at}
use Rattle.hh_tally.proofs.Sure.{flag_of_entry}
use Rattle.hh_tally.proofs.tally.sure_of_both.Goals as goal
use Rattle.hh_tally.proofs.tally.sure_of_both.Goals.{in-Some+in_ok-push, in_default}

pub loop-i-preserved : goal.loop-i-preserved
loop-i-preserved c =
    let es = c.args.index.now.entries in
    let i = c.loop-i.i in
    elim c.match-get_index.branch [
      | in-Some+in_ok-push w ↦
          let e : Entry = (w.in-Some.key.now, w.in-Some.field-0-1.now) in
          let is = w.in-Some.ensures.entry in
          let pushed = ap (λ v. v.items) w.both-is ∙ w.in_ok-push.ensures.items in (
            λ test are.
                let flag = w.flag_at.ensures (length es) (slice_get_within es i e (sym is))
                ∙ flag_of_entry c.args.sure.now c.args.rest es test i e are is in
                pushed
                ∙ (λ j. c.loop-i.invariant.0 test are j ++ (w.is_sure_too.ensures ∙ ap (λ b. b && is_sure c.args.other.now e.0) flag) j ∷ [])
                ∙ sym (ap (λ (ds : List Entry). map (and_sure test c.args.other.now) (keys_of ds)) (entry_at es i e is)
                ∙ ap (map (and_sure test c.args.other.now)) (map-append (λ (d : Entry). d.0) _ (e ∷ []))
                ∙ map-append (and_sure test c.args.other.now) _ (e.0 ∷ [])),
            ap length pushed
                ∙ length-append c.loop-i.both.items (w.is_sure_too.result ∷ [])
                ∙ ap (λ n. n + 1) c.loop-i.invariant.1,
          )
      | in_default w ↦ absurd (true≢false (sym (w.in_default.ensures.found.1 (omega (arith, c.loop-i-test.true, c.len-i-end.ensures.len)))))
    ]
