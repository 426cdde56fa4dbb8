use Rattle.std.proofs.Common.{◌≡◌, ◌<◌, ◌∙◌, ◌∷◌, ◌++◌, [], get_or, length, take, ap, sym, subst, arith}
use Rattle.std.specs.List.{AllByRecursion}
use Rattle.std.proofs.lemmas.List.{take_more}
use Rattle.hh_stream.specs.Weights.{Entry}
use Rattle.hh_summaries.proofs.Weights.{all-append}
use Rattle.hh_saved.specs.declared.format.Version.TheVariants.{Two}
use Rattle.hh_saved.specs.Spelling.{IsSavedKey, entry_bytes}
use Rattle.hh_saved.proofs.Written.{written_more}
use Rattle.hh_saved.proofs.writing.put_entries.Goals as goal

pub loop-i-preserved : goal.loop-i-preserved
loop-i-preserved c =
    let counters = c.args.summary.now.counters in
    let i = c.loop-i.i in
    let e : Entry = (c.entry-counter.result.0.now, c.entry-counter.result.1) in
    let is : e ≡ get_or counters i e = c.entry-counter.ensures in
    let lt : i < length counters = omega (arith, c.loop-i-test.true, c.len-i-end.ensures.len) in
    let keys : AllByRecursion (λ (d : Entry). IsSavedKey Two d.0) (take i counters ++ e ∷ []) =
    all-append _ (take i counters) (e ∷ []) c.loop-i.invariant.1 (c.in_ok-put_entry.ensures.key, tt) in (
      written_more (entry_bytes Two) _ _ _ counters i e e lt is c.loop-i.invariant.0 c.in_ok-put_entry.ensures.spelled,
      subst (AllByRecursion (λ (d : Entry). IsSavedKey Two d.0))
          (ap (λ (d : Entry). take i counters ++ d ∷ []) is ∙ sym (take_more counters i e lt)) keys,
    )
