use Rattle.std.proofs.Common.{◌≡◌, get_or, sym, ap, ◌∙◌, subst, arith}
use Rattle.std.specs.List.Sorted.{IsStrictlySortedBy}
use Rattle.std.specs.Map.{keys_of}
use Rattle.std.proofs.lemmas.List.{get_or-map, take_all}
use Rattle.std.proofs.lemmas.Map.Entries.{length-keys_of}
use Rattle.indexmap.specs.IndexSet.{insert_key}
use Rattle.hh_stream.specs.Weights.{Bytes, Entry, key_cmp, same_key}
use Rattle.hh_counters.proofs.Counting.{insert_next}
use Rattle.hh_counters.proofs.candidates.Candidates.of_entries.Goals as goal

pub loop-i-preserved : goal.loop-i-preserved
loop-i-preserved c =
    let es = c.args.entries.now in
    let i = c.loop-i.i in
    let e : Entry = get_or es i c.index-entries-i.result in
    let x : Bytes = e.0 in
    let at : x ≡ get_or (keys_of es) i x =
    sym (get_or-map (λ (d : Entry). d.0) es i c.index-entries-i.result x c.loop-i-test.true) in
    c.in_ok-insert_copy.ensures
    ∙ ap (λ ks. insert_key same_key ks x) c.loop-i.invariant
    ∙ insert_next (keys_of es) i x c.requires (omega (arith, length-keys_of es, c.loop-i-test.true)) at

pub invariant_of-result : goal.invariant_of-result
invariant_of-result c =
    let es = c.args.entries.now in
    let all = c.loop-i.invariant
    ∙ take_all c.loop-i.i (keys_of es) (omega (arith, length-keys_of es, c.loop-i-test.false)) in
    subst (IsStrictlySortedBy key_cmp) (sym all) c.requires

pub returns : goal.returns
returns c =
    let es = c.args.entries.now in
    c.loop-i.invariant ∙ take_all c.loop-i.i (keys_of es) (omega (arith, length-keys_of es, c.loop-i-test.false))
