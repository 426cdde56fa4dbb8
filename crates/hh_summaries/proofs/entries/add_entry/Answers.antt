use Rattle.std.proofs.Common.{◌≡◌, ◌+◌, ◌<◌, Ok, Err, OnOk, length, ap, ◌∙◌, subst, slice_set, slice_index_or}
use Rattle.std.specs.List.{insert}
use Rattle.hh_stream.specs.Weights.{Entry}
use Rattle.hh_summaries.specs.Counters.{Counters, add_at}
use Rattle.hh_summaries.proofs.Places.{IsGap, set_is_add_at, insert_is_add_at, not_known}
use Rattle.hh_summaries.proofs.entries.add_entry.Goals as goal

pub returns-in-Ok-clause-ok : goal.returns-in-Ok-clause-ok
returns-in-Ok-clause-ok c =
    let items = c.args.entries.now.items in
    let entry : Entry = c.index_mut.result.now in
    let found = subst (λ (d : Counters). (c.in-Ok.place < length d) × ((e : Entry)
    → (slice_index_or d c.in-Ok.place e).0 ≡ c.args.key.now)) c.deref.ensures.value c.in-Ok.ensures.found in
    ap (λ (e : Entry). slice_set items c.in-Ok.place (e.0, e.1 + c.args.weight)) c.index_mut.ensures.value
    ∙ set_is_add_at items c.in-Ok.place entry (c.args.key.now, c.args.weight) c.requires.counters.rising found.0
    (found.1 entry)

pub returns-in-Err-clause-ok : goal.returns-in-Err-clause-ok
returns-in-Err-clause-ok c =
    let items = c.args.entries.now.items in
    let i = c.in-Err.place in
    let item : Entry = (c.args.key.now, c.args.weight) in
    let gap = subst (IsGap c.args.key.now i) c.deref.ensures.value c.in-Err.ensures.absent in
    elim c.insert_entry.result as (λ r. OnOk r (c.insert_entry.new.entries.items ≡ insert items i item)
    → OnOk r (c.insert_entry.new.entries.items ≡ add_at items item)) [
      | Ok done ↦ λ is. is ∙ insert_is_add_at items i item gap.0 gap.1 gap.2
      | Err refused ↦ λ is. is
    ] c.insert_entry.ensures.ok

pub returns-in-Err-clause-known : goal.returns-in-Err-clause-known
returns-in-Err-clause-known c = λ known.
    absurd (not_known c.args.entries.now.items c.in-Err.place c.args.key.now
    (subst (IsGap c.args.key.now c.in-Err.place) c.deref.ensures.value c.in-Err.ensures.absent) known)
