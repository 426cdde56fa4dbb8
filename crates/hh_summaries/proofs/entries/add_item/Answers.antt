use Rattle.std.proofs.Common.{◌≡◌, ◌+◌, ◌<◌, ◌≤◌, Ok, Err, OnOk, [], ◌∷◌, length, refl, sym, ap, ◌∙◌, subst, arith, slice_set, slice_index_or}
use Rattle.std.specs.List.{insert}
use Rattle.std.proofs.lemmas.List.{length-set}
use Rattle.std.proofs.lemmas.List.Edits.{length-insert}
use Rattle.hh_stream.specs.Weights.{Entry}
use Rattle.hh_summaries.specs.Counters.{Counters, lower, least_counter, add_at, join}
use Rattle.hh_summaries.proofs.Places.{IsGap, insert_is_add_at, set_is_add_at, not_known}
use Rattle.hh_summaries.proofs.Summaries.{join_full, join_room, least_beside, lower-insert}
use Rattle.hh_summaries.proofs.entries.add_item.Goals as goal
use Rattle.hh_summaries.proofs.entries.add_item.Goals.{then-level-weight+in_ok-insert_entry, else-level-weight}

pub returns-in-Ok-clause-joined : goal.returns-in-Ok-clause-joined
returns-in-Ok-clause-joined c =
    let items = c.args.entries.now.items in
    let i = c.in-Ok.place in
    let item : Entry = (c.args.key.now, c.args.weight) in
    let entry : Entry = c.index_mut.result.now in
    let found = subst (λ (d : Counters). (i < length d) × ((e : Entry) → (slice_index_or d i e).0 ≡ item.0))
    c.deref.ensures.value c.in-Ok.ensures.found in
    let raised : slice_set items i (entry.0, entry.1 + item.1) ≡ add_at items item =
    ap (λ (e : Entry). slice_set items i (e.0, e.1 + item.1)) c.index_mut.ensures.value
    ∙ set_is_add_at items i entry item c.requires.counters.rising found.0 (found.1 entry) in
    let few : length (add_at items item) ≤ c.args.k =
    omega (arith, ap length raised, length-set items i (entry.0, entry.1 + item.1), c.requires.few) in
    raised ∙ sym (join_room items item c.args.k c.requires.counters c.requires.positive few)

pub returns-then-len-k-clause-joined : goal.returns-then-len-k-clause-joined
returns-then-len-k-clause-joined c =
    let items = c.args.entries.now.items in
    let i = c.in-Err.place in
    let item : Entry = (c.args.key.now, c.args.weight) in
    let gap = subst (IsGap c.args.key.now i) c.deref.ensures.value c.in-Err.ensures.absent in
    let inserted : insert items i item ≡ add_at items item = insert_is_add_at items i item gap.0 gap.1 gap.2 in
    let few : length (add_at items item) ≤ c.args.k =
    omega (arith, ap length inserted, length-insert items i item gap.0, c.if-len-k.true, c.len.ensures) in
    elim c.insert_entry.result as (λ r. OnOk r (c.insert_entry.new.entries.items ≡ insert items i item)
    → OnOk r (c.insert_entry.new.entries.items ≡ join items (item ∷ []) c.args.k)) [
      | Ok done ↦ λ is. is ∙ inserted ∙ sym (join_room items item c.args.k c.requires.counters c.requires.positive few)
      | Err refused ↦ λ is. is
    ] c.insert_entry.ensures.ok

pub returns-then-len-k-clause-known : goal.returns-then-len-k-clause-known
returns-then-len-k-clause-known c = λ known.
    absurd (not_known c.args.entries.now.items c.in-Err.place c.args.key.now
    (subst (IsGap c.args.key.now c.in-Err.place) c.deref.ensures.value c.in-Err.ensures.absent) known)

pub returns-in_err-insert_entry-clause-known : goal.returns-in_err-insert_entry-clause-known
returns-in_err-insert_entry-clause-known c = λ known.
    absurd (not_known c.args.entries.now.items c.in-Err.place c.args.key.now
    (subst (IsGap c.args.key.now c.in-Err.place) c.deref.ensures.value c.in-Err.ensures.absent) known)

pub returns-in_err-insert_entry-clause-least : goal.returns-in_err-insert_entry-clause-least
returns-in_err-insert_entry-clause-least c = λ full least.
    absurd (omega (
      arith,
      c.if-level-weight.true,
      c.least_with-level.ensures c.args.key.now,
      ap (λ (d : Counters). least_counter ((c.args.key.now, c.args.weight) ∷ d)) c.deref-2.ensures.value,
      least_beside c.args.key.now c.args.weight c.args.entries.now.items least,
    ))

pub returns-clause-joined : goal.returns-clause-joined
returns-clause-joined c =
    let items = c.args.entries.now.items in
    let i = c.in-Err.place in
    let item : Entry = (c.args.key.now, c.args.weight) in
    let gap = subst (IsGap c.args.key.now i) c.deref.ensures.value c.in-Err.ensures.absent in
    let full : length items ≡ c.args.k = omega (arith, c.if-len-k.false, c.len.ensures, c.requires.few) in
    let t = c.least_with-level.result in
    let least : t ≡ least_counter (item ∷ items) = c.least_with-level.ensures c.args.key.now
    ∙ ap (λ (d : Counters). least_counter (item ∷ d)) c.deref-2.ensures.value in
    let left : lower t c.if-level-weight.entries.items ≡ lower t (insert items i item) =
    elim c.if-level-weight.branch [
      | then-level-weight+in_ok-insert_entry w ↦ rw (w.entries-is, w.in_ok-insert_entry.ensures.ok) refl
      | else-level-weight w ↦ rw (w.entries-is) (sym (lower-insert t items i item gap.0 w.if-level-weight.false))
    ] in
    c.lower_all.ensures ∙ left ∙ ap (λ n. lower n (insert items i item)) least
    ∙ sym (join_full items i item c.args.k c.requires.counters gap.0 full
    (insert_is_add_at items i item gap.0 gap.1 gap.2))
