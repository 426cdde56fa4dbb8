use Rattle.std.proofs.Common.{◌≡◌, ◌+◌, ◌<◌, ◌≤◌, cond, is_lt, length, get_or, sym, ap, ◌∙◌, subst, arith, remove, rules}
use Rattle.std.proofs.lemmas.List.{get_or_default}
use Rattle.hh_stream.specs.Weights.{Entry, key_cmp}
use Rattle.hh_summaries.specs.Counters.{Counters, add_at}
use Rattle.hh_counters.specs.SpaceSaving.{IsFirstLeast}
use Rattle.hh_counters.proofs.TakingOver.{replaced_at, shifted_within}
use Rattle.hh_counters.proofs.space_saving.replace_least.Goals as goal
use Rattle.hh_counters.proofs.space_saving.replace_least.Goals.{then-is_lt, else-is_lt}

pub remove-requires : goal.remove-requires
remove-requires c =
    let s = c.args.entries.now.items in
    let place = c.least_place-place.result in
    let near : c.if-is_lt.shifted ≤ place + 1 =
    elim c.if-is_lt.branch [ then-is_lt w ↦ omega (arith, w.shifted-is) | else-is_lt w ↦ omega (arith, w.shifted-is) ] in
    let inside : place < length s =
    omega (arith, c.least_place-place.ensures.in_range, ap length c.deref.ensures.value) in
    omega (
      arith,
      ap length c.in_ok-add_entry.ensures.ok,
      shifted_within s (c.args.key.now, c.args.weight) place c.if-is_lt.shifted
          (c.index.result.now.1 + c.args.weight) c.requires.counters c.requires.absent inside near,
    )

pub returns-clause-replaced : goal.returns-clause-replaced
returns-clause-replaced c =
    let s = c.args.entries.now.items in
    let item : Entry = (c.args.key.now, c.args.weight) in
    let place = c.least_place-place.result in
    let least : IsFirstLeast s place =
    subst (λ (d : Counters). IsFirstLeast d place) c.deref.ensures.value c.least_place-place.ensures in
    let d : Entry = c.index.result.now in
    let number : d.1 ≡ (get_or s place d).1 = ap (λ (e : Entry). e.1) c.index.ensures in
    let key : (c.index-2.result.now).0 ≡ (get_or s place d).0 =
    ap (λ (e : Entry). e.0) (c.index-2.ensures ∙ get_or_default s place c.index-2.result.now d least.in_range) in
    let test : c.is_lt.result ≡ is_lt (key_cmp (get_or s place d).0 item.0) =
    c.is_lt.ensures ∙ ap is_lt (c.cmp.ensures ∙ ap (λ y. key_cmp y item.0) (c.bytes.ensures.bytes ∙ key)) in
    let shifted : c.if-is_lt.shifted ≡ cond (is_lt (key_cmp (get_or s place d).0 item.0)) place (place + 1) =
    elim c.if-is_lt.branch [
      | then-is_lt w ↦ w.shifted-is ∙ ap (λ b. cond b place (place + 1)) (sym w.if-is_lt.true ∙ test)
      | else-is_lt w ↦ w.shifted-is ∙ ap (λ b. cond b place (place + 1)) (sym w.if-is_lt.false ∙ test)
    ] in
    c.remove.ensures.items
    ∙ ap (λ (e : Counters). remove e c.if-is_lt.shifted) (c.in_ok-add_entry.ensures.ok
    ∙ ap (λ n. add_at s (item.0, n + item.1)) number)
    ∙ replaced_at s item place c.if-is_lt.shifted d c.requires.counters c.requires.absent c.requires.positive least shifted

pub returns-in_err-add_entry-clause-replaced : goal.returns-in_err-add_entry-clause-replaced
returns-in_err-add_entry-clause-replaced c = search rules

pub returns-in_err-add_entry-clause-unchanged : goal.returns-in_err-add_entry-clause-unchanged
returns-in_err-add_entry-clause-unchanged c = search rules
