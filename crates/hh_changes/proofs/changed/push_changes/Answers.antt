use Rattle.std.proofs.Common.{◌≡◌, ◌∙◌, ℕ, ◌+◌, ◌-◌, ◌<◌, ◌≤◌, ◌⊎◌, inl, inr, List, ◌++◌, length, take, drop, get_or, take_all, Less, Equal, Greater, refl, sym, ap, ap₂, subst, arith, rules}
use Rattle.std.proofs.lemmas.List.{length-drop}
use Rattle.std.proofs.lemmas.Result.{on_ok_weaker}
use Rattle.std.specs.Prelude.{OnOk}
use Rattle.std.specs.List.Sorted.{IsStrictlySortedBy}
use Rattle.std.specs.Map.{keys_of}
use Rattle.hh_stream.specs.Weights.{Entry, key_cmp}
use Rattle.hh_summaries.specs.Counters.{Counters, SummaryView}
use Rattle.hh_summaries.proofs.Weights.{counters-plus}
use Rattle.hh_changes.specs.Changes.{keys_in, listed}
use Rattle.hh_changes.proofs.ChangeFacts.{rising_listed}
use Rattle.hh_changes.proofs.MergeFacts.{IsMerged, merged_on, merged_whole}
use Rattle.hh_changes.proofs.changed.push_changes.Goals as goal
use Rattle.hh_changes.proofs.changed.push_changes.Goals.{else-is_le, else-loop-l-test, then-is_le, then-loop-l-test+else-r-right}

pub loop-l-preserved : goal.loop-l-preserved
loop-l-preserved c =
    let p = c.args.sides.now in
    let all = c.args.all in
    let l = c.loop-l.l in
    let r = c.loop-l.r in
    let a = c.index-left-l.result in
    let b = c.index-right-r.result in
    let left : c.entries-left.result.now ≡ p.old.counters =
    c.entries-left.ensures ∙ ap (λ (s : SummaryView). s.counters) c.old.ensures.old in
    let right : c.entries-right.result.now ≡ p.new.counters =
    c.entries-right.ensures ∙ ap (λ (s : SummaryView). s.counters) c.newer.ensures.new in
    let on = merged_on all p l r c.loop-l.changes.items a b
    (subst (λ (es : Counters). l < length es) left c.loop-l-test.true)
    (subst (λ (es : Counters). r < length es) right c.if-r-right.true)
    (subst (λ (es : Counters). a ≡ get_or es l a) left c.index-left-l.is)
    (subst (λ (es : Counters). b ≡ get_or es r b) right c.index-right-r.is) c.loop-l.invariant in
    elim c.cmp-order.result as (λ o. c.cmp-order.result ≡ o
    → IsMerged all p (l + c.from-l.result) (r + c.from-r.result) c.push_change.new.changes.items) [
      | Less ↦ λ less.
          let one : c.from-l.result ≡ 1 = search rules in
          let none : c.from-r.result ≡ 0 = search rules in
          let stays : r + c.from-r.result ≡ r = omega (arith, none) in
          let key : c.if-is_le.key.now ≡ a.0 = elim c.if-is_le.branch [ then-is_le w ↦ search rules | else-is_le w ↦ search rules ] in
          rw (one, stays, c.in_ok-push_change.ensures, key) (on.0 (sym c.cmp-order.ensures ∙ less))
      | Equal ↦ λ same.
          let one : c.from-l.result ≡ 1 = search rules in
          let other : c.from-r.result ≡ 1 = search rules in
          let key : c.if-is_le.key.now ≡ a.0 = elim c.if-is_le.branch [ then-is_le w ↦ search rules | else-is_le w ↦ search rules ] in
          rw (one, other, c.in_ok-push_change.ensures, key) (on.1 (sym c.cmp-order.ensures ∙ same))
      | Greater ↦ λ more.
          let none : c.from-l.result ≡ 0 = search rules in
          let stays : l + c.from-l.result ≡ l = omega (arith, none) in
          let one : c.from-r.result ≡ 1 = search rules in
          let key : c.if-is_le.key.now ≡ b.0 = elim c.if-is_le.branch [ then-is_le w ↦ search rules | else-is_le w ↦ search rules ] in
          rw (stays, one, c.in_ok-push_change.ensures, key) (on.2 (sym c.cmp-order.ensures ∙ more))
    ] refl

-- the slice from i on
rest_is : (c : Counters) (i : ℕ) → take (length c - i) (drop i c) ≡ drop i c
rest_is c i = take_all (length c - i) (drop i c) (omega (arith, length-drop i c))

-- all keys are listed
whole : (c : goal.After-push_keys-2) → OnOk c.push_keys-2.result
    (c.push_keys-2.new.changes.items ≡ listed c.args.all c.args.sides.now (keys_in c.args.sides.now))
whole c =
    let p = c.args.sides.now in
    let all = c.args.all in
    let l = c.loop-l.l in
    let r = c.loop-l.r in
    let items = c.loop-l.changes.items in
    let left : c.entries-left.result.now ≡ p.old.counters =
    c.entries-left.ensures ∙ ap (λ (s : SummaryView). s.counters) c.old.ensures.old in
    let right : c.entries-right.result.now ≡ p.new.counters =
    c.entries-right.ensures ∙ ap (λ (s : SummaryView). s.counters) c.newer.ensures.new in
    let done : (length p.old.counters ≤ l) ⊎ (length p.new.counters ≤ r) = elim c.loop-l-test.branch [
      | then-loop-l-test+else-r-right w ↦ inr (subst (λ (es : Counters). length es ≤ r) right w.if-r-right.false)
      | else-loop-l-test w ↦ inl (subst (λ (es : Counters). length es ≤ l) left w.loop-l-test.false)
    ] in
    let put = λ (es : List Entry) (c : Counters). es ++ listed all p (keys_of c) in
    on_ok_weaker c.push_keys-2.result (λ last. last
    ∙ ap₂ put (c.in_ok-push_keys.ensures ∙ ap (put items) (rest_is c.entries-left.result.now l ∙ ap (drop l) left))
    (rest_is c.entries-right.result.now r ∙ ap (drop r) right)
    ∙ merged_whole all p l r items c.old.ensures.counters c.newer.ensures.counters done c.loop-l.invariant) c.push_keys-2.ensures

pub returns-clause-listed : goal.returns-clause-listed
returns-clause-listed c = whole c

pub returns-clause-rising : goal.returns-clause-rising
returns-clause-rising c = on_ok_weaker c.push_keys-2.result (λ is.
    subst (λ (es : List Entry). IsStrictlySortedBy key_cmp (keys_of es)) (sym is)
    (rising_listed c.args.all c.args.sides.now (keys_in c.args.sides.now)
    (counters-plus c.args.sides.now.old.counters c.args.sides.now.new.counters
    c.old.ensures.counters c.newer.ensures.counters).rising)) (whole c)
