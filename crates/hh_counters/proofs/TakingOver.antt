-- The least counter's place among entries, and its key dropped for a newcomer.
use Rattle.std.proofs.Common.{subst, ◌≡◌, ℕ, zero, suc, ◌+◌, ◌<◌, ◌≤◌, Bool, true, false, cond, not, [], ◌∷◌, length, get_or, Less, Equal, Greater, is_eq, is_lt, refl, sym, ap, ap₂, ◌∙◌, add-one, ◌^◌, arith, remove, ◌==◌}
use Rattle.std.proofs.lemmas.List.{get_or_default}
use Rattle.std.proofs.lemmas.List.Elements.{All-from_recursion, recursion_from_All}
use Rattle.std.specs.List.{AllByRecursion}
use Rattle.std.specs.List.Sorted.{IsStrictlySortedBy}
use Rattle.std.specs.Map.{keys_of}
use Rattle.std.specs.Ordering.{match_ordering}
use Rattle.std.proofs.lemmas.Bool.{false_from_ne_true}
use Rattle.std.proofs.lemmas.Bool.Decides.{nat_tests}
use Rattle.hh_stream.specs.Weights.{Bytes, Entry, key_cmp, same_key, at_key, weight_of}
use Rattle.hh_summaries.specs.Counters.{Counters, IsCounters, Fits, add_at, lower, over, least_counter}
use Rattle.hh_counters.specs.SpaceSaving.{least_of, without, first_with, key_to_drop, taken_over, IsFirstLeast, step, IsMonitor}
use Rattle.hh_summaries.proofs.Weights.{at_differ, same_exact, same_self, turned, flipped, above_first, weight_of-cons, weight_of-add_at, rising-add_at, same_counters}
use Rattle.hh_summaries.proofs.Level.{least_counter-all, is_level, counters-lower, length-lower, total_of-lower-le}
use Rattle.hh_counters.proofs.Lowering.{level-least}
use Rattle.hh_counters.proofs.Stepping.{least_counter-ge, weight_of-without, counters-without, counters-add_at, without_above, length-add_at_new}
use Rattle.hh_summaries.proofs.Places.{above_at, weight_at, positive_at}
use Rattle.hh_counters.proofs.Runs.{step_kept}

-- ---- the first of the least counters
-- the number at the place of the least is the least
least_number : (s : Counters) (i : ℕ) (d : Entry) → IsFirstLeast s i → (get_or s i d).1 ≡ least_counter s
least_number s i d h =
    let n = (get_or s i d).1 in
    let each : AllByRecursion (λ (e : Entry). n ≤ e.1) s = recursion_from_All (λ (e : Entry). n ≤ e.1) s
    (λ j f l. omega (arith, h.no_less j d l, ap (λ (e : Entry). e.1) (get_or_default s j f d l))) in
    let all = All-from_recursion (λ (e : Entry). least_counter s ≤ e.1) s (least_counter-all s) in
    omega (arith, least_counter-ge n s (omega (arith, h.in_range)) each, all i d h.in_range)

first_with_at : (s : Counters) (n i : ℕ) (d : Entry) → i < length s → (get_or s i d).1 ≡ n
    → ((j : ℕ) → j < i → n < (get_or s j d).1) → first_with n s ≡ (get_or s i d).0
first_with_at [] n i d l is before = absurd (omega arith)
first_with_at (e ∷ s) n zero d l is before =
    let yes_here : (e.1 == n) ≡ true = grind (arith, nat_tests, is) in ap (λ b. cond b e.0 (first_with n s)) yes_here
first_with_at (e ∷ s) n (suc i) d l is before =
    let not_here : (e.1 == n) ≡ false = grind (arith, nat_tests, before 0 (omega arith)) in
    ap (λ b. cond b e.0 (first_with n s)) not_here ∙ first_with_at s n i d (omega arith) is
    (λ j m. before (suc j) (omega arith))

least_key : (s : Counters) (i : ℕ) (d : Entry) → IsFirstLeast s i → key_to_drop s ≡ (get_or s i d).0
least_key s i d h = let n = least_number s i d h in
    first_with_at s (least_counter s) i d h.in_range n (λ j l. omega (arith, h.first j d l, n))

-- ---- a newcomer put in, and an entry taken out
-- where a newcomer is put in, an entry stays at its place or moves on by one
entry_after : (s : Counters) (e : Entry) (i : ℕ) (d : Entry) → IsCounters s → weight_of e.0 s ≡ 0 → i < length s
    → get_or (add_at s e) (cond (is_lt (key_cmp (get_or s i d).0 e.0)) i (i + 1)) d ≡ get_or s i d
unfolding IsStrictlySortedBy
entry_after [] e i d h z l = absurd (omega arith)
entry_after (f ∷ s) e i d h z l =
    elim (key_cmp e.0 f.0) as (λ r. key_cmp e.0 f.0 ≡ r
    → get_or (match_ordering r (e ∷ f ∷ s) ((f.0, f.1 + e.1) ∷ s) (f ∷ add_at s e))
    (cond (is_lt (key_cmp (get_or (f ∷ s) i d).0 e.0)) i (i + 1)) d ≡ get_or (f ∷ s) i d) [
      | Less ↦ λ p.
          let above : key_cmp e.0 (get_or (f ∷ s) i d).0 ≡ Less =
          above_at e.0 (f ∷ s) i d (p, above_first e.0 f.0 (keys_of s) p h.rising.0) l in
          let stays : is_lt (key_cmp (get_or (f ∷ s) i d).0 e.0) ≡ false =
          ap is_lt (flipped e.0 (get_or (f ∷ s) i d).0 Less above) in
          ap (λ b. get_or (e ∷ f ∷ s) (cond b i (i + 1)) d) stays ∙ ap (λ n. get_or (e ∷ f ∷ s) n d) (add-one i)
      | Equal ↦ λ p. let here : at_key e.0 f ≡ f.1 =
          ap (λ r. cond (is_eq r) f.1 0) p in absurd (omega (arith, weight_of-cons e.0 f s, here, h.positive.0, z))
      | Greater ↦ λ p. behind p i l (λ j m. entry_after s e j d
          (record { rising = h.rising.1; positive = h.positive.1 })
          (omega (arith, z, weight_of-cons e.0 f s)) m)
    ] refl
  where
    one_on : (b : Bool) (i : ℕ) → cond b (suc i) (suc i + 1) ≡ suc (cond b i (i + 1))
    one_on true i = refl
    one_on false i = omega arith

    behind : key_cmp e.0 f.0 ≡ Greater → (i : ℕ) → i < length (f ∷ s) → ((j : ℕ) → j < length s
        → get_or (add_at s e) (cond (is_lt (key_cmp (get_or s j d).0 e.0)) j (j + 1)) d ≡ get_or s j d)
        → get_or (f ∷ add_at s e) (cond (is_lt (key_cmp (get_or (f ∷ s) i d).0 e.0)) i (i + 1)) d ≡ get_or (f ∷ s) i d
    behind p zero l rest = ap (λ b. get_or (f ∷ add_at s e) (cond b 0 (0 + 1)) d) (ap is_lt (turned e.0 f.0 p))
    behind p (suc i) l rest =
        let b = is_lt (key_cmp (get_or s i d).0 e.0) in
        ap (λ n. get_or (f ∷ add_at s e) n d) (one_on b i)
        ∙ rest i (omega arith)

-- a place taken out of rising keys is its key taken out
remove_is_without : (s : Counters) (i : ℕ) (d : Entry) → IsStrictlySortedBy key_cmp (keys_of s) → i < length s
    → remove s i ≡ without s (get_or s i d).0
unfolding IsStrictlySortedBy
remove_is_without [] i d h l = absurd (omega arith)
remove_is_without (e ∷ s) zero d h l =
    sym (ap (λ b. cond (not b) (e ∷ without s e.0) (without s e.0)) (same_self e.0) ∙ without_above s e.0 h.0)
remove_is_without (e ∷ s) (suc i) d h l =
    let y = (get_or s i d).0 in
    let other : same_key y e.0 ≡ false = ap is_eq (flipped e.0 y Less (above_at e.0 s i d h.0 (omega arith))) in
    ap (λ (c : Counters). e ∷ c) (remove_is_without s i d h.1 (omega arith))
    ∙ sym (ap (λ b. cond (not b) (e ∷ without s y) (without s y)) other)

-- an item may be added before another key is dropped, or after
pub without-add_at : (s : Counters) (e : Entry) (y : Bytes) → IsCounters s → 0 < e.1 → same_key y e.0 ≡ false
    → without (add_at s e) y ≡ add_at (without s y) e
without-add_at s e y h p other =
    same_counters _ _ (counters-without (add_at s e) y (counters-add_at s e h p))
    (counters-add_at (without s y) e (counters-without s y h) p)
    (λ q.
    let apart : same_key q y ≡ true → at_key q e ≡ 0 =
    λ same. at_differ q e (ap (λ z. same_key z e.0) (same_exact q y same) ∙ other) in
    let left = weight_of-without q y (add_at s e) in
    let right = weight_of-add_at q (without s y) e in
    grind (arith, left, weight_of-add_at q s e, weight_of-without q y s, right, apart))

-- the newcomer put in, and then the entry of the least counter taken out from where it stands now
pub replaced_at : (s : Counters) (e : Entry) (i j : ℕ) (d : Entry) → IsCounters s → weight_of e.0 s ≡ 0 → 0 < e.1
    → IsFirstLeast s i → j ≡ cond (is_lt (key_cmp (get_or s i d).0 e.0)) i (i + 1)
    → remove (add_at s (e.0, (get_or s i d).1 + e.1)) j ≡ taken_over s e
replaced_at s e i j d h z p least at =
    let old = get_or s i d in
    let new : Entry = (e.0, old.1 + e.1) in
    let all = add_at s new in
    let place = cond (is_lt (key_cmp old.0 e.0)) i (i + 1) in
    let within : place < length all =
    grind (arith, length-add_at_new s new h.positive z, least.in_range) in
    let counted : old.1 ≡ weight_of old.0 s = weight_at s i d old.0 h.rising least.in_range refl in
    let other : same_key old.0 e.0 ≡ false =
    false_from_ne_true _ (λ same. omega
    (arith, counted, positive_at s h i d least.in_range, z, ap (λ y. weight_of y s) (same_exact old.0 e.0 same))) in
    ap (remove all) at
    ∙ remove_is_without all place d (rising-add_at s new h.rising) within
    ∙ ap (λ (f : Entry). without all f.0) (entry_after s new i d h z least.in_range)
    ∙ without-add_at s new old.0 h (omega (arith, p)) other
    ∙ ap₂ (λ y n. add_at (without s y) (e.0, n + e.1)) (sym (least_key s i d least)) (least_number s i d least)

-- the place that is removed is one of those after the newcomer came in
pub shifted_within : (s : Counters) (e : Entry) (i j : ℕ) (n : ℕ) → IsCounters s → weight_of e.0 s ≡ 0 → i < length s
    → j ≤ i + 1 → j < length (add_at s (e.0, n))
shifted_within s e i j n h z l le = omega (arith, length-add_at_new s (e.0, n) h.positive z)

-- ---- what the fields keep
-- no counters are a monitor's
pub monitor_nothing : (k : ℕ) → 1 ≤ k → k ≤ 65535 → IsMonitor k 0 []
unfolding IsStrictlySortedBy
monitor_nothing k a b = record {
  some = a;
  bounded_k = b;
  bounded_total = omega arith;
  few = omega arith;
  entries = record { rising = tt; positive = tt };
  sum_is = refl;
}

-- a monitor's counters, less the least of them, are a summary's
pub fits_lowered : (k n t : ℕ) (s items : Counters) → IsMonitor k n s → t ≡ least_of s k → items ≡ lower t s
    → Fits k n items
fits_lowered k n t s items h least is = subst (Fits k n) (sym (is ∙ ap (λ m. lower m s) least)) (record {
  some = h.some;
  bounded_k = h.bounded_k;
  bounded_total = h.bounded_total;
  few = omega (arith, length-lower (least_of s k) s, ap (over s) (level-least s k h.few), (is_level s k).at_most);
  entries = counters-lower (least_of s k) s h.entries.rising;
  within = omega (arith, total_of-lower-le (least_of s k) s, h.sum_is);
})

-- one more item keeps a monitor one
pub monitor_step : (k n : ℕ) (s : Counters) (e : Entry) → IsMonitor k n s → 0 < e.1 → n + e.1 < 2 ^ 63
    → IsMonitor k (n + e.1) (step s e k)
monitor_step k n s e h p b =
    let kept = step_kept s e k p (record { counters = h.entries; few = h.few }) in
    record {
      some = h.some;
      bounded_k = h.bounded_k;
      bounded_total = b;
      few = kept.0.few;
      entries = kept.0.counters;
      sum_is = omega (arith, kept.1, h.sum_is);
    }
