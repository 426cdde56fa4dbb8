-- Runs of Space-Saving: their translation, and how far their counters lie from the true weights.
use Rattle.std.proofs.Common.{◌≡◌, ℕ, ◌+◌, ◌<◌, ◌≤◌, ◌⊎◌, inl, inr, ⊎_elim, Bool, true, false, cond, suc, Less, Equal, Greater, is_gt, List, [], ◌∷◌, ◌++◌, length, refl, sym, ap, ap₂, ◌∙◌, subst, add-zero, arith, All, Contains, nat_lt, nat_le, fold, ◌||◌, ◌==◌, min}
use Rattle.std.specs.List.{AllByRecursion}
use Rattle.std.specs.List.Sorted.{IsStrictlySortedBy}
use Rattle.std.specs.Map.{keys_of}
use Rattle.std.proofs.lemmas.Bool.{cases_Bool}
use Rattle.std.proofs.lemmas.Bool.Decides.{nat_tests}
use Rattle.std.proofs.lemmas.List.Elements.{recursion_from_All}
use Rattle.hh_stream.specs.Weights.{Bytes, Entry, key_cmp, same_key, at_key, weight_of, total_of}
use Rattle.hh_summaries.specs.Counters.{Counters, IsCounters, add_at, lower, cut, join, misra_gries, least_counter}
use Rattle.hh_counters.specs.SpaceSaving.{least_of, translate, without, HasLeast, IsStep, raised, entered, replaced, IsRun, IsRunFrom, first_with, key_to_drop, taken_over, step, space_saving}
use Rattle.hh_summaries.proofs.Weights.{flipped, turned, above_first, number_from_in, positive_in, by_key, same_exact, weight_of-cons, total_of-cons, weight_of-add_at, weight_above, weight_first}
use Rattle.hh_summaries.proofs.Level.{min_is, lower-nil}
use Rattle.hh_counters.proofs.Lowering.{cut-lower, level-least}
use Rattle.hh_counters.proofs.Stepping.{IsKept, stepped, replaced_new, replaced_elsewhere, least_of_free, least_of_full}

-- each item has a weight
abbrev pub Positive : List Entry → Type 0
Positive xs = AllByRecursion (λ (e : Entry). 0 < e.1) xs

none_kept : (k : ℕ) → IsKept [] k
unfolding IsStrictlySortedBy
none_kept k = record { counters = record { rising = tt; positive = tt }; few = omega arith }

-- ---- translation
-- one step of each, side by side
step_translates : (s : Counters) (e : Entry) (k : ℕ) (t : Counters) → 0 < e.1 → IsKept s k → IsStep s e k t
    → join (translate s k) (e ∷ []) k ≡ translate t k
step_translates s e k t p h st =
    let d = stepped s e k t p h st in
    let level = level-least t k d.kept.few in
    ap (λ (c : Counters). cut c k) d.same
    ∙ cut-lower t k (least_of s k) d.kept.counters.rising (omega (arith, d.rises, level))
    ∙ ap (λ m. lower m t) level

run_translates : (xs : List Entry) (k : ℕ) (s t : Counters) → Positive xs → IsKept s k → IsRunFrom s xs k t
    → translate t k ≡ fold (λ c e. join c (e ∷ []) k) (translate s k) xs
run_translates [] k s t p h r = ap (λ (c : Counters). translate c k) (sym r)
run_translates (e ∷ xs) k s t p h r =
    let d = stepped s e k r.0 p.0 h r.1 in
    run_translates xs k r.0 t p.1 d.kept r.2 ∙ ap (λ (c : Counters). fold (λ c e. join c (e ∷ []) k) c xs)
    (sym (step_translates s e k r.0 p.0 h r.1))

-- each run translates to the Misra-Gries counters of its items
pub run_is_misra_gries : (xs : List Entry) (k : ℕ) (s : Counters) → All (λ (e : Entry). 0 < e.1) xs → IsRun xs k s
    → translate s k ≡ misra_gries xs k
unfolding misra_gries
run_is_misra_gries xs k s p r =
    run_translates xs k [] s (recursion_from_All (λ (e : Entry). 0 < e.1) xs p) (none_kept k) r
    ∙ ap (λ (c : Counters). fold (λ c e. join c (e ∷ []) k) c xs) (lower-nil (least_of [] k))

run_kept : (xs : List Entry) (k : ℕ) (s t : Counters) → Positive xs → IsKept s k → IsRunFrom s xs k t
    → IsKept t k × (total_of t ≡ total_of s + total_of xs)
run_kept [] k s t p h r = (subst (λ (c : Counters). IsKept c k) r h, ap total_of (sym r) ∙ sym (add-zero (total_of s)))
run_kept (e ∷ xs) k s t p h r =
    let d = stepped s e k r.0 p.0 h r.1 in
    let rest = run_kept xs k r.0 t p.1 d.kept r.2 in
    (rest.0, omega (arith, rest.1, d.total, total_of-cons e xs))

-- the counters of a run add up to the total of its items
pub run_total : (xs : List Entry) (k : ℕ) (s : Counters) → All (λ (e : Entry). 0 < e.1) xs → IsRun xs k s
    → total_of s ≡ total_of xs
run_total xs k s p r =
    omega (arith, (run_kept xs k [] s (recursion_from_All (λ (e : Entry). 0 < e.1) xs p) (none_kept k) r).1)

-- ---- bounds
-- a counter g, 0 where there is none, of a key that weighs f, where the least counter is m
record IsClose (f g m : ℕ) : Type 0 where
  pub not_below : 0 < g → f ≤ g
  pub not_far_above : 0 < g → g ≤ f + m
  pub absent : g ≡ 0 → f ≤ m

-- s counts items of which the key q weighs f q
abbrev IsCounted : (Bytes → ℕ) → Counters → ℕ → Type 0
IsCounted f s k = (q : Bytes) → IsClose (f q) (weight_of q s) (least_of s k)

-- a step keeps the counters close
counted : (f : Bytes → ℕ) (s : Counters) (e : Entry) (k : ℕ) (t : Counters) → 0 < e.1 → IsKept s k → IsStep s e k t
    → IsCounted f s k → IsCounted (λ q. f q + at_key q e) t k
counted f s e k t p h st b q = by st (stepped s e k t p h st).rises
  where
    z : IsClose (f q) (weight_of q s) (least_of s k)
    z = b q

    -- a key that keeps its counter, and one that took a counter over
    stays : at_key q e ≡ 0 → weight_of q t ≡ weight_of q s → least_of s k ≤ least_of t k
        → IsClose (f q + at_key q e) (weight_of q t) (least_of t k)
    stays at now rises = record {
      not_below = λ l. omega (arith, now, at, z.not_below, l);
      not_far_above = λ l. omega (arith, now, at, z.not_far_above, l, rises);
      absent = λ l. omega (arith, now, at, z.absent, l, rises);
    }

    took : at_key q e ≡ e.1 → weight_of q s ≡ 0 → weight_of q t ≡ least_of s k + at_key q e
        → least_of s k ≤ least_of t k → IsClose (f q + at_key q e) (weight_of q t) (least_of t k)
    took at new now rises = record {
      not_below = λ l. omega (arith, now, z.absent new);
      not_far_above = λ l. omega (arith, now, rises);
      absent = λ l. absurd (omega (arith, now, l, at, p));
    }

    by : IsStep s e k t → least_of s k ≤ least_of t k → IsClose (f q + at_key q e) (weight_of q t) (least_of t k)
    by (raised has is) rises =
        let now = ap (weight_of q) is ∙ weight_of-add_at q s e in
        by_key q e _
        (λ same at.
        let had = ap (λ x. weight_of x s) same in
        record {
          not_below = λ l. omega (arith, now, at, had, has, z.not_below);
          not_far_above = λ l. omega (arith, now, at, had, has, z.not_far_above, rises);
          absent = λ l. omega (arith, now, at, had, has, l);
        })
        (λ _ at. stays at (omega (arith, now, at)) rises)
    by (entered new free is) rises =
        let now = ap (weight_of q) is ∙ weight_of-add_at q s e in
        let none = least_of_free s k free in
        by_key q e _
        (λ same at. took at (ap (λ x. weight_of x s) same ∙ new)
        (omega (arith, now, at, ap (λ x. weight_of x s) same, new, none)) rises)
        (λ _ at. stays at (omega (arith, now, at)) rises)
    by (replaced new full y y_least is) rises =
        let least : weight_of y s ≡ least_of s k = y_least.least ∙ sym (least_of_full s k full) in
        by_key q e _
        (λ same at. took at (ap (λ x. weight_of x s) same ∙ new)
        (omega (arith, replaced_new s e y (weight_of y s + e.1) t new is q same, least, at)) rises)
        (λ other at. ⊎_elim
        (λ (r : same_key q y ≡ true).
        let had = ap (λ x. weight_of x s) (same_exact q y r) in
        let now = replaced_elsewhere s e y (weight_of y s + e.1) t is q other ∙ ap (λ c. cond c 0 (weight_of q s)) r in
        record {
          not_below = λ l. absurd (omega (arith, now, l));
          not_far_above = λ l. absurd (omega (arith, now, l));
          absent = λ l. omega (arith, at, had, least, y_least.has, z.not_below, rises);
        })
        (λ (r : same_key q y ≡ false). stays at (replaced_elsewhere s e y (weight_of y s + e.1) t is q other
        ∙ ap (λ c. cond c 0 (weight_of q s)) r) rises)
        (cases_Bool (same_key q y)))

run_counted : (xs : List Entry) (f : Bytes → ℕ) (k : ℕ) (s t : Counters) → Positive xs → IsKept s k → IsRunFrom s xs k t
    → IsCounted f s k → IsCounted (λ q. f q + weight_of q xs) t k
run_counted [] f k s t p h r b q = subst (λ (u : Counters). IsClose (f q + 0) (weight_of q u) (least_of u k)) r
    (subst (λ n. IsClose n (weight_of q s) (least_of s k)) (sym (add-zero (f q))) (b q))
run_counted (e ∷ xs) f k s t p h r b q =
    let rest = run_counted xs (λ q. f q + at_key q e) k r.0 t p.1 (stepped s e k r.0 p.0 h r.1).kept r.2
    (counted f s e k r.0 p.0 h r.1 b) q in
    subst (λ n. IsClose n (weight_of q t) (least_of t k)) (omega (arith, weight_of-cons q e xs)) rest

-- they lie above the weights by at most the least counter, and no other key weighs more than that
pub run_bounds : (xs : List Entry) (k : ℕ) (s : Counters) → All (λ (e : Entry). 0 < e.1) xs → IsRun xs k s → (x : Bytes)
    → (0 < weight_of x s → (weight_of x xs ≤ weight_of x s) × (weight_of x s ≤ weight_of x xs + least_of s k))
    × (weight_of x s ≡ 0 → weight_of x xs ≤ least_of s k)
run_bounds xs k s p r x =
    let start : IsCounted (λ q. 0) [] k = λ q. record
    { not_below = λ l. omega arith; not_far_above = λ l. absurd (omega (arith, l)); absent = λ z. omega arith } in
    let end =
    run_counted xs (λ q. 0) k [] s (recursion_from_All (λ (e : Entry). 0 < e.1) xs p) (none_kept k) r start x in
    (λ l. (omega (arith, end.not_below l), omega (arith, end.not_far_above l)), λ z. omega (arith, end.absent z))

-- ---- the product's step
min_attained : (n : ℕ) (s : Counters) → (fold (λ n (d : Entry). min n d.1) n s ≡ n)
    ⊎ ((e : Entry) × Contains s e × (e.1 ≡ fold (λ n (d : Entry). min n d.1) n s))
min_attained n [] = inl refl
min_attained n (e ∷ s) = by (min_attained (min n e.1) s) (min_is n e.1)
  where
    by : (fold (λ n (d : Entry). min n d.1) (min n e.1) s ≡ min n e.1)
        ⊎ ((d : Entry) × Contains s d × (d.1 ≡ fold (λ n (d : Entry). min n d.1) (min n e.1) s))
        → (min n e.1 ≡ n) ⊎ (min n e.1 ≡ e.1) → (fold (λ n (d : Entry). min n d.1) (min n e.1) s ≡ n)
        ⊎ ((d : Entry) × Contains (e ∷ s) d × (d.1 ≡ fold (λ n (d : Entry). min n d.1) (min n e.1) s))
    by (inl is) (inl m) = inl (is ∙ m)
    by (inl is) (inr m) = inr (e, (0, omega arith, refl), sym (is ∙ m))
    by (inr (d, i, at)) m = inr (d, (suc i.0, omega (arith, i.1), i.2), at)

-- some entry has the least counter
least_attained : (s : Counters) → 0 < length s → (e : Entry) × Contains s e × (e.1 ≡ least_counter s)
least_attained [] h = absurd (omega arith)
least_attained (e ∷ s) h = by (min_attained e.1 s)
  where
    by : (least_counter (e ∷ s) ≡ e.1) ⊎ ((d : Entry) × Contains s d × (d.1 ≡ least_counter (e ∷ s)))
        → (d : Entry) × Contains (e ∷ s) d × (d.1 ≡ least_counter (e ∷ s))
    by (inl is) = (e, (0, omega arith, refl), sym is)
    by (inr (d, i, at)) = (d, (suc i.0, omega (arith, i.1), i.2), at)

-- no key with the counter n stands before the one that is to be dropped for it
pub first_with_first : (s : Counters) (n : ℕ) (z : Bytes) → 0 < n → IsStrictlySortedBy key_cmp (keys_of s)
    → weight_of z s ≡ n → is_gt (key_cmp (first_with n s) z) ≡ false × (weight_of (first_with n s) s ≡ n)
unfolding IsStrictlySortedBy
first_with_first [] n z p h at = absurd (omega (arith, at, p))
first_with_first (e ∷ s) n z p h at =
    elim (e.1 == n) as (λ b. (e.1 == n) ≡ b → is_gt (key_cmp (cond b e.0 (first_with n s)) z) ≡ false
    × (weight_of (cond b e.0 (first_with n s)) (e ∷ s) ≡ n)) [
      | true ↦ λ t. (
        elim (key_cmp z e.0) as (λ r. key_cmp z e.0 ≡ r → is_gt (key_cmp e.0 z) ≡ false) [
          | Less ↦ λ q. absurd (omega (arith, at, p, weight_above z (e ∷ s) (q, above_first z e.0 (keys_of s) q h.0)))
          | Equal ↦ λ q. ap is_gt (flipped z e.0 Equal q)
          | Greater ↦ λ q. ap is_gt (turned z e.0 q)
        ] refl,
        weight_first e s h.0 ∙ grind (arith, nat_tests, t),
      )
      | false ↦ λ f.
          let differs : weight_of z s ≡ n = by_key z e _
          (λ same here. absurd (let whole : weight_of z (e ∷ s) ≡ e.1 = ap (λ k. weight_of k (e ∷ s)) same
          ∙ weight_first e s h.0 in grind (arith, nat_tests, f, whole, at)))
          (λ other here. omega (arith, weight_of-cons z e s, here, at)) in
          let rest = first_with_first s n z p h.1 differs in (
            rest.0,
            by_key (first_with n s) e _
                (λ same here. absurd (omega (arith, rest.1, p, ap (λ k. weight_of k s) same, weight_above e.0 s h.0)))
                (λ other here. omega (arith, weight_of-cons (first_with n s) e s, here, rest.1)),
          )
    ] refl

drops_a_least : (s : Counters) → IsCounters s → 0 < length s → HasLeast s (key_to_drop s)
drops_a_least s h l =
    let d = least_attained s l in
    let some : 0 < least_counter s = omega (arith, d.2, positive_in s d.0 h d.1) in
    let got = first_with_first s (least_counter s) d.0.0 some h.rising (number_from_in d.0 s h.rising d.1 ∙ d.2) in
    record { has = omega (arith, got.1, some); least = got.1 }

step_is_step : (s : Counters) (e : Entry) (k : ℕ) → IsCounters s → IsStep s e k (step s e k)
step_is_step s e k h = by (nat_lt 0 (weight_of e.0 s)) (nat_le (length s) k) refl refl
  where
    by : (a b : Bool) → nat_lt 0 (weight_of e.0 s) ≡ a → nat_le (length s) k ≡ b → IsStep s e k (step s e k)
    by true b p q =
        raised (grind (arith, nat_tests, p)) (ap (λ c. cond (c || nat_le (length s) k) (add_at s e) (taken_over s e)) p)
    by false true p q = entered (grind (arith, nat_tests, p)) (grind (arith, nat_tests, q))
        (ap₂ (λ c d. cond (c || d) (add_at s e) (taken_over s e)) p q)
    by false false p q =
        let full : k < length s = grind (arith, nat_tests, q) in
        let y_least = drops_a_least s h (omega (arith, full)) in
        replaced (grind (arith, nat_tests, p)) full (key_to_drop s) y_least
        (ap₂ (λ c d. cond (c || d) (add_at s e) (taken_over s e)) p q
        ∙ ap (λ n. add_at (without s (key_to_drop s)) (e.0, n + e.1)) (sym y_least.least))

steps_from : (xs : List Entry) (k : ℕ) (s : Counters) → Positive xs → IsKept s k
    → IsRunFrom s xs k (fold (λ s e. step s e k) s xs)
steps_from [] k s p h = refl
steps_from (e ∷ xs) k s p h =
    let st = step_is_step s e k h.counters in
    (step s e k, st, steps_from xs k (step s e k) p.1 (stepped s e k (step s e k) p.0 h st).kept)

-- the product's steps are a run
pub steps_are_a_run : (xs : List Entry) (k : ℕ) → All (λ (e : Entry). 0 < e.1) xs → IsRun xs k (space_saving xs k)
steps_are_a_run xs k p = steps_from xs k [] (recursion_from_All (λ (e : Entry). 0 < e.1) xs p) (none_kept k)

-- what a step of the product keeps
pub step_kept : (s : Counters) (e : Entry) (k : ℕ) → 0 < e.1 → IsKept s k
    → IsKept (step s e k) k × (total_of (step s e k) ≡ total_of s + e.1)
step_kept s e k p h = let d = stepped s e k (step s e k) p h (step_is_step s e k h.counters) in (d.kept, d.total)

-- ---- runs go on
-- a step after a run is a run
pub run_more : (xs : List Entry) (e : Entry) (k : ℕ) (s t u : Counters) → IsRunFrom s xs k t → IsStep t e k u
    → IsRunFrom s (xs ++ e ∷ []) k u
run_more [] e k s t u r st = (u, subst (λ (c : Counters). IsStep c e k u) (sym r) st, refl)
run_more (x ∷ xs) e k s t u r st = (r.0, r.1, run_more xs e k r.0 t u r.2 st)

-- so is the product's
pub run_step : (xs : List Entry) (e : Entry) (k : ℕ) (s : Counters) → All (λ (e : Entry). 0 < e.1) xs → IsRun xs k s
    → IsRun (xs ++ e ∷ []) k (step s e k)
run_step xs e k s p r =
    let kept = (run_kept xs k [] s (recursion_from_All (λ (e : Entry). 0 < e.1) xs p) (none_kept k) r).0 in
    run_more xs e k [] s (step s e k) r (step_is_step s e k kept.counters)
