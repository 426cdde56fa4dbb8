-- What a step of Space-Saving does to the weights, the length and the total.
use Rattle.std.proofs.Common.{◌≡◌, ℕ, ◌+◌, ◌-◌, ◌<◌, ◌≤◌, ⊎_elim, true, false, cond, not, [], ◌∷◌, length, Less, Equal, Greater, is_eq, refl, sym, ap, ◌∙◌, subst, arith, fold, min, nat_le}
use Rattle.std.specs.List.{AllByRecursion}
use Rattle.std.specs.List.Sorted.{IsStrictlySortedBy}
use Rattle.std.specs.Map.{keys_of}
use Rattle.std.proofs.lemmas.Bool.{cases_lt, cond_both}
use Rattle.std.proofs.lemmas.Bool.Decides.{nat_tests}
use Rattle.hh_stream.specs.Weights.{Bytes, Entry, key_cmp, same_key, at_key, weight_of, total_of}
use Rattle.hh_summaries.specs.Counters.{Counters, IsCounters, add_at, lower, least_counter, plus}
use Rattle.hh_counters.specs.SpaceSaving.{least_of, translate, without, IsStep, raised, entered, replaced}
use Rattle.hh_summaries.proofs.Weights.{at_here, at_differ, by_key, by_add_at, same_exact, same_self, same_sym, key_exact, weight_of-cons, total_of-cons, weight_of-add_at, total_of-add_at, rising-add_at, positive-add_at, weight_above, weight_first, above_first, flipped, at_other, same_counters, counters-plus, weight_of-plus}
use Rattle.hh_summaries.proofs.Level.{least_counter-all, level_above, weight_of-lower, counters-lower}
use Rattle.hh_counters.proofs.Lowering.{level-least}
use Rattle.hh_summaries.proofs.Reports.{counters-filter}

-- ---- an entry added
-- counters with an item added are counters
pub counters-add_at : (s : Counters) (e : Entry) → IsCounters s → 0 < e.1 → IsCounters (add_at s e)
counters-add_at s e h p = record { rising = rising-add_at s e h.rising; positive = positive-add_at s e h.positive p }

-- a key that has a counter takes no more room
length-add_at_old : (c : Counters) (e : Entry) → IsStrictlySortedBy key_cmp (keys_of c) → 0 < weight_of e.0 c
    → length (add_at c e) ≡ length c
unfolding IsStrictlySortedBy
length-add_at_old [] e h l = absurd (omega arith)
length-add_at_old (d ∷ c) e h l =
    by_add_at (λ b. length b ≡ length (d ∷ c)) c d e
    (λ p. absurd (omega (arith, l, weight_above e.0 (d ∷ c) (p, above_first e.0 d.0 (keys_of c) p h.0))))
    (λ p. omega arith)
    (λ p. let other = at_other e.0 d Greater (flipped d.0 e.0 Less p) refl in
    omega (arith, length-add_at_old c e h.1 (omega (arith, l, weight_of-cons e.0 d c, other))))

-- and one that has none takes one place
pub length-add_at_new : (c : Counters) (e : Entry) → AllByRecursion (λ (d : Entry). 0 < d.1) c → weight_of e.0 c ≡ 0
    → length (add_at c e) ≡ length c + 1
length-add_at_new [] e h z = omega arith
length-add_at_new (d ∷ c) e h z =
    by_add_at (λ b. length b ≡ length (d ∷ c) + 1) c d e (λ p. omega arith)
    (λ p. let here = at_here e.0 d (ap (λ x. same_key x d.0) p ∙ same_self d.0) in
    absurd (omega (arith, weight_of-cons e.0 d c, here, h.0, z)))
    (λ p. omega (arith, length-add_at_new c e h.1 (omega (arith, weight_of-cons e.0 d c, z))))

-- ---- a key taken out
-- without a key it weighs nothing, and others weigh what they did
pub weight_of-without : (q y : Bytes) (s : Counters) → weight_of q (without s y) ≡ cond (same_key q y) 0 (weight_of q s)
weight_of-without q y [] = cond_both (same_key q y) 0 0 (λ (n : ℕ). 0 ≡ n) (λ _. refl) (λ _. refl)
weight_of-without q y (e ∷ s) =
    let tail = weight_of-without q y s in
    by_key y e _
    (λ is here. grind
    (arith, weight_of-cons q e s, ap (same_key q) is, ap (λ x. same_key x e.0) is, same_self e.0, tail))
    (λ other none. by_key q e _
    (λ is here. grind
    (arith, weight_of-cons q e s, weight_of-cons q e (without s y), is, here, other, tail, same_sym y e.0))
    (λ apart here. grind (arith, weight_of-cons q e s, weight_of-cons q e (without s y), other, here, tail)))

-- counters without a key are counters
pub counters-without : (s : Counters) (y : Bytes) → IsCounters s → IsCounters (without s y)
counters-without s y h = counters-filter (λ e. not (same_key y e.0)) s h

-- where all keys are above y, nothing goes
pub without_above : (s : Counters) (y : Bytes) → AllByRecursion (λ z. key_cmp y z ≡ Less) (keys_of s) → without s y ≡ s
without_above [] y h = refl
without_above (e ∷ s) y h = ap (λ r. cond (not (is_eq r)) (e ∷ without s y) (without s y)) h.0
    ∙ ap (λ (c : Counters). e ∷ c) (without_above s y h.1)

-- the length and the total, less those of the key
without_less : (s : Counters) (y : Bytes) → IsCounters s → 0 < weight_of y s
    → (length (without s y) + 1 ≡ length s) × (total_of (without s y) + weight_of y s ≡ total_of s)
unfolding IsStrictlySortedBy
without_less [] y h l = absurd (omega arith)
without_less (e ∷ s) y h l =
    elim (key_cmp y e.0) as (λ r. key_cmp y e.0 ≡ r
    → (length (cond (not (is_eq r)) (e ∷ without s y) (without s y)) + 1 ≡ length (e ∷ s))
    × (total_of (cond (not (is_eq r)) (e ∷ without s y) (without s y)) + weight_of y (e ∷ s) ≡ total_of (e ∷ s))) [
      | Less ↦ λ p. absurd (omega (arith, l, weight_above y (e ∷ s) (p, above_first y e.0 (keys_of s) p h.rising.0)))
      | Equal ↦ λ p.
          let above =
          subst (λ k. AllByRecursion (λ z. key_cmp k z ≡ Less) (keys_of s)) (sym (key_exact y e.0 p)) h.rising.0 in
          let rest = without_above s y above in
          let here = at_here y e (ap is_eq p) in (
            omega (arith, ap length rest),
            omega (arith, ap total_of rest, total_of-cons e s, weight_of-cons y e s, here, weight_above y s above),
          )
      | Greater ↦ λ p.
          let other = at_other y e Greater p refl in
          let tail = without_less s y (record { rising = h.rising.1; positive = h.positive.1 })
          (omega (arith, l, weight_of-cons y e s, other)) in (
            omega (arith, tail.0),
            omega (arith, tail.1, total_of-cons e s, total_of-cons e (without s y), weight_of-cons y e s, other),
          )
    ] refl

-- ---- bounds by keys and by entries
-- each key's counter is at least m
pub at_least_all : (s : Counters) (m : ℕ) → IsCounters s → ((q : Bytes) → 0 < weight_of q s → m ≤ weight_of q s)
    → AllByRecursion (λ (e : Entry). m ≤ e.1) s
unfolding IsStrictlySortedBy
at_least_all [] m h b = tt
at_least_all (e ∷ s) m h b =
    let first = weight_first e s h.rising.0 in (
      omega (arith, first, b e.0 (omega (arith, first, h.positive.0))),
      at_least_all s m (record { rising = h.rising.1; positive = h.positive.1 }) (λ q l. by_key q e _
          (λ same _. absurd (omega (arith, l, ap (λ k. weight_of k s) same, weight_above e.0 s h.rising.0)))
          (λ _ at. omega (arith, b q (omega (arith, weight_of-cons q e s, at, l)), weight_of-cons q e s, at))),
    )

-- what is not above any counter is not above the weight of a key that has one
pub at_least_each : (s : Counters) (m : ℕ) (q : Bytes) → AllByRecursion (λ (e : Entry). m ≤ e.1) s → 0 < weight_of q s
    → m ≤ weight_of q s
at_least_each [] m q a l = absurd (omega arith)
at_least_each (e ∷ s) m q a l =
    let whole = weight_of-cons q e s in
    by_key q e _ (λ _ here. omega (arith, whole, here, a.0))
    (λ _ other. omega (arith, whole, other, at_least_each s m q a.1 (omega (arith, whole, other, l))))

-- a counter is at least the least
pub least_counter-le : (s : Counters) (q : Bytes) → 0 < weight_of q s → least_counter s ≤ weight_of q s
least_counter-le s q l = at_least_each s (least_counter s) q (least_counter-all s) l

-- what is not above any counter is not above the least
pub least_counter-ge : (m : ℕ) (s : Counters) → 0 < length s → AllByRecursion (λ (e : Entry). m ≤ e.1) s
    → m ≤ least_counter s
least_counter-ge m [] l a = absurd (omega arith)
least_counter-ge m (e ∷ s) l a = from e.1 s a.0 a.1
  where
    from : (n : ℕ) (s : Counters) → m ≤ n → AllByRecursion (λ (e : Entry). m ≤ e.1) s
        → m ≤ fold (λ n (d : Entry). min n d.1) n s
    from n [] h a = h
    from n (e ∷ s) h a = from (min n e.1) s (omega (arith, h, a.0)) a.1

-- where a counter is free, the least is 0
pub least_of_free : (s : Counters) (k : ℕ) → length s ≤ k → least_of s k ≡ 0
least_of_free s k h =
    let yes : nat_le (length s) k ≡ true = grind (arith, nat_tests, h) in ap (λ b. cond b 0 (least_counter s)) yes

-- else it is the least counter
pub least_of_full : (s : Counters) (k : ℕ) → k < length s → least_of s k ≡ least_counter s
least_of_full s k h =
    let no : nat_le (length s) k ≡ false = grind (arith, nat_tests, h) in ap (λ b. cond b 0 (least_counter s)) no

least_of-le : (s : Counters) (k : ℕ) (q : Bytes) → 0 < weight_of q s → least_of s k ≤ weight_of q s
least_of-le s k q l = grind (arith, least_counter-le s q l)

-- ---- a step
-- counters of at most k + 1 keys
pub record IsKept (s : Counters) (k : ℕ) : Type 0 where
  pub counters : IsCounters s
  pub few : length s ≤ k + 1

-- what a step from s leaves, t
pub record IsStepped (s : Counters) (e : Entry) (k : ℕ) (t : Counters) : Type 0 where
  pub kept : IsKept t k
  pub rises : least_of s k ≤ least_of t k
  pub total : total_of t ≡ total_of s + e.1
  pub same : plus (translate s k) (e ∷ []) ≡ lower (least_of s k) t

weight_of-translated : (s : Counters) (e : Entry) (k : ℕ) (q : Bytes) → IsCounters s
    → weight_of q (plus (translate s k) (e ∷ [])) ≡ (weight_of q s - least_of s k) + at_key q e
weight_of-translated s e k q h =
    let lowered = weight_of-lower (least_of s k) q s h.rising in
    omega (arith, weight_of-plus q (translate s k) (e ∷ []), lowered, weight_of-cons q e [])

one_counter : (e : Entry) → 0 < e.1 → IsCounters (e ∷ [])
unfolding IsStrictlySortedBy
one_counter e p = record { rising = (tt, tt); positive = (p, tt) }

-- it is enough to know the weights after it
same_weights : (s : Counters) (e : Entry) (k : ℕ) (t : Counters) → IsCounters s → 0 < e.1 → IsCounters t
    → ((q : Bytes) → (weight_of q s - least_of s k) + at_key q e ≡ weight_of q t - least_of s k)
    → plus (translate s k) (e ∷ []) ≡ lower (least_of s k) t
same_weights s e k t h p g w =
    same_counters _ _ (counters-plus (translate s k) (e ∷ []) (counters-lower (least_of s k) s h.rising)
    (one_counter e p)) (counters-lower (least_of s k) t g.rising)
    (λ q. weight_of-translated s e k q h ∙ w q ∙ sym (weight_of-lower (least_of s k) q t g.rising))

-- the least does not fall where no counter falls below it
least_rises : (s t : Counters) (k : ℕ) → IsKept t k → length s ≤ length t
    → ((q : Bytes) → 0 < weight_of q t → least_of s k ≤ weight_of q t) → least_of s k ≤ least_of t k
least_rises s t k kept longer b = ⊎_elim
    (λ (full : k < length s). omega (
      arith,
      level_above t k (least_of s k) (at_least_all t (least_of s k) kept.counters b) (omega (arith, full, longer)),
      level-least t k kept.few,
    ))
    (λ (free : length s ≤ k). omega (arith, least_of_free s k free)) (cases_lt k (length s))

-- the weights where a newcomer took over the counter of y
absent_without : (s : Counters) (q y : Bytes) → weight_of q s ≡ 0 → weight_of q (without s y) ≡ 0
absent_without s q y z = grind (arith, weight_of-without q y s, z)

-- a newcomer has the counter that it took over, with its weight
pub replaced_new : (s : Counters) (e : Entry) (y : Bytes) (n : ℕ) (t : Counters) → weight_of e.0 s ≡ 0
    → t ≡ add_at (without s y) (e.0, n) → (q : Bytes) → q ≡ e.0 → weight_of q t ≡ n
replaced_new s e y n t new is q same =
    let gone : weight_of q (without s y) ≡ 0 = absent_without s q y (ap (λ x. weight_of x s) same ∙ new) in
    let here : at_key q (e.0, n) ≡ n = at_here q (e.0, n) (ap (λ x. same_key x e.0) same ∙ same_self e.0) in
    omega (arith, ap (weight_of q) is, weight_of-add_at q (without s y) (e.0, n), gone, here)

-- the dropped key weighs nothing, and others weigh what they did
pub replaced_elsewhere : (s : Counters) (e : Entry) (y : Bytes) (n : ℕ) (t : Counters)
    → t ≡ add_at (without s y) (e.0, n) → (q : Bytes) → same_key q e.0 ≡ false
    → weight_of q t ≡ cond (same_key q y) 0 (weight_of q s)
replaced_elsewhere s e y n t is q other =
    let weight = ap (weight_of q) is ∙ weight_of-add_at q (without s y) (e.0, n) in
    omega (arith, weight, weight_of-without q y s, at_differ q (e.0, n) other)

-- what a step does to the number of counters, the least one, the total and the translation
pub stepped : (s : Counters) (e : Entry) (k : ℕ) (t : Counters) → 0 < e.1 → IsKept s k → IsStep s e k t
    → IsStepped s e k t
stepped s e k t p h (raised has is) =
    let weights : (q : Bytes) → weight_of q t ≡ weight_of q s + at_key q e =
    λ q. ap (weight_of q) is ∙ weight_of-add_at q s e in
    let long : length t ≡ length s = ap length is ∙ length-add_at_old s e h.counters.rising has in
    let kept : IsKept t k = record {
      counters = subst IsCounters (sym is) (counters-add_at s e h.counters p);
      few = omega (arith, long, h.few);
    } in
    let low = least_of-le s k e.0 has in
    record {
      kept = kept;
      rises = least_rises s t k kept (omega (arith, long)) (λ q l. by_key q e _
          (λ same at. omega (arith, weights q, ap (λ x. weight_of x s) same, low))
          (λ other at. omega (arith, weights q, at, least_of-le s k q (omega (arith, weights q, at, l)))));
      total = ap total_of is ∙ total_of-add_at s e;
      same = same_weights s e k t h.counters p kept.counters (λ q. by_key q e _
          (λ same at. omega (arith, weights q, at, ap (λ x. weight_of x s) same, low))
          (λ other at. omega (arith, weights q, at)));
    }
stepped s e k t p h (entered new free is) =
    let weights : (q : Bytes) → weight_of q t ≡ weight_of q s + at_key q e =
    λ q. ap (weight_of q) is ∙ weight_of-add_at q s e in
    let long : length t ≡ length s + 1 = ap length is ∙ length-add_at_new s e h.counters.positive new in
    let kept : IsKept t k = record
    { counters = subst IsCounters (sym is) (counters-add_at s e h.counters p); few = omega (arith, long, free) } in
    let none = least_of_free s k free in
    record {
      kept = kept;
      rises = omega (arith, none);
      total = ap total_of is ∙ total_of-add_at s e;
      same = same_weights s e k t h.counters p kept.counters (λ q. omega (arith, weights q, none));
    }
stepped s e k t p h (replaced new full y y_least is) =
    let f : Entry = (e.0, weight_of y s + e.1) in
    let left = without s y in
    let left_counters = counters-without s y h.counters in
    let fewer = without_less s y h.counters y_least.has in
    let gone : weight_of e.0 left ≡ 0 = absent_without s e.0 y new in
    let long : length t ≡ length s =
    omega (arith, ap length is, length-add_at_new left f left_counters.positive gone, fewer.0) in
    let kept : IsKept t k = record {
      counters = subst IsCounters (sym is) (counters-add_at left f left_counters (omega (arith, p)));
      few = omega (arith, long, h.few);
    } in
    let least : least_of s k ≡ weight_of y s = least_of_full s k full ∙ sym y_least.least in
    let at_new = replaced_new s e y (weight_of y s + e.1) t new is in
    let elsewhere = replaced_elsewhere s e y (weight_of y s + e.1) t is in
    record {
      kept = kept;
      rises = least_rises s t k kept (omega (arith, long)) (λ q l. by_key q e _
          (λ same at. omega (arith, at_new q same, least))
          (λ other at. grind (arith, elsewhere q other, least_of-le s k q, l)));
      total = omega (arith, ap total_of is, total_of-add_at left f, fewer.1);
      same = same_weights s e k t h.counters p kept.counters (λ q. by_key q e _
          (λ same at. omega (arith, at_new q same, at, ap (λ x. weight_of x s) same, new, least))
          (λ other at.
          let dropped : same_key q y ≡ true → weight_of q s ≡ weight_of y s =
          λ r. ap (λ x. weight_of x s) (same_exact q y r) in
          grind (arith, elsewhere q other, at, dropped, least)));
    }
