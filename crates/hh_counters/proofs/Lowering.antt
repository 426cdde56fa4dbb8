-- What is taken in two goes, and what that does to the level.
use Rattle.std.proofs.Common.{◌≡◌, ℕ, ◌+◌, ◌-◌, ◌≤◌, [], ◌∷◌, length, ap, ◌∙◌, arith, nat_le}
use Rattle.std.specs.List.Sorted.{IsStrictlySortedBy}
use Rattle.std.specs.Map.{keys_of}
use Rattle.std.proofs.lemmas.Bool.{cond_both}
use Rattle.std.proofs.lemmas.Bool.Decides.{nat_tests}
use Rattle.hh_stream.specs.Weights.{key_cmp}
use Rattle.hh_summaries.specs.Counters.{Counters, over, level, lower, cut, least_counter}
use Rattle.hh_counters.specs.SpaceSaving.{least_of}
use Rattle.hh_summaries.proofs.Weights.{same_counters}
use Rattle.hh_summaries.proofs.Level.{over-cons, lower-nil, by_lower, counters-lower, weight_of-lower, is_level, level_few, level_one_more}

-- of lowered counters as many exceed t as did m + t before
pub over-lower : (c : Counters) (m t : ℕ) → over (lower m c) t ≡ over c (m + t)
over-lower [] m t = ap (λ (d : Counters). over d t) (lower-nil m)
over-lower (e ∷ c) m t =
    let rest = over-lower c m t in
    by_lower (λ d. over d t ≡ over (e ∷ c) (m + t)) m e c
    (λ l. grind (arith, nat_tests, over-cons (e.0, e.1 - m) (lower m c) t, over-cons e c (m + t), rest))
    (λ l. grind (arith, nat_tests, over-cons e c (m + t), rest))

-- lowering twice is lowering by both
lower-lower : (c : Counters) (m t : ℕ) → IsStrictlySortedBy key_cmp (keys_of c) → lower t (lower m c) ≡ lower (m + t) c
lower-lower c m t h =
    let first = (counters-lower m c h).rising in
    same_counters _ _ (counters-lower t (lower m c) first) (counters-lower (m + t) c h) (λ x. omega
    (arith, weight_of-lower t x (lower m c) first, weight_of-lower m x c h, weight_of-lower (m + t) x c h))

level-lower : (c : Counters) (k m : ℕ) → m ≤ level c k → m + level (lower m c) k ≡ level c k
level-lower c k m h =
    let low = is_level (lower m c) k in
    let whole = is_level c k in
    let up = whole.least (m + level (lower m c) k) (omega (arith, over-lower c m (level (lower m c) k), low.at_most)) in
    let same : m + (level c k - m) ≡ level c k = omega arith in
    let down =
    low.least (level c k - m) (omega (arith, over-lower c m (level c k - m), ap (over c) same, whole.at_most)) in
    omega (arith, up, down)

-- no more than the level may be taken first
pub cut-lower : (c : Counters) (k m : ℕ) → IsStrictlySortedBy key_cmp (keys_of c) → m ≤ level c k
    → cut (lower m c) k ≡ cut c k
cut-lower c k m rises h = lower-lower c m (level (lower m c) k) rises ∙ ap (λ t. lower t c) (level-lower c k m h)

-- of at most k + 1 counters the level is the least, or 0 where one is free
pub level-least : (s : Counters) (k : ℕ) → length s ≤ k + 1 → level s k ≡ least_of s k
level-least s k few = cond_both (nat_le (length s) k) 0 (least_counter s) (λ n. level s k ≡ n)
    (λ p. level_few s k (grind (arith, nat_tests, p))) (λ p. level_one_more s k (grind (arith, nat_tests, p, few)))
