-- The counters of a stream, and of two summaries joined, are honest.
use Rattle.std.proofs.Common.{◌≡◌, ℕ, zero, suc, ◌+◌, ◌-◌, ◌*◌, ◌<◌, ◌≤◌, List, [], ◌∷◌, ◌++◌, ◌^◌, cond, length, take, get_or, refl, sym, ap, ◌∙◌, subst, append_assoc, append-nil, mul-add, mul_comm, mul-le-mul_left, mul-zero, add-one, arith, fold, min, nat_lt, replicate, IsPermutation}
use Rattle.std.specs.List.{insert}
use Rattle.std.proofs.lemmas.List.{take_more, length-replicate}
use Rattle.std.proofs.lemmas.List.Sorted.{sum_by-IsPermutation}
use Rattle.std.proofs.lemmas.List.Sums.{fold_push}
use Rattle.std.specs.List.Sorted.{IsStrictlySortedBy}
use Rattle.hh_stream.specs.Weights.{Bytes, Entry, at_key, weight_of, total_of}
use Rattle.hh_summaries.specs.Counters.{Counters, IsCounters, add_at, tally, over, IsLevel, level, lower, least_counter, plus, join, misra_gries, IsHonest, Fits, sketch_with, sketch_of}
use Rattle.hh_summaries.proofs.Weights.{by_add_at, by_key, same_counters, plus_is_fold, rising-add_at, positive-add_at, weight_of-cons, weight_of-append, total_of-append, rising-tally, weight_of-tally, total_of-tally, weight_of-plus, total_of-plus}
use Rattle.hh_summaries.proofs.Level.{over-cons, is_level, one_level, level_one_more, level_few, lower-cons, by_lower, length-lower, weight_of-lower, total_of-lower, total_of-lower_0, total_of-lower-le, counters-lower}

-- ---- a join
-- a join is counters
pub counters-join : (c d : Counters) (k : ℕ) → IsCounters (join c d k)
counters-join c d k = counters-lower (level (plus c d) k) (plus c d) (rising-tally (c ++ d))

length-join : (c d : Counters) (k : ℕ) → length (join c d k) ≤ k
length-join c d k = omega (arith, length-lower (level (plus c d) k) (plus c d), (is_level (plus c d) k).at_most)

-- a key has in it what it has in both together, less the level
pub weight_of-join : (x : Bytes) (c d : Counters) (k : ℕ)
    → weight_of x (join c d k) ≡ weight_of x c + weight_of x d - level (plus c d) k
weight_of-join x c d k =
    omega (arith, weight_of-lower (level (plus c d) k) x (plus c d) (rising-tally (c ++ d)), weight_of-plus x c d)

-- the level is taken from at least k + 1 counters
pub total_of-cut : (c : Counters) (k t : ℕ) → IsLevel c k t → total_of (lower t c) + (k + 1) * t ≤ total_of c
total_of-cut c k zero h = omega (arith, mul-zero (k + 1), total_of-lower-le 0 c)
total_of-cut c k (suc u) h =
    rw (sym (add-one u)) (let many : k + 1 ≤ over c u = grind (arith, h.least u) in
    omega (arith, total_of-lower u c, mul-le-mul_left (u + 1) many, mul_comm (u + 1) (k + 1)))

total_of-join : (c d : Counters) (k : ℕ) → total_of (join c d k) + (k + 1) * level (plus c d) k
    ≤ total_of c + total_of d
total_of-join c d k = omega (arith, total_of-cut (plus c d) k _ (is_level (plus c d) k), total_of-plus c d)

-- ---- joins are honest: `few` of the two is not needed
joins : (c d : Counters) (m l : ℕ) (xs ys : List Entry) (k : ℕ) → m ≡ total_of xs → l ≡ total_of ys
    → ((x : Bytes) → weight_of x c ≤ weight_of x xs)
    → ((x : Bytes) → (k + 1) * weight_of x xs + total_of c ≤ m + (k + 1) * weight_of x c)
    → ((x : Bytes) → weight_of x d ≤ weight_of x ys)
    → ((x : Bytes) → (k + 1) * weight_of x ys + total_of d ≤ l + (k + 1) * weight_of x d)
    → IsHonest (join c d k) (m + l) (xs ++ ys) k
joins c d m l xs ys k counts countl belowc nearc belowd neard = record {
  counters = counters-join c d k;
  counted = omega (arith, total_of-append xs ys);
  few = length-join c d k;
  below = λ x. omega (arith, weight_of-append x xs ys, weight_of-join x c d k, belowc x, belowd x);
  near = λ x.
      let t = level (plus c d) k in
      let kept : weight_of x c + weight_of x d ≤ weight_of x (join c d k) + t = omega (arith, weight_of-join x c d k) in
      let times : (k + 1) * (weight_of x c + weight_of x d) ≤ (k + 1) * (weight_of x (join c d k) + t) =
      mul-le-mul_left (k + 1) kept in
      let left : (k + 1) * weight_of x (xs ++ ys) ≡ (k + 1) * weight_of x xs + (k + 1) * weight_of x ys =
      ap (λ n. (k + 1) * n) (weight_of-append x xs ys) ∙ mul-add (k + 1) _ _ in
      let both = mul-add (k + 1) (weight_of x c) (weight_of x d) in
      let joint = mul-add (k + 1) (weight_of x (join c d k)) t in
      omega (arith, left, times, both, joint, nearc x, neard x, total_of-join c d k);
}

-- honest counters of two lists, joined, are honest for both together
pub join_is_honest : (c d : Counters) (m l : ℕ) (xs ys : List Entry) (k : ℕ) → IsHonest c m xs k → IsHonest d l ys k
    → IsHonest (join c d k) (m + l) (xs ++ ys) k
join_is_honest c d m l xs ys k h g = joins c d m l xs ys k h.counted g.counted h.below h.near g.below g.near

-- ---- the counters of a stream
one_more : (c : Counters) (ys : List Entry) (k : ℕ) (e : Entry) → IsHonest c (total_of ys) ys k
    → IsHonest (join c (e ∷ []) k) (total_of (ys ++ e ∷ [])) (ys ++ e ∷ []) k
one_more c ys k e h =
    subst (λ m. IsHonest (join c (e ∷ []) k) m (ys ++ e ∷ []) k) (sym (total_of-append ys (e ∷ [])))
    (joins c (e ∷ []) (total_of ys) (total_of (e ∷ [])) ys (e ∷ []) k refl refl h.below h.near (λ x. omega arith)
    (λ x. omega arith))

honest-misra_gries_from : (c : Counters) (ys xs : List Entry) (k : ℕ) → IsHonest c (total_of ys) ys k
    → IsHonest (fold (λ c e. join c (e ∷ []) k) c xs) (total_of (ys ++ xs)) (ys ++ xs) k
honest-misra_gries_from c ys [] k h = subst (λ (zs : List Entry). IsHonest c (total_of zs) zs k) (sym (append-nil ys)) h
honest-misra_gries_from c ys (e ∷ xs) k h =
    subst (λ (zs : List Entry). IsHonest (fold (λ c e. join c (e ∷ []) k) (join c (e ∷ []) k) xs) (total_of zs) zs k)
    (append_assoc ys (e ∷ []) xs)
    (honest-misra_gries_from (join c (e ∷ []) k) (ys ++ e ∷ []) xs k (one_more c ys k e h))

nothing : (k : ℕ) → IsHonest [] 0 [] k
unfolding IsStrictlySortedBy
nothing k = record {
  counters = record { rising = tt; positive = tt };
  counted = refl;
  few = omega arith;
  below = λ x. omega arith;
  near = λ x. omega arith;
}

-- the Misra-Gries counters are honest
pub honest-misra_gries : (xs : List Entry) (k : ℕ) → IsHonest (misra_gries xs k) (total_of xs) xs k
unfolding misra_gries
honest-misra_gries xs k = honest-misra_gries_from [] [] xs k (nothing k)

-- ---- what a summary keeps
-- no counters fit in a summary of no items
pub fits_nothing : (k : ℕ) → 1 ≤ k → k ≤ 65535 → Fits k 0 []
unfolding IsStrictlySortedBy
fits_nothing k a b = record {
  some = a;
  bounded_k = b;
  bounded_total = omega arith;
  few = omega arith;
  entries = record { rising = tt; positive = tt };
  within = omega arith;
}

-- a join fits in a summary of both totals
pub fits_join : (c d : Counters) (m l k : ℕ) → Fits k m c → total_of d ≤ l → m + l < 2 ^ 63
    → Fits k (m + l) (join c d k)
fits_join c d m l k h w b = record {
  some = h.some;
  bounded_k = h.bounded_k;
  bounded_total = b;
  few = length-join c d k;
  entries = counters-join c d k;
  within = omega (arith, total_of-join c d k, h.within, w);
}

-- ---- one item more
-- one more item is one more join
pub sketch_push : (k : ℕ) (xs : List Entry) (e : Entry) → sketch_of k (xs ++ e ∷ []) ≡ sketch_with (sketch_of k xs) e
unfolding misra_gries
sketch_push k xs e = let more : total_of (xs ++ e ∷ [])
    ≡ total_of xs + e.1 = omega (arith, total_of-append xs (e ∷ [])) in
    λ i. record { k = k; total = more i; counters = fold_push (λ c e. join c (e ∷ []) k) [] xs e i }

-- as in a loop over the items
pub sketch_more : (k : ℕ) (xs : List Entry) (i : ℕ) (e : Entry) → i < length xs → e ≡ get_or xs i e
    → sketch_of k (take (i + 1) xs) ≡ sketch_with (sketch_of k (take i xs)) e
sketch_more k xs i e l is = ap (sketch_of k) (take_more xs i e l) ∙ sketch_push k (take i xs) (get_or xs i e)
    ∙ ap (sketch_with (sketch_of k (take i xs))) (sym is)

-- nothing, and the empty stream
pub sketch_nothing : (k : ℕ) → sketch_of k [] ≡ record { k = k; total = 0; counters = [] }
unfolding misra_gries
sketch_nothing k = refl

-- ---- the same with a subtraction, which does not stop at 0
longest : List Entry → ℕ
longest [] = 0
longest (e ∷ xs) = length e.0 + longest xs

no_weight : (n : ℕ) (xs : List Entry) → longest xs < n → weight_of (replicate n 0) xs ≡ 0
unfolding longest
no_weight n [] l = refl
no_weight n (e ∷ xs) l = by_key (replicate n 0) e _
    (λ same _. absurd (omega (arith, ap length same, length-replicate {A = ℕ} n 0, l)))
    (λ _ at. omega (arith, weight_of-cons (replicate n 0) e xs, at, no_weight n xs (omega arith)))

-- at a key that does not come, `near` says that the counters are within the total
pub honest_within : (c : Counters) (m : ℕ) (xs : List Entry) (k : ℕ) → IsHonest c m xs k → total_of c ≤ m
honest_within c m xs k h =
    let x : Bytes = replicate (longest xs + 1) 0 in
    let none : weight_of x xs ≡ 0 = no_weight (longest xs + 1) xs (omega arith) in
    let none_c : weight_of x c ≡ 0 = omega (arith, none, h.below x) in
    let zero : (k + 1) * weight_of x c ≡ 0 = ap (λ n. (k + 1) * n) none_c ∙ mul-zero (k + 1) in
    omega (arith, zero, h.near x)

-- k + 1 times what a counter lacks of its weight is no more than what all lack of the total
pub honest_near : (c : Counters) (m : ℕ) (xs : List Entry) (k : ℕ) → IsHonest c m xs k → (x : Bytes)
    → (k + 1) * (weight_of x xs - weight_of x c) ≤ m - total_of c
honest_near c m xs k h x =
    let parts : (k + 1) * weight_of x xs ≡ (k + 1) * weight_of x c + (k + 1) * (weight_of x xs - weight_of x c) = ap
    (λ n. (k + 1) * n) {x = weight_of x xs} {y = weight_of x c + (weight_of x xs - weight_of x c)}
    (omega (arith, h.below x)) ∙ mul-add (k + 1) _ _ in
    omega (arith, parts, h.near x, honest_within c m xs k h)

-- the weights make the total
same_total : (xs ys : List Entry) → ((x : Bytes) → weight_of x xs ≡ weight_of x ys) → total_of xs ≡ total_of ys
same_total xs ys same =
    let one : lower 0 (tally xs) ≡ lower 0 (tally ys) =
    same_counters _ _ (counters-lower 0 (tally xs) (rising-tally xs)) (counters-lower 0 (tally ys) (rising-tally ys))
    (λ x. omega (
      arith,
      weight_of-lower 0 x (tally xs) (rising-tally xs),
      weight_of-lower 0 x (tally ys) (rising-tally ys),
      weight_of-tally x xs,
      weight_of-tally x ys,
      same x,
    )) in
    omega (
      arith,
      total_of-lower_0 (tally xs),
      total_of-lower_0 (tally ys),
      total_of-tally xs,
      total_of-tally ys,
      ap total_of one,
    )

-- only the weights matter
pub honest_by_weights : (c : Counters) (m : ℕ) (xs ys : List Entry) (k : ℕ)
    → ((x : Bytes) → weight_of x xs ≡ weight_of x ys) → IsHonest c m xs k → IsHonest c m ys k
honest_by_weights c m xs ys k same h = record {
  counters = h.counters;
  counted = h.counted ∙ same_total xs ys same;
  few = h.few;
  below = λ x. omega (arith, same x, h.below x);
  near = λ x. omega (arith, ap (λ n. (k + 1) * n) (same x), h.near x);
}

-- so not the order of the items
pub honest_same : (c : Counters) (m : ℕ) (xs ys : List Entry) (k : ℕ) → IsPermutation xs ys → IsHonest c m xs k
    → IsHonest c m ys k
honest_same c m xs ys k p = honest_by_weights c m xs ys k (λ x. sym (sum_by-IsPermutation (at_key x) xs ys p))

-- ---- an item for which there is room
pub lower_none : (c : Counters) → IsCounters c → lower 0 c ≡ c
lower_none c h = same_counters _ _ (counters-lower 0 c h.rising) h
    (λ x. omega (arith, weight_of-lower 0 x c h.rising))

-- an item's counter is joined by adding it, less the level
join_one : (c : Counters) (e : Entry) (k : ℕ) → IsCounters c
    → join c (e ∷ []) k ≡ lower (level (add_at c e) k) (add_at c e)
join_one c e k h = ap (λ (d : Counters). lower (level d k) d) (plus_is_fold c (e ∷ []) h)

-- where there is room, the level is 0
pub join_room : (c : Counters) (e : Entry) (k : ℕ) → IsCounters c → 0 < e.1 → length (add_at c e) ≤ k
    → join c (e ∷ []) k ≡ add_at c e
join_room c e k h p few =
    join_one c e k h ∙ ap (λ t. lower t (add_at c e)) (level_few (add_at c e) k few)
    ∙ lower_none (add_at c e)
    (record { rising = rising-add_at c e h.rising; positive = positive-add_at c e h.positive p })

pub length-add_at : (c : Counters) (e : Entry) → length (add_at c e) ≤ length c + 1
length-add_at [] e = omega arith
length-add_at (d ∷ c) e = by_add_at (λ b. length b ≤ length (d ∷ c) + 1) c d e (λ _. omega arith) (λ _. omega arith)
    (λ _. omega (arith, length-add_at c e))

-- ---- a newcomer at its place
over-insert : (c : Counters) (i : ℕ) (e : Entry) (t : ℕ) → i ≤ length c → over (insert c i e) t ≡ over (e ∷ c) t
over-insert c zero e t l = refl
over-insert [] (suc i) e t l = absurd (omega arith)
over-insert (f ∷ c) (suc i) e t l =
    let rest = over-insert c i e t (omega arith) in
    omega (arith, over-cons f (insert c i e) t, rest, over-cons e (f ∷ c) t, over-cons f c t, over-cons e c t)

-- what is not above the level goes, so it need not have come
pub lower-insert : (t : ℕ) (c : Counters) (i : ℕ) (e : Entry) → i ≤ length c → e.1 ≤ t
    → lower t (insert c i e) ≡ lower t c
lower-insert t c zero e l h = by_lower (λ d. d ≡ lower t c) t e c (λ m. absurd (omega arith)) (λ m. refl)
lower-insert t [] (suc i) e l h = absurd (omega arith)
lower-insert t (f ∷ c) (suc i) e l h =
    lower-cons t f (insert c i e)
    ∙ ap (λ d. cond (nat_lt t f.1) ((f.0, f.1 - t) ∷ d) d) (lower-insert t c i e (omega arith) h)
    ∙ sym (lower-cons t f c)

-- where a newcomer makes k + 1 counters, the least of all is taken from each
pub join_full : (c : Counters) (i : ℕ) (e : Entry) (k : ℕ) → IsCounters c → i ≤ length c → length c ≡ k
    → insert c i e ≡ add_at c e → join c (e ∷ []) k ≡ lower (least_counter (e ∷ c)) (insert c i e)
join_full c i e k h l full is =
    let top = is_level (e ∷ c) k in
    let same : IsLevel (insert c i e) k (level (e ∷ c) k) = record {
      at_most = omega (arith, top.at_most, over-insert c i e (level (e ∷ c) k) l);
      least = λ s few. top.least s (omega (arith, few, over-insert c i e s l));
    } in
    join_one c e k h
    ∙ ap (λ d. lower (level d k) d) (sym is)
    ∙ ap (λ t. lower t (insert c i e)) (one_level (insert c i e) k _ _ (is_level (insert c i e) k) same
    ∙ level_one_more (e ∷ c) k (omega arith))

-- what is not above the least stays so beside a newcomer with that number
pub least_beside : (x : Bytes) (n : ℕ) (c : Counters) → n ≤ least_counter c → n ≤ least_counter ((x, n) ∷ c)
least_beside x n [] h = omega arith
least_beside x n (e ∷ c) h = from e.1 c h
  where
    from : (m : ℕ) (c : Counters) → n ≤ fold (λ n (d : Entry). min n d.1) m c
        → n ≤ fold (λ n (d : Entry). min n d.1) (min n m) c
    from m [] h = omega (arith, h)
    from m (e ∷ c) h =
        let both : min n (min m e.1) ≡ min (min n m) e.1 = omega arith in
        subst (λ l. n ≤ fold (λ n (d : Entry). min n d.1) l c) both (from (min m e.1) c h)
