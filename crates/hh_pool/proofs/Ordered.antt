-- Summaries sorted by their numbers, where each number below a count came once.
use Rattle.std.proofs.Common.{◌≡◌, ◌+◌, ◌-◌, ◌<◌, ◌≤◌, ◌==◌, ◌∙◌, ℕ, zero, suc, List, length, take, drop, get_or, map, refl, sym, ap, add-zero, zero-add, eq-eqb, ⊎_elim, arith, All, IsPermutation}
use Rattle.std.specs.List.{range_with_len}
use Rattle.std.specs.List.Sorted.{IsSortedBy, IsStrictlyIncreasing}
use Rattle.std.specs.Ordering.{is_lt, nat_cmp}
use Rattle.std.proofs.lemmas.Bool.{cases_lt}
use Rattle.std.proofs.lemmas.List.{get_or-map, length-map, take-append-drop}
use Rattle.std.proofs.lemmas.List.FromFn.{fill_by_all}
use Rattle.std.proofs.lemmas.List.Sorted.{All-permutation, IsPermutation-map, sum_by-IsPermutation}
use Rattle.std.proofs.lemmas.List.Sums.{count_by_more_yes}
use Rattle.std.proofs.lemmas.Map.Keys.{ge_from_not_lt}
use Rattle.hh_summaries.specs.Counters.{SummaryView}
use Rattle.hh_shared.specs.Numbers.{times, IsDistinctBelow, HasAllBelow}
use Rattle.hh_pool.specs.Trees.{no_sketch}
use Rattle.hh_shared.proofs.NumberFacts.{all-length, times-append}

-- how often a number stands in the list up to its place, and in the whole list
up_to : (xs : List ℕ) (k j : ℕ) → k < length xs → get_or xs k 0 ≡ j
    → times j (take (k + 1) xs) ≡ times j (take k xs) + 1
up_to xs k j within is = count_by_more_yes (λ x. x == j) xs k 0 within (eq-eqb (get_or xs k 0) j is)

within-whole : (xs : List ℕ) (k j : ℕ) → times j (take k xs) ≤ times j xs
within-whole xs k j = omega (arith, ap (times j) (take-append-drop k xs), times-append j (take k xs) (drop k xs))

stands : (xs : List ℕ) (k : ℕ) → k < length xs → 0 < times (get_or xs k 0) xs
stands xs k within = omega (arith, up_to xs k (get_or xs k 0) within refl, within-whole xs (k + 1) (get_or xs k 0))

-- a number at two neighbouring places stands twice
twice : (xs : List ℕ) (k : ℕ) → k + 1 < length xs → get_or xs (k + 1) 0 ≡ get_or xs k 0 → 1 < times (get_or xs k 0) xs
twice xs k within same =
    let j = get_or xs k 0 in
    omega (arith, up_to xs k j (omega arith) refl, up_to xs (k + 1) j within same, within-whole xs (k + 1 + 1) j)

-- rising numbers are at least as far apart as their places
climbs : (xs : List ℕ) → IsStrictlyIncreasing xs → (i d : ℕ) → i + d < length xs
    → get_or xs i 0 + d ≤ get_or xs (i + d) 0
climbs xs rises i zero within = omega (arith, ap (λ j. get_or xs j 0) (add-zero i))
climbs xs rises i (suc d) within =
    let next : i + suc d ≡ i + d + 1 = omega arith in
    omega (arith, climbs xs rises i d (omega arith), rises (i + d) (omega arith), ap (λ j. get_or xs j 0) next)

-- so n of them below n are 0, 1 and so on
numbered : (xs : List ℕ) (n : ℕ) → IsStrictlyIncreasing xs → length xs ≡ n → ((i : ℕ) → i < n → get_or xs i 0 < n)
    → (i : ℕ) → i < n → get_or xs i 0 ≡ i
numbered xs n rises count below i low =
    let last : i + (n - 1 - i) ≡ n - 1 = omega (arith, low) in
    let first = ap (λ j. get_or xs j 0) (zero-add i) in
    let end = ap (λ j. get_or xs j 0) last in
    let above = climbs xs rises i (n - 1 - i) (omega arith) in
    omega (arith, climbs xs rises 0 i (omega arith), first, above, end, below (n - 1) (omega arith))

rising : (xs : List ℕ) → ((k : ℕ) → k + 1 < length xs → get_or xs k 0 ≤ get_or xs (k + 1) 0)
    → ((j : ℕ) → times j xs < 2) → IsStrictlyIncreasing xs
rising xs ordered once k within = ⊎_elim
    (λ (low : get_or xs k 0 < get_or xs (k + 1) 0). low)
    (λ (high : get_or xs (k + 1) 0 ≤ get_or xs k 0).
    let same : get_or xs (k + 1) 0 ≡ get_or xs k 0 = omega (arith, high, ordered k within) in
    absurd (omega (arith, twice xs k within same, once (get_or xs k 0))))
    (cases_lt (get_or xs k 0) (get_or xs (k + 1) 0))

-- sorted by their numbers, the summaries are those of 0, 1 and so on
pub ordered : (f : ℕ → SummaryView) (n : ℕ) (found sorted : List (ℕ × SummaryView))
    → All (λ (it : ℕ × SummaryView). it.1 ≡ f it.0) found → IsDistinctBelow n (map (λ (it : ℕ × SummaryView). it.0) found)
    → HasAllBelow n (map (λ (it : ℕ × SummaryView). it.0) found)
    → IsPermutation found sorted → IsSortedBy (λ (x y : ℕ × SummaryView). is_lt (nat_cmp x.0 y.0)) sorted
    → map (λ (it : ℕ × SummaryView). it.1) sorted ≡ map f (range_with_len 0 n)
ordered f n found sorted theirs distinct all perm sort =
    let d : ℕ × SummaryView = (0, no_sketch) in
    let number : ℕ × SummaryView → ℕ = λ it. it.0 in
    let were = map number found in
    let are = map number sorted in
    let same : (j : ℕ) → times j are ≡ times j were =
    λ j. sum_by-IsPermutation _ were are (IsPermutation-map number found sorted perm) in
    let once : IsDistinctBelow n are = record {
      once = λ i. omega (arith, same i, distinct.once i);
      below = λ i some. distinct.below i (omega (arith, some, same i));
    } in
    let count : length are ≡ n =
    all-length n are once (record { has = λ i low. omega (arith, same i, all.has i low) }) in
    let long : length sorted ≡ n = sym (length-map sorted number) ∙ count in
    let below : (i : ℕ) → i < n → get_or are i 0 < n =
    λ i low. once.below (get_or are i 0) (stands are i (omega arith)) in
    let rises : IsStrictlyIncreasing are = rising are (λ k within.
    let inside : k + 1 < length sorted = omega (arith, within, length-map sorted number) in
    let here = get_or-map number sorted k d 0 (omega arith) in
    let next = get_or-map number sorted (k + 1) d 0 inside in
    let risen = ge_from_not_lt (get_or sorted (k + 1) d).0 (get_or sorted k d).0 (sort k d (omega arith) inside) in
    omega (arith, here, next, risen))
    once.once in
    fill_by_all f (map (λ (it : ℕ × SummaryView). it.1) sorted) n no_sketch (length-map sorted (λ (it : ℕ × SummaryView). it.1)
    ∙ long) (λ i low.
    let inside : i < length sorted = omega arith in
    let at : (get_or sorted i d).0 ≡ i = sym (get_or-map number sorted i d 0 inside)
    ∙ numbered are n rises count below i low in
    get_or-map (λ (it : ℕ × SummaryView). it.1) sorted i d no_sketch inside
    ∙ (All-permutation (λ (it : ℕ × SummaryView). it.1 ≡ f it.0) found sorted perm theirs i d inside ∙ ap f at))
