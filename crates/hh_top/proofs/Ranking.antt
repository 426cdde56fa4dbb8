-- The first of ranked entries.
use Rattle.std.proofs.Common.{◌≡◌, ℕ, zero, suc, ◌*◌, ◌<◌, ◌≤◌, ⊎_elim, ◌⊎◌, inl, inr, Bool, true, false, List, [], ◌∷◌, length, get_or, Ordering, Less, Equal, Greater, is_lt, refl, sym, ap, ◌∙◌, subst, take, arith, filter, mul-zero, mul-le-mul_left, Contains, ◌↔◌}
use Rattle.std.specs.Cmp.{nat_cmp_is}
use Rattle.std.specs.List.{AllByRecursion}
use Rattle.std.specs.List.Sorted.{IsStrictlySortedBy}
use Rattle.std.specs.Map.{keys_of}
use Rattle.std.specs.Ordering.{ordering_then}
use Rattle.std.proofs.lemmas.Bool.{cases_lt, cond_both}
use Rattle.std.proofs.lemmas.Bool.Decides.{nat_tests}
use Rattle.std.proofs.lemmas.List.{take_all, take-take, length-take, get_or-take, get_or_default}
use Rattle.std.proofs.lemmas.Map.Keys.{Less-from_sorted}
use Rattle.hh_stream.specs.Weights.{Bytes, Entry, key_cmp, total_of, weight_of}
use Rattle.hh_summaries.specs.Counters.{tally}
use Rattle.hh_summaries.specs.Report.{by_rank, heavy, is_heavy, rank_cmp, rows_above}
use Rattle.hh_summaries.proofs.Weights.{in_from_number, number_from_in, rising-tally, weight_of-tally}
use Rattle.hh_summaries.proofs.Reports.{filter_in, in_filter, over_whole, rank_total, ranked-filter, rows_are_exact, same_ranked}
use Rattle.hh_top.specs.Top.{IsTop, ranking, rows_over, top}

-- ---- what comes before
-- what comes before an entry weighs no less
first_weighs : (d e : Entry) → rank_cmp d e ≡ Less → e.1 ≤ d.1
first_weighs d e p = ⊎_elim
    (λ (more : d.1 < e.1).
    absurd (cc (ap (λ r. ordering_then r (key_cmp d.0 e.0)) (nat_cmp_is e.1 d.1 Greater more), p)))
    (λ (le : e.1 ≤ d.1). le) (cases_lt d.1 e.1)

-- a test that an entry passes where one passes that weighs no more
abbrev IsUpward : (Entry → Bool) → Type 0
IsUpward p = (d e : Entry) → e.1 ≤ d.1 → p e ≡ true → p d ≡ true

-- behind an entry that fails it none passes
none_behind : (p : Entry → Bool) → IsUpward p → (d : Entry) → p d ≡ false → (es : List Entry)
    → AllByRecursion (λ e. rank_cmp d e ≡ Less) es → filter p es ≡ []
none_behind p up d low [] h = refl
none_behind p up d low (e ∷ es) h =
    cond_both (p e) (e ∷ filter p es) (filter p es) (λ l. l ≡ [])
    (λ high. absurd (cc (up d e (first_weighs d e h.0) high, low))) (λ _. none_behind p up d low es h.1)

-- of ranked entries the first pass it
first_pass : (p : Entry → Bool) → IsUpward p → (es : List Entry) → IsStrictlySortedBy rank_cmp es
    → filter p es ≡ take (length (filter p es)) es
unfolding IsStrictlySortedBy
first_pass p up [] h = refl
first_pass p up (d ∷ es) h =
    cond_both (p d) (d ∷ filter p es) (filter p es) (λ l. l ≡ take (length l) (d ∷ es))
    (λ _. ap (λ (l : List Entry). d ∷ l) (first_pass p up es h.1))
    (λ low. subst (λ (l : List Entry). l ≡ take (length l) (d ∷ es)) (sym (none_behind p up d low es h.0)) refl)

-- ---- rows and the ranking
-- the rows over a number are those above the whole of it
pub over_is_above : (t : ℕ) (es : List Entry) → rows_over t es ≡ rows_above 1 1 t es
over_is_above t es = ap by_rank (sym (over_whole t es))

-- of distinct keys the rows over a number are those that exceed it, in order
pub over_is_exact : (t : ℕ) (es : List Entry) → IsStrictlySortedBy key_cmp (keys_of es)
    → IsStrictlySortedBy rank_cmp (rows_over t es)
    × ((e : Entry) → Contains (rows_over t es) e ↔ (Contains es e × (t < e.1)))
over_is_exact t es h =
    let (ranked, exact) = rows_are_exact 1 1 t es h in (
      rw (over_is_above t es) ranked,
      λ e. (
        λ i. let j = (exact e).0 (rw (over_is_above t es) at i) in (j.0, omega (arith, j.1)),
        λ j. rw (over_is_above t es) ((exact e).1 (j.0, omega (arith, j.1))),
      ),
    )

-- the rows above a share are those of all rows that are above it
above_of_all : (p q n : ℕ) (es : List Entry) → IsStrictlySortedBy key_cmp (keys_of es)
    → rows_above p q n es ≡ filter (is_heavy p q n) (rows_over 0 es)
above_of_all p q n es h =
    let (ranked, exact) = rows_are_exact p q n es h in
    let (all_ranked, all) = over_is_exact 0 es h in
    same_ranked _ _ ranked (ranked-filter (is_heavy p q n) (rows_over 0 es) all_ranked)
    (λ x i. let j = (exact x).0 i in
    filter_in (is_heavy p q n) x (rows_over 0 es) ((all x).1 (j.0, weighs p q n x j.1)) (grind (arith, nat_tests, j.1)))
    (λ x i. let f = in_filter (is_heavy p q n) x (rows_over 0 es) i in
    (exact x).1 (((all x).0 f.0).0, grind (arith, nat_tests, f.1)))
  where
    weighs : (p q n : ℕ) (e : Entry) → p * n < q * e.1 → 0 < e.1
    weighs p q n e l = grind (arith, l, mul-zero q)

is_upward : (p q n : ℕ) → IsUpward (is_heavy p q n)
is_upward p q n d e le high = grind (arith, nat_tests, high, mul-le-mul_left q le)

-- so they are the first of all rows
pub first_of_all : (p q n : ℕ) (es : List Entry) → IsStrictlySortedBy key_cmp (keys_of es)
    → rows_above p q n es ≡ take (length (rows_above p q n es)) (rows_over 0 es)
first_of_all p q n es h =
    let same = above_of_all p q n es h in
    same ∙ first_pass (is_heavy p q n) (is_upward p q n) (rows_over 0 es) (over_is_exact 0 es h).0
    ∙ ap (λ (l : List Entry). take (length l) (rows_over 0 es)) (sym same)

-- and the rows over a number, too
pub over_first : (t : ℕ) (es : List Entry) → IsStrictlySortedBy key_cmp (keys_of es)
    → rows_over t es ≡ take (length (rows_over t es)) (rows_over 0 es)
over_first t es h = rw (over_is_above t es) (first_of_all 1 1 t es h)

-- the keys of a report are the first of all
pub report_is_first : (xs : List Entry) (p q : ℕ) → heavy xs p q ≡ top (length (heavy xs p q)) xs
report_is_first xs p q = first_of_all p q (total_of xs) (tally xs) (rising-tally xs)

-- the n first of rows that are at least n, or are all keys, are the n greatest keys
pub first_rows : (xs : List Entry) (n t : ℕ) (rows : List Entry) → rows ≡ rows_over t (tally xs)
    → (n ≤ length rows) ⊎ (t ≡ 0) → take n rows ≡ top n xs
first_rows xs n t rows is (inl enough) =
    let first = is ∙ over_first t (tally xs) (rising-tally xs)
    ∙ ap (λ (l : List Entry). take (length l) (ranking xs)) (sym is) in
    ap (take n) first ∙ take-take n (length rows) (ranking xs) enough
first_rows xs n t rows is (inr none) = ap (take n) (is ∙ ap (λ t. rows_over t (tally xs)) none)

-- ---- the greatest keys are exact
all_take : (P : Entry → Type 0) (n : ℕ) (es : List Entry) → AllByRecursion P es → AllByRecursion P (take n es)
all_take P zero es h = tt
all_take P (suc n) [] h = tt
all_take P (suc n) (e ∷ es) h = (h.0, all_take P n es h.1)

ranked_take : (n : ℕ) (es : List Entry) → IsStrictlySortedBy rank_cmp es → IsStrictlySortedBy rank_cmp (take n es)
unfolding IsStrictlySortedBy
ranked_take zero es h = tt
ranked_take (suc n) [] h = tt
ranked_take (suc n) (e ∷ es) h = (all_take (λ f. rank_cmp e f ≡ Less) n es h.0, ranked_take n es h.1)

in_take : (n : ℕ) (es : List Entry) (e : Entry) → Contains (take n es) e → Contains es e
in_take n es e (k, l, is) =
    let long = length-take n es in
    (k, omega (arith, l, long), sym (get_or-take n es k e (omega (arith, l, long))) ∙ is)

-- what comes before one of the first is one of them
before_first : (n : ℕ) (es : List Entry) → IsStrictlySortedBy rank_cmp es → (d e : Entry) → Contains (take n es) e
    → Contains es d → rank_cmp d e ≡ Less → Contains (take n es) d
before_first n es h d e (k, l, is) (j, m, at) before =
    let long = length-take n es in
    let here : get_or es k e ≡ e = sym (get_or-take n es k e (omega (arith, l, long))) ∙ is in
    ⊎_elim
    (λ (less : j < n). (j, omega (arith, m, long, less), get_or-take n es j d less ∙ at))
    (λ (more : n ≤ j).
    let after : rank_cmp (get_or es k e) (get_or es j e) ≡ Less =
    Less-from_sorted rank_cmp es k j e h (omega (arith, l, long, more)) m in
    let there : get_or es j e ≡ d = get_or_default es j e d m ∙ at in
    absurd (cc (after, here, there, before, rank_total.antisymm d e)))
    (cases_lt j n)

-- a key with its weight is among all
pub in_ranking : (xs : List Entry) (x : Bytes) → 0 < weight_of x xs → Contains (ranking xs) (x, weight_of x xs)
in_ranking xs x some =
    let same = weight_of-tally x xs in
    let there = in_from_number x (tally xs) (rising-tally xs) (omega (arith, same, some)) in
    ((over_is_exact 0 (tally xs) (rising-tally xs)).1 (x, weight_of x xs)).1
    (subst (λ n. Contains (tally xs) (x, n)) same there, some)

pub ranking_in : (xs : List Entry) (e : Entry) → Contains (ranking xs) e → (e.1 ≡ weight_of e.0 xs) × (0 < e.1)
ranking_in xs e i =
    let j = ((over_is_exact 0 (tally xs) (rising-tally xs)).1 e).0 i in
    (sym (number_from_in e (tally xs) (rising-tally xs) j.0) ∙ weight_of-tally e.0 xs, j.1)

-- the first n of all keys are the n greatest
pub top_is_exact : (xs : List Entry) (n : ℕ) → IsTop xs n (top n xs)
top_is_exact xs n =
    let ranked = (over_is_exact 0 (tally xs) (rising-tally xs)).0 in
    let long = length-take n (ranking xs) in
    record {
      ranked = ranked_take n (ranking xs) ranked;
      exact = λ e i. ranking_in xs e (in_take n (ranking xs) e i);
      greatest = λ d e i weighs before.
          let less = less_from_is_lt (rank_cmp d e) before in
          let some = (ranking_in xs e (in_take n (ranking xs) e i)).1 in
          let there = in_ranking xs d.0 (omega (arith, weighs, some, first_weighs d e less)) in
          before_first n (ranking xs) ranked d e i
          (subst (λ w. Contains (ranking xs) (d.0, w)) (sym weighs) there) less;
      few = omega (arith, long);
      all = λ short x some. subst (λ (l : List Entry). Contains l (x, weight_of x xs))
          (sym (take_all n (ranking xs) (omega (arith, long, short)))) (in_ranking xs x some);
    }
  where
    less_from_is_lt : (r : Ordering) → is_lt r ≡ true → r ≡ Less
    less_from_is_lt Less h = refl
    less_from_is_lt Equal h = absurd (cc)
    less_from_is_lt Greater h = absurd (cc)
