-- What the keys that can exceed a floor tell, once they were counted.
use Rattle.std.proofs.Common.{◌≡◌, ℕ, suc, ◌+◌, ◌-◌, ◌*◌, ◌/◌, ◌<◌, ◌≤◌, ⊎_elim, ◌⊎◌, inl, inr, true, false, cond, List, [], ◌∷◌, length, refl, sym, ap, ◌∙◌, subst, mul-add, mul-le-mul_right, arith, filter, fold, nat_lt, take, zip, Contains}
use Rattle.std.specs.List.{AllByRecursion, IsDistinct}
use Rattle.std.specs.List.Sorted.{IsStrictlySortedBy}
use Rattle.std.specs.Map.{keys_of, values_of}
use Rattle.std.specs.Ordering.{is_lt}
use Rattle.std.proofs.lemmas.Bool.{cases_lt, cond_both}
use Rattle.std.proofs.lemmas.Bool.Decides.{nat_tests}
use Rattle.std.proofs.lemmas.List.Sums.{length-filter}
use Rattle.std.proofs.lemmas.List.Elements.{All-contains, All-contains_itself, All-map, All-weaker}
use Rattle.hh_stream.specs.Weights.{Bytes, Entry, key_cmp, same_key, total_of, weight_of}
use Rattle.hh_summaries.specs.Counters.{Counters, add_at, exceeds, level, over, tally}
use Rattle.hh_summaries.specs.Report.{by_rank, rank_cmp, ranked_in, weights_at}
use Rattle.hh_summaries.proofs.Level.{is_level, over-cons}
use Rattle.hh_summaries.proofs.Summaries.{total_of-cut}
use Rattle.hh_summaries.proofs.Weights.{Distinct, by_add_at, in_from_number, number_from_in, rising-tally, same_self, same_sym, weight_of-tally}
use Rattle.hh_summaries.proofs.Reports.{above_again, candidates, candidates_in, filter_in, keys_of-candidates, rising-filter, same_ranked, zip-weights_at}
use Rattle.hh_tally.specs.Tallies.{AreBounds, IsLoss, TallyView, unsure_of}
use Rattle.hh_top.specs.Top.{IsUncertain, ShortlistView, chosen_of, counted_of, floor_of, most_uncounted, nth_counter, rows_over, stand_out, top}
use Rattle.hh_top.proofs.Ranking.{first_rows, over_is_exact}

-- ---- how many rows there are
length-ranked_in : (ds : List Entry) (e : Entry) → length (ranked_in ds e) ≡ length ds + 1
length-ranked_in [] e = refl
length-ranked_in (d ∷ ds) e = cond_both (is_lt (rank_cmp e d)) _ _ (λ (l : List Entry). length l ≡ suc (length ds) + 1)
    (λ _. omega arith) (λ _. omega (arith, length-ranked_in ds e))

length-fold : (ds es : List Entry) → length (fold ranked_in ds es) ≡ length ds + length es
length-fold ds [] = omega arith
length-fold ds (e ∷ es) = omega (arith, length-fold (ranked_in ds e) es, length-ranked_in ds e)

-- as many as exceed the number
pub length-rows_over : (t : ℕ) (es : List Entry) → length (rows_over t es) ≡ over es t
unfolding by_rank
length-rows_over t es = omega (arith, length-fold [] (filter (exceeds t) es), length-filter (exceeds t) es)

-- ---- how many exceed a number
-- no entry has this key
abbrev IsApart : Bytes → List Entry → Type 0
IsApart x c = AllByRecursion (λ (d : Entry). same_key x d.0 ≡ false) c

over-add_at : (t : ℕ) (c : Counters) (e : Entry) → IsApart e.0 c → over (add_at c e) t ≡ over c t + cond (nat_lt t e.1) 1 0
over-add_at t [] e h = omega (arith, over-cons e [] t)
over-add_at t (d ∷ c) e h =
    by_add_at (λ (m : Counters). over m t ≡ over (d ∷ c) t + cond (nat_lt t e.1) 1 0) c d e
    (λ _. omega (arith, over-cons e (d ∷ c) t))
    (λ same. absurd (cc (h.0, same, same_self d.0)))
    (λ _. omega (arith, over-cons d (add_at c e) t, over-cons d c t, over-add_at t c e h.1))

apart-add_at : (x : Bytes) (c : Counters) (e : Entry) → same_key x e.0 ≡ false → IsApart x c → IsApart x (add_at c e)
apart-add_at x [] e p h = (p, tt)
apart-add_at x (d ∷ c) e p h = by_add_at (IsApart x) c d e (λ _. (p, h)) (λ _. h) (λ _. (h.0, apart-add_at x c e p h.1))

over-fold : (t : ℕ) (c : Counters) (es : List Entry) → Distinct es → AllByRecursion (λ (e : Entry). IsApart e.0 c) es
    → over (fold add_at c es) t ≡ over c t + over es t
unfolding IsDistinct
over-fold t c [] h apart = omega arith
over-fold t c (e ∷ es) h apart =
    omega (arith, over-fold t (add_at c e) es h.1 (still es h.0 apart.1), over-add_at t c e apart.0, over-cons e es t)
  where
    still : (fs : List Entry) → AllByRecursion (λ k. same_key e.0 k ≡ false) (keys_of fs)
        → AllByRecursion (λ (f : Entry). IsApart f.0 c) fs → AllByRecursion (λ (f : Entry). IsApart f.0 (add_at c e)) fs
    still [] d a = tt
    still (f ∷ fs) d a = (apart-add_at f.0 c e (same_sym f.0 e.0 ∙ d.0) a.0, still fs d.1 a.1)

-- of distinct keys as many exceed it by rising key
pub over-tally : (t : ℕ) (es : List Entry) → Distinct es → over (tally es) t ≡ over es t
unfolding tally
over-tally t es h = omega (arith, over-fold t [] es h (none es))
  where
    none : (fs : List Entry) → AllByRecursion (λ (f : Entry). IsApart f.0 []) fs
    none [] = tt
    none (f ∷ fs) = (tt, none fs)

-- no more exceed a greater number
pub over-falls : (s t : ℕ) (c : Counters) → s ≤ t → over c t ≤ over c s
over-falls s t [] le = omega arith
over-falls s t (e ∷ c) le = grind (arith, nat_tests, over-cons e c s, over-cons e c t, over-falls s t c le, le)

-- ---- keys with counters that bound weights
-- rows of equal weights are the same
pub rows_alike : (t : ℕ) (es xs : List Entry) → ((x : Bytes) → t < weight_of x es → weight_of x es ≡ weight_of x xs)
    → ((x : Bytes) → t < weight_of x xs → weight_of x es ≡ weight_of x xs)
    → IsStrictlySortedBy key_cmp (keys_of es) → rows_over t es ≡ rows_over t (tally xs)
rows_alike t es xs theirs ours rises =
    let (ranked, exact) = over_is_exact t es rises in
    let (all_ranked, all) = over_is_exact t (tally xs) (rising-tally xs) in
    same_ranked _ _ ranked all_ranked
    (λ x i. let j = (exact x).0 i in
    let is = number_from_in x es rises j.0 in
    let same = theirs x.0 (omega (arith, is, j.1)) in
    let tallied = weight_of-tally x.0 xs in
    let there = in_from_number x.0 (tally xs) (rising-tally xs) (omega (arith, is, same, tallied, j.1)) in
    (all x).1 (subst (λ n. Contains (tally xs) (x.0, n)) (tallied ∙ sym same ∙ is) there, j.1))
    (λ x i. let j = (all x).0 i in
    let is = number_from_in x (tally xs) (rising-tally xs) j.0 in
    let tallied = weight_of-tally x.0 xs in
    let same = ours x.0 (omega (arith, is, tallied, j.1)) in
    let there = in_from_number x.0 es rises (omega (arith, is, same, tallied, j.1)) in
    (exact x).1 (subst (λ n. Contains es (x.0, n)) (same ∙ sym tallied ∙ is) there, j.1))

module _ (t : TallyView) (xs : List Entry) (bounds : AreBounds t xs) (f : ℕ) (most : t.lost ≤ f) where
  abbrev them : Counters
  them = tally t.counters

  abbrev some : Counters
  some = filter (exceeds (f - t.lost)) them

  rising_some : IsStrictlySortedBy key_cmp (keys_of some)
  rising_some = rising-filter (exceeds (f - t.lost)) them (rising-tally t.counters)

  -- a counter is at most its key's weight, and lacks at most what was lost
  near : (x : Bytes) → (weight_of x them ≤ weight_of x xs) × (weight_of x xs ≤ weight_of x them + t.lost)
  near x = (
    omega (arith, weight_of-tally x t.counters, bounds.below x),
    omega (arith, weight_of-tally x t.counters, bounds.near x),
  )

  -- each of those that were counted has its weight
  counted_in : (x : Entry) → Contains (candidates some xs) x → x.1 ≡ weight_of x.0 xs
  counted_in x i =
      let g : Entry → Entry = λ e. (e.0, weight_of e.0 xs) in
      let P : Entry → Type 0 = λ x. x.1 ≡ weight_of x.0 xs in
      All-contains P (candidates some xs) x (All-map P g some
      (All-weaker (Contains some) (λ (e : Entry). P (g e)) (λ e j. refl) some (All-contains_itself some))) i

  -- a key that weighs more than the floor is one of them
  counted_over : (x : Bytes) → f < weight_of x xs → Contains (candidates some xs) (x, weight_of x xs)
  counted_over x more =
      let c = weight_of x them in
      let has : 0 < c = omega (arith, more, most, (near x).1) in
      let can : nat_lt (f - t.lost) c ≡ true = grind (arith, nat_tests, more, most, (near x).1) in
      candidates_in some xs (x, c) (filter_in (exceeds (f - t.lost)) (x, c) them
      (in_from_number x them (rising-tally t.counters) has) can)

  -- the rows over the floor are those of all keys
  rows_are_all : rows_over f (candidates some xs) ≡ rows_over f (tally xs)
  rows_are_all =
      let rises : IsStrictlySortedBy key_cmp (keys_of (candidates some xs)) =
      subst (IsStrictlySortedBy key_cmp) (sym (keys_of-candidates some xs)) rising_some in
      rows_alike f (candidates some xs) xs
      (λ x more. counted_in (x, weight_of x (candidates some xs))
      (in_from_number x (candidates some xs) rises (omega (arith, more))))
      (λ x more. number_from_in (x, weight_of x xs) (candidates some xs) rises (counted_over x more)) rises

  -- so are those of a count
  pub rows_counted : rows_over f (zip (keys_of some) (weights_at (keys_of some) xs)) ≡ rows_over f (tally xs)
  rows_counted = ap (rows_over f) (zip-weights_at some xs) ∙ rows_are_all

  -- each counter over the floor is one of these rows
  over_kept : (c : Counters) → AllByRecursion (λ (e : Entry). e.1 ≤ weight_of e.0 xs) c
      → over c f ≤ over (candidates (filter (exceeds (f - t.lost)) c) xs) f
  over_kept [] h = omega arith
  over_kept (e ∷ c) h =
      let w : Entry = (e.0, weight_of e.0 xs) in
      let rest = filter (exceeds (f - t.lost)) c in
      cond_both (exceeds (f - t.lost) e) (e ∷ rest) rest (λ (d : Counters). over (e ∷ c) f ≤ over (candidates d xs) f)
      (λ _. grind (arith, nat_tests, over-cons e c f, over-cons w (candidates rest xs) f, over_kept c h.1, h.0))
      (λ low. grind (arith, nat_tests, over-cons e c f, over_kept c h.1, low))

  below_all : (c : Counters) → ((e : Entry) → Contains c e → Contains them e)
      → AllByRecursion (λ (e : Entry). e.1 ≤ weight_of e.0 xs) c
  below_all [] h = tt
  below_all (e ∷ c) h = (
    omega (arith, number_from_in e them (rising-tally t.counters) (h e (0, omega arith, refl)), (near e.0).0),
    below_all c (λ x i. h x (suc i.0, omega (arith, i.1), i.2)),
  )

  pub rows_enough : over t.counters f ≤ length (rows_over f (tally xs))
  rows_enough = omega (
    arith,
    over-tally f t.counters bounds.distinct,
    over_kept them (below_all them (λ e i. i)),
    length-rows_over f (candidates some xs),
    ap length rows_are_all,
  )

-- where n counters stand out, as many keys weigh more than the floor
pub stand_out_enough : (list : ShortlistView) (xs : List Entry) → AreBounds list.tally xs
    → most_uncounted list.k list.tally < nth_counter list.n list.tally
    → list.n ≤ length (rows_over (floor_of list) (tally xs))
stand_out_enough list xs bounds out =
    let n = list.n in
    let t = list.tally in
    let f = floor_of list in
    let at : f ≡ nth_counter n t - 1 = omega (arith, out) in
    let enough = rows_enough t xs bounds f (omega (arith, at, out)) in
    ⊎_elim
    (λ (few : length (rows_over f (tally xs)) < n).
    absurd (omega (arith, (is_level t.counters (n - 1)).least f (omega (arith, enough, few)), at, out)))
    (λ (le : n ≤ length (rows_over f (tally xs))). le)
    (cases_lt (length (rows_over f (tally xs))) n)

-- what can't be counted is at most what k counters leave open
pub uncounted_is_little : (k : ℕ) (t : TallyView) → 2 * (k + 1) ≤ t.room.few → IsLoss t.room.few t.total t.lost t.counters
    → (k + 1) * most_uncounted k t ≤ t.total
uncounted_is_little k t share loss =
    let u = level t.counters k in
    let half : k + 1 ≤ t.room.few / 2 = omega (arith, share) in
    omega (
      arith,
      mul-add (k + 1) t.lost u,
      mul-le-mul_right t.lost half,
      total_of-cut t.counters k u (is_level t.counters k),
      loss,
    )

-- and so no more than the total
pub uncounted_fits : (k : ℕ) (t : TallyView) → 2 * (k + 1) ≤ t.room.few → IsLoss t.room.few t.total t.lost t.counters
    → most_uncounted k t ≤ t.total
uncounted_fits k t share loss =
    let one : 1 ≤ k + 1 = omega arith in
    omega (arith, uncounted_is_little k t share loss, mul-le-mul_right (most_uncounted k t) one)

-- where fewer than n keys weigh more than the floor, that is
pub floor_is_little : (list : ShortlistView) (xs : List Entry) → AreBounds list.tally xs
    → 2 * (list.k + 1) ≤ list.tally.room.few
    → IsLoss list.tally.room.few list.tally.total list.tally.lost list.tally.counters
    → length (rows_over (floor_of list) (tally xs)) < list.n → (list.k + 1) * floor_of list ≤ total_of xs
floor_is_little list xs bounds share loss few =
    let n = list.n in
    let k = list.k in
    let t = list.tally in
    ⊎_elim
    (λ (out : most_uncounted k t < nth_counter n t). absurd (omega (arith, stand_out_enough list xs bounds out, few)))
    (λ (le : nth_counter n t ≤ most_uncounted k t).
    let at : floor_of list ≡ most_uncounted k t = omega (arith, le) in
    rw at (omega (arith, uncounted_is_little k t share loss, bounds.counted)))
    (cases_lt (most_uncounted k t) (nth_counter n t))

-- ---- what is chosen, where all weights are known
-- the weights of chosen entries ds are those that a tally t tells by what was counted
pub all_weighed : (list : ShortlistView) (t : TallyView) → t ≡ list.tally → (es ds : List Entry) → es ≡ chosen_of list
    → ds ≡ es → (counted weights : List ℕ)
    → ((xs : List Entry) → AreBounds t xs → counted ≡ weights_at (keys_of (unsure_of t ds)) xs
    → weights ≡ weights_at (keys_of ds) xs)
    → (xs : List Entry) → AreBounds list.tally xs → counted ≡ weights_at (keys_of (counted_of list)) xs
    → weights ≡ weights_at (keys_of es) xs
all_weighed list t same es ds are is counted weights tells xs bounds weighed =
    tells xs (subst (λ (u : TallyView). AreBounds u xs) (sym same) bounds)
    (weighed ∙ (λ i. weights_at (keys_of (unsure_of (sym same i) (sym (is ∙ are) i))) xs))
    ∙ ap (λ (fs : List Entry). weights_at (keys_of fs) xs) is

module _ (list : ShortlistView) (f : ℕ) (is : f ≡ floor_of list) (es : List Entry) (are : es ≡ chosen_of list)
    (weights : List ℕ) (rows : List Entry) (chosen : rows ≡ rows_over f (zip (keys_of es) weights)) (xs : List Entry)
    (bounds : AreBounds list.tally xs) (weighed : weights ≡ weights_at (keys_of es) xs) where
  rows_are_over : rows ≡ rows_over f (tally xs)
  rows_are_over =
      let t = list.tally in
      let some = keys_of (filter (exceeds (f - t.lost)) (tally t.counters)) in
      let same : keys_of es ≡ some =
      ap (λ (ds : List Entry). keys_of ds) are ∙ ap (λ f. keys_of (filter (exceeds (f - t.lost)) (tally t.counters))) (sym is) in
      chosen ∙ ap (λ ns. rows_over f (zip (keys_of es) ns)) weighed
      ∙ ap (λ ks. rows_over f (zip ks (weights_at ks xs))) same ∙ rows_counted t xs bounds f (omega (arith, is))

  -- the first n of the rows, where they are as many or nothing weighs less, are the n greatest keys
  pub are_top : (list.n ≤ length rows) ⊎ (f ≡ 0) → (first : List Entry) → first ≡ take list.n rows → first ≡ top list.n xs
  are_top enough first is = is ∙ first_rows xs list.n f rows rows_are_over enough

  -- where they are fewer, they are certain, and no others
  pub are_uncertain : 2 * (list.k + 1) ≤ list.tally.room.few
      → IsLoss list.tally.room.few list.tally.total list.tally.lost list.tally.counters → 0 < f → length rows < list.n
      → IsUncertain xs list.n list.k (length rows) f
  are_uncertain share loss some few = record {
    few = few;
    some = some;
    counted = ap length rows_are_over;
    little = rw is (floor_is_little list xs bounds share loss (rw (← is) (omega (arith, few, ap length rows_are_over))));
  }

  -- which can't be where they stand out
  pub are_enough : stand_out list ≡ true → length rows < list.n → ⊥
  are_enough out few =
      let enough = stand_out_enough list xs bounds (grind (arith, nat_tests, out)) in
      let at = ap (λ f. length (rows_over f (tally xs))) is in
      omega (arith, few, ap length rows_are_over, at, enough)

-- where nothing was lost the counters are the weights
pub exact_top : (n f : ℕ) (t : TallyView) (xs : List Entry) → AreBounds t xs → t.lost ≡ 0 → f ≡ nth_counter n t - 1
    → (rows first : List Entry) → rows ≡ rows_over f (tally t.counters) → first ≡ take n rows → first ≡ top n xs
exact_top n f t xs bounds none is rows first are firsts =
    let exact : (x : Bytes) → weight_of x (tally t.counters) ≡ weight_of x xs =
    λ x. omega (arith, weight_of-tally x t.counters, bounds.below x, bounds.near x, none) in
    let alike = rows_alike f (tally t.counters) xs (λ x _. exact x) (λ x _. exact x) (rising-tally t.counters) in
    let count : length rows ≡ over t.counters f =
    ap length are ∙ length-rows_over f (tally t.counters) ∙ over-tally f t.counters bounds.distinct in
    let enough : (n ≤ length rows) ⊎ (f ≡ 0) = ⊎_elim
    (λ (few : length rows < n). inr (⊎_elim
    (λ (low : nth_counter n t < 2). omega (arith, low, is))
    (λ (high : 2 ≤ nth_counter n t).
    absurd (omega (arith, (is_level t.counters (n - 1)).least f (omega (arith, count, few)), is, high)))
    (cases_lt (nth_counter n t) 2)))
    (λ (le : n ≤ length rows). inl le) (cases_lt (length rows) n) in
    firsts ∙ first_rows xs n f rows (are ∙ alike) enough

-- the counters above a floor that is no lower are at most as many as are counted
pub chosen_few : (k d : ℕ) (t : TallyView) (c : Counters) → level t.counters k ≤ d → length c ≡ over t.counters d
    → length c ≤ k
chosen_few k d t c least count = omega (
  arith,
  count,
  over-falls (level t.counters k) d t.counters least,
  (is_level t.counters k).at_most,
)

-- ---- entries as rows
-- entries have the keys and the numbers that they are made of
pub zip_again : (es : List Entry) → zip (keys_of es) (values_of es) ≡ es
zip_again [] = refl
zip_again (e ∷ es) = ap (λ (ds : List Entry). e ∷ ds) (zip_again es)

-- those that exceed a number have the rows over it
pub rows_again : (t : ℕ) (es : List Entry) → rows_over t (filter (exceeds t) es) ≡ rows_over t es
rows_again t es = ap by_rank (above_again t es)
