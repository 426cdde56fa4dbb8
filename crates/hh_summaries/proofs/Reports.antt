-- The report holds exactly the heavy keys, in order, and each of them has a counter in honest counters.
use Rattle.std.proofs.Common.{◌≡◌, ℕ, suc, ◌+◌, ◌*◌, ◌<◌, ◌≤◌, ⊎_elim, Bool, true, false, true≢false, not, cond, Option, Some, None, List, [], ◌∷◌, length, Ordering, Less, Equal, Greater, is_lt, is_eq, nat_cmp, refl, sym, ap, ap₂, ◌∙◌, subst, mul_comm, mul_assoc, mul-le-mul_left, mul-le-mul_right, mul-zero, arith, map, fold, filter, nat_lt, zip, get_or, take, ◌++◌, ◌↔◌, Contains, IsPermutation, IsSortedBy, All}
use Rattle.std.specs.List.{AllByRecursion}
use Rattle.std.specs.List.Sorted.{IsStrictlySortedBy}
use Rattle.std.specs.Prelude.{unwrap_or}
use Rattle.std.specs.Map.{keys_of, lookup}
use Rattle.std.specs.Cmp.{IsTotalOrder, eq_by_cmp_equiv}
use Rattle.std.specs.Ordering.{ordering_reverse, ordering_then}
use Rattle.std.proofs.lemmas.Cmp.{nat_cmp_total, then_total, back_total, on_total}
use Rattle.std.proofs.Math.Nat.{one-mul}
use Rattle.std.proofs.lemmas.Bool.{cases_lt, cond_both}
use Rattle.std.proofs.lemmas.Bool.Decides.{nat_tests}
use Rattle.std.proofs.lemmas.Map.Keys.{Less-from_sorted, IsDistinct-IsPermutation, IsDistinct-from_sorted, apart_from_distinct, sorted_from_all_adjacent}
use Rattle.std.proofs.lemmas.Map.Entries.{length-keys_of, lookup-filter-values, option_filter}
use Rattle.std.proofs.lemmas.Map.Made.{IsDistinct-keys_filter, keys_of-zip}
use Rattle.std.proofs.lemmas.List.{get_or-map, append-nil, length-map}
use Rattle.std.proofs.lemmas.List.Sorted.{IsPermutation-refl, IsPermutation-trans, IsPermutation-cons, IsPermutation-middle, IsPermutation-append_left, IsPermutation-filter_both, IsPermutation-map, IsPermutation-sym, All-permutation, Contains-permutation, length_permutation, sum_by-IsPermutation}
use Rattle.std.proofs.lemmas.List.Elements.{filter_more, filter_passes, All-filter, All-map, All-weaker, All-contains, All-contains_itself, All-from_recursion, recursion_from_All, Contains-append_cases, Contains-get_or}
use Rattle.std.proofs.lemmas.List.Kept.{IsStrictlySortedBy-filter}
use Rattle.std.proofs.lemmas.Slice.Zip.{get_or-zip, length-zip}
use Rattle.hh_stream.specs.Weights.{Bytes, Entry, key_cmp, same_key, at_key, weight_of, total_of}
use Rattle.hh_summaries.specs.Counters.{Counters, IsCounters, IsHonest, exceeds, less_by, lower, tally}
use Rattle.hh_summaries.specs.Report.{rank_cmp, ranked_in, by_rank, is_heavy, rows_above, heavy, weights_at, has_counter, IsReport}
use Rattle.hh_summaries.proofs.Weights.{Distinct, counters-tally, same_sym, key_total, rising-tally, weight_of-lookup, weight_of-tally, flipped, number_from_in, positive_in, in_from_number, same_counters, same_rising}
use Rattle.hh_summaries.proofs.Places.{counters_from_places}

-- ---- members
-- what passes a test in a list is in it and passes
pub in_filter : (p : Entry → Bool) (x : Entry) (xs : List Entry) → Contains (filter p xs) x
    → Contains xs x × (p x ≡ true)
in_filter p x xs i = (
  All-contains (Contains xs) (filter p xs) x (All-filter p (Contains xs) xs (All-contains_itself xs)) i,
  All-contains (λ y. p y ≡ true) (filter p xs) x (filter_passes p xs) i,
)

-- and the other way round
pub filter_in : (p : Entry → Bool) (x : Entry) (xs : List Entry) → Contains xs x → p x ≡ true
    → Contains (filter p xs) x
filter_in p x xs i h =
    let q : Entry → Bool = λ y. not (p y) in
    ⊎_elim (λ (j : Contains (filter p xs) x). j)
    (λ (j : Contains (filter q xs) x). absurd (true≢false (sym (in_filter q x xs j).1 ∙ ap not h)))
    (Contains-append_cases (filter p xs) (filter q xs) x
    (Contains-permutation xs _ x (IsPermutation-filter_both p q (λ y. refl) xs) i))

-- ---- the order of the report
-- the order of the report is total
pub rank_total : IsTotalOrder rank_cmp
rank_total =
    then_total (back_total (on_total (λ (e : Entry). e.1) nat_cmp_total)) (on_total (λ (e : Entry). e.0) key_total)

rank_ties : (d e : Entry) → rank_cmp d e ≡ Equal → key_cmp d.0 e.0 ≡ Equal
rank_ties d e = by (nat_cmp e.1 d.1)
  where
    by : (r : Ordering) → ordering_then r (key_cmp d.0 e.0) ≡ Equal → key_cmp d.0 e.0 ≡ Equal
    by Less p = absurd (cc)
    by Equal p = p
    by Greater p = absurd (cc)

-- an entry put at its place is one more
ranked_in_permutes : (ds : List Entry) (e : Entry) → IsPermutation (e ∷ ds) (ranked_in ds e)
ranked_in_permutes [] e = IsPermutation-refl (e ∷ [])
ranked_in_permutes (d ∷ ds) e = cond_both (is_lt (rank_cmp e d)) _ _ (IsPermutation (e ∷ d ∷ ds))
    (λ _. IsPermutation-refl (e ∷ d ∷ ds))
    (λ _. IsPermutation-trans _ _ _ (IsPermutation-middle (e ∷ []) d ds)
    (IsPermutation-cons d (e ∷ ds) (ranked_in ds e) (ranked_in_permutes ds e)))

all-ranked_in : (P : Entry → Type 0) (ds : List Entry) (e : Entry) → P e → AllByRecursion P ds
    → AllByRecursion P (ranked_in ds e)
all-ranked_in P ds e p h = recursion_from_All P _ (All-permutation P (e ∷ ds) (ranked_in ds e)
    (ranked_in_permutes ds e) (All-from_recursion P (e ∷ ds) (p, h)))

all_map : (P Q : Entry → Type 0) → ((x : Entry) → P x → Q x) → (xs : List Entry) → AllByRecursion P xs
    → AllByRecursion Q xs
all_map P Q f [] h = h
all_map P Q f (x ∷ xs) h = (f x h.0, all_map P Q f xs h.1)

sorted-ranked_in : (ds : List Entry) (e : Entry) → IsStrictlySortedBy rank_cmp ds
    → AllByRecursion (λ (d : Entry). key_cmp d.0 e.0 ≡ Less) ds → IsStrictlySortedBy rank_cmp (ranked_in ds e)
unfolding IsStrictlySortedBy
sorted-ranked_in [] e h a = (tt, tt)
sorted-ranked_in (d ∷ ds) e h a =
    elim (rank_cmp e d) as (λ r. rank_cmp e d ≡ r → IsStrictlySortedBy rank_cmp
    (cond (is_lt r) (e ∷ d ∷ ds) (d ∷ ranked_in ds e))) [
      | Less ↦ λ p. ((p, all_map _ _ (λ f q. rank_total.trans e d f p q) ds h.0), h)
      | Equal ↦ λ p. absurd (cc (rank_ties e d p, flipped d.0 e.0 Less a.0))
      | Greater ↦ λ p. (
        all-ranked_in (λ f. rank_cmp d f ≡ Less) ds e (rank_total.antisymm d e ∙ ap ordering_reverse p) h.0,
        sorted-ranked_in ds e h.1 a.1,
      )
    ] refl

sorted_from : (ds es : List Entry) → IsStrictlySortedBy rank_cmp ds → IsStrictlySortedBy key_cmp (keys_of es)
    → ((e : Entry) → Contains es e → AllByRecursion (λ (d : Entry). key_cmp d.0 e.0 ≡ Less) ds)
    → IsStrictlySortedBy rank_cmp (fold ranked_in ds es)
unfolding IsStrictlySortedBy
sorted_from ds [] h g b = h
sorted_from ds (e ∷ es) h g b =
    sorted_from (ranked_in ds e) es (sorted-ranked_in ds e h (b e (0, omega arith, refl))) g.1 (λ f i.
    all-ranked_in (λ (d : Entry). key_cmp d.0 f.0 ≡ Less) ds e
    (All-contains (λ (f : Entry). key_cmp e.0 f.0 ≡ Less) es f (above e.0 es g.0) i)
    (b f (suc i.0, omega (arith, i.1), i.2)))
  where
    above : (z : Bytes) (es : List Entry) → AllByRecursion (λ k. key_cmp z k ≡ Less) (keys_of es)
        → All (λ (f : Entry). key_cmp z f.0 ≡ Less) es
    above z es h j d l = subst (λ k. key_cmp z k ≡ Less) (get_or-map (λ (f : Entry). f.0) es j d d.0 l)
        (All-from_recursion (λ k. key_cmp z k ≡ Less) (keys_of es) h j d.0 (omega (arith, l, length-keys_of es)))

sorted-by_rank : (es : List Entry) → IsStrictlySortedBy key_cmp (keys_of es)
    → IsStrictlySortedBy rank_cmp (by_rank es)
unfolding by_rank IsStrictlySortedBy
sorted-by_rank es h = sorted_from [] es tt h (λ _ _. tt)

by_rank_from : (ds es : List Entry) → IsPermutation (ds ++ es) (fold ranked_in ds es)
by_rank_from ds [] = subst (λ (l : List Entry). IsPermutation l ds) (sym (append-nil ds)) (IsPermutation-refl ds)
by_rank_from ds (e ∷ es) = IsPermutation-trans _ _ _ (IsPermutation-middle ds e es) (IsPermutation-trans _ _ _
    (IsPermutation-append_left es (e ∷ ds) (ranked_in ds e) (ranked_in_permutes ds e))
    (by_rank_from (ranked_in ds e) es))

by_rank_permutes : (es : List Entry) → IsPermutation es (by_rank es)
unfolding by_rank
by_rank_permutes es = by_rank_from [] es

in-by_rank : (x : Entry) (es : List Entry) → Contains (by_rank es) x → Contains es x
in-by_rank x es i = Contains-permutation (by_rank es) es x (IsPermutation-sym es (by_rank es) (by_rank_permutes es)) i

by_rank-in : (x : Entry) (es : List Entry) → Contains es x → Contains (by_rank es) x
by_rank-in x es i = Contains-permutation es (by_rank es) x (by_rank_permutes es) i

-- ---- filters of counters
above-filter : (p : Entry → Bool) (z : Bytes) (c : Counters) → AllByRecursion (λ y. key_cmp z y ≡ Less) (keys_of c)
    → AllByRecursion (λ y. key_cmp z y ≡ Less) (keys_of (filter p c))
above-filter p z [] h = h
above-filter p z (e ∷ c) h = cond_both (p e) _ _ (λ d. AllByRecursion (λ y. key_cmp z y ≡ Less) (keys_of d))
    (λ _. (h.0, above-filter p z c h.1)) (λ _. above-filter p z c h.1)

-- the keys of counters that pass a test rise
pub rising-filter : (p : Entry → Bool) (c : Counters) → IsStrictlySortedBy key_cmp (keys_of c)
    → IsStrictlySortedBy key_cmp (keys_of (filter p c))
unfolding IsStrictlySortedBy
rising-filter p [] h = h
rising-filter p (e ∷ c) h = cond_both (p e) _ _ (λ (d : Counters). IsStrictlySortedBy key_cmp (keys_of d))
    (λ _. (above-filter p e.0 c h.0, rising-filter p c h.1)) (λ _. rising-filter p c h.1)

-- what all have, those have that pass a test
pub all-filter : (P : Entry → Type 0) (p : Entry → Bool) (xs : List Entry) → AllByRecursion P xs
    → AllByRecursion P (filter p xs)
all-filter P p xs h = recursion_from_All P _ (All-filter p P xs (All-from_recursion P xs h))

-- counters that pass a test are counters
pub counters-filter : (p : Entry → Bool) (c : Counters) → IsCounters c → IsCounters (filter p c)
counters-filter p c h = record { rising = rising-filter p c h.rising; positive = all-filter _ p c h.positive }

-- ---- the report
-- a heavy entry has the key's weight, which is above the share
pub in_heavy : (xs : List Entry) (p q : ℕ) (x : Bytes) (w : ℕ) → Contains (heavy xs p q) (x, w)
    → (w ≡ weight_of x xs) × (p * total_of xs < q * w)
in_heavy xs p q x w h =
    let i = in_filter (is_heavy p q (total_of xs)) (x, w) (tally xs) (in-by_rank (x, w) _ h) in
    (sym (number_from_in (x, w) (tally xs) (rising-tally xs) i.0) ∙ weight_of-tally x xs, grind (arith, nat_tests, i.1))

-- and each key above the share is one, with its weight
pub heavy_in : (xs : List Entry) (p q : ℕ) (x : Bytes) (w : ℕ) → w ≡ weight_of x xs → p * total_of xs < q * w
    → Contains (heavy xs p q) (x, w)
heavy_in xs p q x w e l =
    let same : weight_of x (tally xs) ≡ w = weight_of-tally x xs ∙ sym e in
    let some : 0 < w = grind (arith, l, mul-zero q) in
    let there : Contains (tally xs) (x, w) = subst (λ n. Contains (tally xs) (x, n)) same
    (in_from_number x (tally xs) (rising-tally xs) (omega (arith, same, some))) in
    by_rank-in (x, w) _ (filter_in (is_heavy p q (total_of xs)) (x, w) (tally xs) there (grind (arith, nat_tests, l)))

-- the heavy entries are the report
pub heavy_is_report : (xs : List Entry) (p q : ℕ) → IsReport xs p q (heavy xs p q)
heavy_is_report xs p q = record {
  ranked = sorted-by_rank _ (rising-filter (is_heavy p q (total_of xs)) (tally xs) (rising-tally xs));
  exact = λ x w. (λ h. in_heavy xs p q x w h, λ h. heavy_in xs p q x w h.0 h.1);
}

-- of distinct keys the rows above a share are those that pass, in order
pub rows_are_exact : (p q n : ℕ) (es : List Entry) → IsStrictlySortedBy key_cmp (keys_of es)
    → IsStrictlySortedBy rank_cmp (rows_above p q n es)
    × ((e : Entry) → Contains (rows_above p q n es) e ↔ (Contains es e × (p * n < q * e.1)))
rows_are_exact p q n es h =
    let test : Entry → Bool = is_heavy p q n in (
      sorted-by_rank _ (rising-filter test es h),
      λ e. (
        λ i. let passed = in_filter test e es (in-by_rank e _ i) in (passed.0, grind (arith, nat_tests, passed.1)),
        λ i. by_rank-in e _ (filter_in test e es i.0 (grind (arith, nat_tests, i.1))),
      ),
    )

-- ---- heavy keys have counters
near_zero : (k p q n w t : ℕ) → q ≤ p * (k + 1) → (k + 1) * w + t ≤ n → n * p < q * w → ⊥
near_zero k p q n w t h g l =
    let a : q * w ≤ p * (k + 1) * w = mul-le-mul_right w h in
    let b : p * (k + 1) * w ≡ p * ((k + 1) * w) = mul_assoc p (k + 1) w in
    let c : p * ((k + 1) * w) ≤ p * n = mul-le-mul_left p (omega arith) in
    omega (arith, a, b, c, mul_comm n p, l)

-- of honest counters each heavy key has one
pub heavy_has_counter : (c : Counters) (xs : List Entry) (k p q : ℕ) → IsHonest c (total_of xs) xs k → q ≤ p * (k + 1)
    → (e : Entry) → Contains (heavy xs p q) e → 0 < weight_of e.0 c
heavy_has_counter c xs k p q h le e i =
    let at = in_heavy xs p q e.0 e.1 i in
    ⊎_elim (λ (some : 0 < weight_of e.0 c). some)
    (λ (few : weight_of e.0 c ≤ 0).
    let none : weight_of e.0 c ≡ 0 = omega arith in
    let times : (k + 1) * weight_of e.0 c ≡ 0 = ap (λ n. (k + 1) * n) none ∙ mul-zero (k + 1) in
    let near_e : (k + 1) * e.1 ≡ (k + 1) * weight_of e.0 xs = ap (λ n. (k + 1) * n) at.0 in
    absurd (near_zero k p q (total_of xs) e.1 (total_of c) le (omega (arith, h.near e.0))
    (omega (arith, at.1, mul_comm (total_of xs) p))))
    (cases_lt 0 (weight_of e.0 c))

-- two lists in the order of the report with the same entries are one
pub same_ranked : (c d : List Entry) → IsStrictlySortedBy rank_cmp c → IsStrictlySortedBy rank_cmp d
    → ((x : Entry) → Contains c x → Contains d x) → ((x : Entry) → Contains d x → Contains c x) → c ≡ d
same_ranked c d h g f b = same_rising rank_total c d h g f b

-- the report is the only list that says what a report must
pub one_report : (xs : List Entry) (p q : ℕ) (es : List Entry) → IsReport xs p q es → es ≡ heavy xs p q
one_report xs p q es h =
    let own = heavy_is_report xs p q in
    same_ranked es (heavy xs p q) h.ranked own.ranked
    (λ x i. (own.exact x.0 x.1).1 ((h.exact x.0 x.1).0 i)) (λ x i. (h.exact x.0 x.1).1 ((own.exact x.0 x.1).0 i))

-- ---- what a sort leaves
ranked_next : (r s : Ordering) → s ≡ ordering_reverse r → is_lt s ≡ false → (r ≡ Equal → ⊥) → r ≡ Less
ranked_next Less s e l n = refl
ranked_next Equal s e l n = absurd (n refl)
ranked_next Greater s e l n = absurd (cc)

-- sorted entries with distinct keys rise strictly, where only equal keys tie
pub rising_from_sort : {R : Entry → Entry → Ordering} → IsTotalOrder R
    → ((d e : Entry) → R d e ≡ Equal → key_cmp d.0 e.0 ≡ Equal) → (es ys : List Entry) → Distinct es
    → IsPermutation es ys → IsSortedBy (λ x y. is_lt (R x y)) ys → IsStrictlySortedBy R ys
rising_from_sort {R} o ties es ys h perm sorted =
    let apart : Distinct ys = IsDistinct-IsPermutation same_key same_sym (keys_of es) (keys_of ys)
    (IsPermutation-map (λ (e : Entry). e.0) es ys perm) h in
    sorted_from_all_adjacent o ys ([], 0) (λ k l.
    let d : Entry = ([], 0) in
    let a = get_or ys k d in
    let b = get_or ys (k + 1) d in
    ranked_next (R a b) (R b a) (o.antisymm b a) (sorted k d (omega arith) l) (λ e.
    let differ = apart_from_distinct same_key (keys_of ys) k (k + 1) [] apart (omega arith)
    (omega (arith, l, length-keys_of ys)) in
    let first = get_or-map (λ (e : Entry). e.0) ys k d [] (omega arith) in
    let second = get_or-map (λ (e : Entry). e.0) ys (k + 1) d [] l in
    cc (ap is_eq (ties a b e), ap₂ same_key first second, differ)))

-- distinct entries that are sorted by key are the counters that have their numbers
pub counters_from_sort : (es ys : List Entry) (c : Counters) → Distinct es → AllByRecursion (λ (e : Entry). 0 < e.1) es
    → IsPermutation es ys → IsSortedBy (λ x y. is_lt (key_cmp x.0 y.0)) ys → IsCounters c
    → ((q : Bytes) → weight_of q es ≡ weight_of q c) → ys ≡ c
counters_from_sort es ys c apart some perm sorted counters same =
    let positive : Entry → Type 0 = λ e. 0 < e.1 in
    same_counters _ _
    (counters_from_places ys (All-permutation positive es ys perm (All-from_recursion positive es some))
    (λ k d l. Less-from_sorted (λ (a b : Entry). key_cmp a.0 b.0) ys k (k + 1) d (rising_from_sort
    (on_total (λ (e : Entry). e.0) key_total) (λ a b e. e) es ys apart perm sorted) (omega arith) l))
    counters (λ q. sum_by-IsPermutation (at_key q) es ys perm ∙ same q)

-- counters sorted in the order of the report are its list
pub ranked_from_sort : (es ys : List Entry) → IsStrictlySortedBy key_cmp (keys_of es) → IsPermutation es ys
    → IsSortedBy (λ x y. is_lt (rank_cmp x y)) ys → ys ≡ by_rank es
ranked_from_sort es ys h perm sorted =
    same_ranked ys (by_rank es)
    (rising_from_sort rank_total rank_ties es ys (IsDistinct-from_sorted key_cmp (keys_of es) h) perm sorted)
    (sorted-by_rank es h)
    (λ x i. by_rank-in x es (Contains-permutation ys es x (IsPermutation-sym es ys perm) i))
    (λ x i. Contains-permutation es ys x perm (in-by_rank x es i))

-- ---- candidates, one by one
-- what is more than the whole of t exceeds it
pub over_whole : (t : ℕ) (es : List Entry) → filter (is_heavy 1 1 t) es ≡ filter (exceeds t) es
over_whole t es = λ i. filter (λ (e : Entry). nat_lt (one-mul t i) (one-mul e.1 i)) es

-- one more candidate is selected where its number is above the share
pub select_more : (p q n : ℕ) (ks : List Bytes) (ns : List ℕ) (i : ℕ) (k : Bytes) → length ns ≡ length ks
    → i < length ks → k ≡ get_or ks i k
    → filter (is_heavy p q n) (take (i + 1) (zip ks ns)) ≡ filter (is_heavy p q n) (take i (zip ks ns)) ++ cond
    (nat_lt (p * n) (q * get_or ns i 0)) ((k, get_or ns i 0) ∷ []) []
select_more p q n ks ns i k e l is =
    let zs = zip ks ns in
    let long : i < length zs = omega (arith, length-zip ks ns) in
    let at : get_or zs i (k, 0) ≡ (k, get_or ns i 0) =
    get_or-zip ks ns i (k, 0) l (omega arith) ∙ (λ j. (sym is j, get_or ns i 0)) in
    filter_more (is_heavy p q n) zs i (k, 0) long ∙ ap
    (λ (z : Entry). filter (is_heavy p q n) (take i zs) ++ cond (is_heavy p q n z) (z ∷ []) []) at

-- where none is selected, no number is above the share
pub nothing_heavy : (p q n : ℕ) (ks : List Bytes) (ns : List ℕ) (i : ℕ) → length ns ≡ length ks → i < length ks
    → filter (is_heavy p q n) (zip ks ns) ≡ [] → nat_lt (p * n) (q * get_or ns i 0) ≡ true → ⊥
nothing_heavy p q n ks ns i e l none heavy =
    let zs = zip ks ns in
    let at : get_or zs i ([], 0) ≡ (get_or ks i [], get_or ns i 0) = get_or-zip ks ns i ([], 0) l (omega arith) in
    let there = Contains-get_or zs i ([], 0) (omega (arith, l, length-zip ks ns)) in
    let passed = filter_in (is_heavy p q n) (get_or zs i ([], 0)) zs there (ap (is_heavy p q n) at ∙ heavy) in
    omega (arith, passed.1, ap length none)

-- nothing in order is nothing
pub by_rank_nothing : (es : List Entry) → by_rank es ≡ [] → es ≡ []
by_rank_nothing [] none = refl
by_rank_nothing (e ∷ es) none =
    let long = length_permutation (e ∷ es) (by_rank (e ∷ es)) (by_rank_permutes (e ∷ es)) in
    absurd (omega (arith, long, ap length none))

-- the keys that are selected rise
pub rising-zip : (p : Entry → Bool) (ks : List Bytes) (ns : List ℕ) → length ns ≡ length ks
    → IsStrictlySortedBy key_cmp ks → IsStrictlySortedBy key_cmp (keys_of (filter p (zip ks ns)))
rising-zip p ks ns e h = rising-filter p (zip ks ns) (subst (IsStrictlySortedBy key_cmp) (sym (keys_of-zip ks ns e)) h)

-- ---- the report from the candidates of counters
-- each counter's key with its weight in xs
abbrev pub candidates : Counters → List Entry → List Entry
candidates c xs = map (λ e. (e.0, weight_of e.0 xs)) c

-- the keys of counters with their weights are its candidates
pub zip-weights_at : (c : Counters) (xs : List Entry) → zip (keys_of c) (weights_at (keys_of c) xs) ≡ candidates c xs
zip-weights_at [] xs = refl
zip-weights_at (e ∷ c) xs = ap (λ (ds : List Entry). (e.0, weight_of e.0 xs) ∷ ds) (zip-weights_at c xs)

-- each of them has a counter, and its weight in xs
in_candidates : (c : Counters) (xs : List Entry) (x : Entry) → IsCounters c → Contains (candidates c xs) x
    → (x.1 ≡ weight_of x.0 xs) × (0 < weight_of x.0 c)
in_candidates c xs x h i =
    let P : Entry → Type 0 = λ x. (x.1 ≡ weight_of x.0 xs) × (0 < weight_of x.0 c) in
    let f : Entry → Entry = λ e. (e.0, weight_of e.0 xs) in
    All-contains P (candidates c xs) x (All-map P f c
    (All-weaker (Contains c) (λ (e : Entry). P (f e))
    (λ e j. (refl, omega (arith, number_from_in e c h.rising j, positive_in c e h j)))
    c (All-contains_itself c))) i

-- a key with a counter is a candidate, with its weight
pub candidates_in : (c : Counters) (xs : List Entry) (e : Entry) → Contains c e
    → Contains (candidates c xs) (e.0, weight_of e.0 xs)
candidates_in c xs e (k, l, is) =
    let f : Entry → Entry = λ e. (e.0, weight_of e.0 xs) in
    (k, omega (arith, l, length-map c f), get_or-map f c k e _ l ∙ ap f is)

-- the candidates have the keys of the counters
pub keys_of-candidates : (c : Counters) (xs : List Entry) → keys_of (candidates c xs) ≡ keys_of c
keys_of-candidates [] xs = refl
keys_of-candidates (e ∷ c) xs = ap (λ (ks : List Bytes). e.0 ∷ ks) (keys_of-candidates c xs)

-- what passes a test in the order of the report stays in it
pub ranked-filter : (p : Entry → Bool) (es : List Entry) → IsStrictlySortedBy rank_cmp es
    → IsStrictlySortedBy rank_cmp (filter p es)
ranked-filter p es h = IsStrictlySortedBy-filter rank_cmp p es h

-- what a second pass over the candidates finds: the heavy keys that have a counter
selected_candidates : (c : Counters) (xs : List Entry) (p q : ℕ) → IsCounters c
    → rows_above p q (total_of xs) (candidates c xs) ≡ filter (has_counter c) (heavy xs p q)
selected_candidates c xs p q h =
    let test : Entry → Bool = is_heavy p q (total_of xs) in
    let rises : IsStrictlySortedBy key_cmp (keys_of (candidates c xs)) =
    subst (IsStrictlySortedBy key_cmp) (sym (keys_of-candidates c xs)) h.rising in
    same_ranked _ _
    (sorted-by_rank (filter test (candidates c xs)) (rising-filter test (candidates c xs) rises))
    (ranked-filter (has_counter c) (heavy xs p q) (heavy_is_report xs p q).ranked)
    (λ x i.
    let f = in_filter test x (candidates c xs) (in-by_rank x (filter test (candidates c xs)) i) in
    let g = in_candidates c xs x h f.0 in
    let more : p * total_of xs < q * x.1 = grind (arith, nat_tests, f.1) in
    filter_in (has_counter c) x (heavy xs p q) (heavy_in xs p q x.0 x.1 g.0 more) (grind (arith, nat_tests, g.1)))
    (λ x i.
    let f = in_filter (has_counter c) x (heavy xs p q) i in
    let g = in_heavy xs p q x.0 x.1 f.0 in
    let there =
    candidates_in c xs (x.0, weight_of x.0 c) (in_from_number x.0 c h.rising (grind (arith, nat_tests, f.1))) in
    let same : (x.0, weight_of x.0 xs) ≡ x = λ j. (x.0, sym g.0 j) in
    by_rank-in x (filter test (candidates c xs)) (filter_in test x (candidates c xs)
    (subst (λ (y : Entry). Contains (candidates c xs) y) same there) (grind (arith, nat_tests, g.1))))

-- a test that all pass leaves all
pub filter_all : (p : Entry → Bool) (es : List Entry) → ((x : Entry) → Contains es x → p x ≡ true) → filter p es ≡ es
filter_all p [] h = refl
filter_all p (e ∷ es) h = ap (λ b. cond b (e ∷ filter p es) (filter p es)) (h e (0, omega arith, refl))
    ∙ ap (λ (ds : List Entry). e ∷ ds) (filter_all p es (λ x i. h x (suc i.0, omega (arith, i.1), i.2)))

-- ---- entries that exceed a number
-- those of them that exceed it are all
pub above_again : (t : ℕ) (es : List Entry) → filter (exceeds t) (filter (exceeds t) es) ≡ filter (exceeds t) es
above_again t es = filter_all (exceeds t) (filter (exceeds t) es) (λ x i. (in_filter (exceeds t) x es i).1)

-- lowered by it, they are as all lowered
pub lower-above : (t : ℕ) (es : List Entry) → lower t (filter (exceeds t) es) ≡ lower t es
unfolding lower
lower-above t es = ap (map (less_by t)) (above_again t es)

-- they weigh something
pub positive-above : (t : ℕ) (es : List Entry) → AllByRecursion (λ (e : Entry). 0 < e.1) (filter (exceeds t) es)
positive-above t [] = tt
positive-above t (e ∷ es) =
    cond_both (exceeds t e) (e ∷ filter (exceeds t) es) (filter (exceeds t) es) (AllByRecursion (λ (e : Entry). 0 < e.1))
    (λ p. (grind (arith, nat_tests, p), positive-above t es)) (λ _. positive-above t es)

-- a number where it is above t, and else 0
abbrev kept : ℕ → ℕ → ℕ
kept t n = cond (nat_lt t n) n 0

-- of distinct keys they keep those above t
weight_of-above : (t : ℕ) (q : Bytes) (es : List Entry) → Distinct es
    → weight_of q (filter (exceeds t) es) ≡ kept t (weight_of q es)
weight_of-above t q es h =
    weight_of-lookup q (filter (exceeds t) es) (IsDistinct-keys_filter same_key (exceeds t) es h)
    ∙ ap (λ o. unwrap_or o 0) (lookup-filter-values (eq_by_cmp_equiv key_total) (nat_lt t) q es h)
    ∙ by (lookup (same_key q) es) ∙ ap (kept t) (sym (weight_of-lookup q es h))
  where
    by : (o : Option ℕ) → unwrap_or (option_filter (nat_lt t) o) 0 ≡ kept t (unwrap_or o 0)
    by None = cond_both (nat_lt t 0) 0 0 (λ n. 0 ≡ n) (λ _. refl) (λ _. refl)
    by (Some n) = cond_both (nat_lt t n) (Some n) None (λ o. unwrap_or o 0 ≡ kept t n)
        (λ p. sym (ap (λ b. cond b n 0) p)) (λ p. sym (ap (λ b. cond b n 0) p))

-- of distinct keys, by rising key, they are those of all by rising key
pub tally-above : (t : ℕ) (es : List Entry) → Distinct es → tally (filter (exceeds t) es) ≡ filter (exceeds t) (tally es)
tally-above t es h =
    let some = filter (exceeds t) es in
    let rising = rising-tally es in
    same_counters _ _ (counters-tally some (positive-above t es))
    (record { rising = rising-filter (exceeds t) (tally es) rising; positive = positive-above t (tally es) })
    (λ q. weight_of-tally q some ∙ weight_of-above t q es h ∙ ap (kept t) (sym (weight_of-tally q es))
    ∙ sym (weight_of-above t q (tally es) (IsDistinct-from_sorted key_cmp (keys_of (tally es)) rising)))

-- ---- the keys of counters, selected
-- selected by their weights, the keys of counters are the heavy entries that have one
pub report_with_counters : (c : Counters) (xs : List Entry) (p q : ℕ) → IsCounters c
    → rows_above p q (total_of xs) (zip (keys_of c) (weights_at (keys_of c) xs)) ≡ filter (has_counter c) (heavy xs p q)
report_with_counters c xs p q h = ap (rows_above p q (total_of xs)) (zip-weights_at c xs)
    ∙ selected_candidates c xs p q h

-- of honest counters: the whole report
pub report_from_candidates : (c : Counters) (xs : List Entry) (k p q : ℕ) → IsHonest c (total_of xs) xs k
    → q ≤ p * (k + 1) → rows_above p q (total_of xs) (zip (keys_of c) (weights_at (keys_of c) xs)) ≡ heavy xs p q
report_from_candidates c xs k p q h le =
    report_with_counters c xs p q h.counters
    ∙ filter_all (has_counter c) (heavy xs p q) (λ x i. grind
    (arith, nat_tests, heavy_has_counter c xs k p q h le x i))
