-- The level, and what a cut takes.
use Rattle.std.proofs.Common.{◌≡◌, ℕ, suc, Option, Some, None, ◌+◌, ◌-◌, ◌*◌, ◌<◌, ◌≤◌, ◌⊎◌, inl, inr, ⊎_elim, Bool, true, false, cond, min, max, List, [], ◌∷◌, ◌++◌, length, get_or, map, Less, refl, sym, ap, ◌∙◌, append-nil, subst, mul-one, mul-zero, mul-add, arith, filter, fold, count_by, nat_lt, nat_le, slice_get, take, IsPermutation}
use Rattle.std.specs.Prelude.{unwrap_or}
use Rattle.std.specs.List.{AllByRecursion, IsDistinct}
use Rattle.std.specs.List.Sorted.{IsStrictlySortedBy, IsSplitAround}
use Rattle.std.specs.Ordering.{nat_cmp}
use Rattle.std.specs.Map.{keys_of, lookup, values_of}
use Rattle.std.specs.Option.{option_map}
use Rattle.std.specs.Cmp.{eq_by_cmp_equiv}
use Rattle.std.proofs.lemmas.Option.{slice_get_within, get_or_from_slice_get}
use Rattle.std.proofs.lemmas.List.{map-append, take_more}
use Rattle.std.proofs.lemmas.List.Elements.{filter-append}
use Rattle.std.proofs.lemmas.List.Sums.{sum_by-cons, sum_by-append, count_by-le-length}
use Rattle.std.proofs.lemmas.List.Sorted.{sum_by-IsPermutation}
use Rattle.std.proofs.lemmas.Map.Keys.{ge_from_not_lt}
use Rattle.std.proofs.lemmas.Map.Made.{IsDistinct-keys_filter, keys_of-map_values, lookup-map_values}
use Rattle.std.proofs.lemmas.Map.Entries.{lookup-filter-values, option_filter}
use Rattle.std.proofs.lemmas.Bool.{cases_lt, cond_both}
use Rattle.std.proofs.lemmas.Bool.Decides.{nat_tests}
use Rattle.hh_stream.specs.Weights.{Bytes, Entry, key_cmp, same_key, weight_of, total_of}
use Rattle.hh_summaries.specs.Counters.{Counters, IsCounters, exceeds, over, IsLevel, less_by, least_passing, level, lower, least_counter}
use Rattle.hh_summaries.proofs.Weights.{Distinct, key_total, weight_of-cons, total_of-cons, weight_of-lookup, weight_above, same_exact}

-- how many counters exceed a number, with one more
pub over-cons : (e : Entry) (c : Counters) (t : ℕ) → over (e ∷ c) t ≡ cond (nat_lt t e.1) 1 0 + over c t
over-cons e c t = sum_by-cons (λ d. cond (exceeds t d) 1 0) e c

-- ---- the least that passes
-- the lesser of two numbers is one of them
pub min_is : (m n : ℕ) → (min m n ≡ m) ⊎ (min m n ≡ n)
min_is m n = ⊎_elim (λ (h : m < n). inl (omega arith)) (λ (h : n ≤ m). inr (omega arith)) (cases_lt m n)

least_passing_passes : (p : ℕ → Bool) (d : ℕ) (ns : List ℕ) → p d ≡ true → p (least_passing p d ns) ≡ true
least_passing_passes p d [] h = h
least_passing_passes p d (n ∷ ns) h =
    let rest = least_passing_passes p d ns h in
    cond_both (p n) (min n (least_passing p d ns)) (least_passing p d ns) (λ m. p m ≡ true)
    (λ e. ⊎_elim (λ m. ap p m ∙ e) (λ m. ap p m ∙ rest) (min_is n (least_passing p d ns))) (λ _. rest)

-- the largest of 0 and those of ns that are at most s
floor : ℕ → List ℕ → ℕ
floor s [] = 0
floor s (n ∷ ns) = cond (nat_le n s) (max n (floor s ns)) (floor s ns)

floor-le : (s : ℕ) (ns : List ℕ) → floor s ns ≤ s
unfolding floor
floor-le s [] = omega arith
floor-le s (n ∷ ns) = grind (arith, nat_tests, floor-le s ns)

-- as many exceed it as exceed s
over-floor : (s : ℕ) (c : Counters) (n : ℕ) → floor s (values_of c) ≤ n → n ≤ s → over c n ≡ over c s
unfolding floor
over-floor s [] n h l = refl
over-floor s (e ∷ c) n h l = grind (arith, nat_tests, over-cons e c n, over-cons e c s, over-floor s c n)

least_passing-le-floor : (p : ℕ → Bool) (d s : ℕ) (ns : List ℕ) → p (floor s ns) ≡ true
    → (least_passing p d ns ≤ floor s ns) ⊎ (floor s ns ≡ 0)
unfolding floor
least_passing-le-floor p d s [] h = inr refl
least_passing-le-floor p d s (n ∷ ns) h = grind (arith, nat_tests, least_passing-le-floor p d s ns)

-- each counter is at most the total, so none exceeds it
over-none : (c : Counters) (t : ℕ) → total_of c ≤ t → over c t ≡ 0
over-none [] t h = refl
over-none (e ∷ c) t h = grind (arith, nat_tests, over-cons e c t, total_of-cons e c, over-none c t)

-- the level is the least number that at most k counters exceed
pub is_level : (c : Counters) (k : ℕ) → IsLevel c k (level c k)
unfolding level
is_level c k =
    let p : ℕ → Bool = λ t. nat_le (over c t) k in
    let vs : List ℕ = values_of c in
    let top : p (total_of c) ≡ true = grind (arith, nat_tests, over-none c (total_of c)) in
    let passes : p (least_passing p (total_of c) (0 ∷ vs)) ≡ true = least_passing_passes p (total_of c) (0 ∷ vs) top in
    record {
      at_most = grind (arith, nat_tests, passes);
      least = λ s h.
          let same : over c (floor s vs) ≡ over c s = over-floor s c (floor s vs) (omega arith) (floor-le s vs) in
          let passes_at : p (floor s vs) ≡ true = grind (arith, nat_tests, same, h) in
          ⊎_elim
          (λ (l : least_passing p (total_of c) vs ≤ floor s vs). grind (arith, nat_tests, l, floor-le s vs))
          (λ (l : floor s vs ≡ 0). let zero_passes : p 0 ≡ true = sym (ap p l) ∙ passes_at in
          grind (arith, nat_tests, zero_passes))
          (least_passing-le-floor p (total_of c) s vs passes_at);
    }

-- there is one level
pub one_level : (c : Counters) (k s t : ℕ) → IsLevel c k s → IsLevel c k t → s ≡ t
one_level c k s t h g = omega (arith, h.least t g.at_most, g.least s h.at_most)

-- ---- what lowering by t leaves
-- no counters stay none
pub lower-nil : (t : ℕ) → lower t [] ≡ []
unfolding lower
lower-nil t = refl

-- as many counters stay as exceed what is taken from them
pub length-lower : (t : ℕ) (c : Counters) → length (lower t c) ≡ over c t
unfolding lower
length-lower t [] = refl
length-lower t (e ∷ c) = grind (arith, nat_tests, over-cons e c t, length-lower t c)

-- a counter stays, less what is taken, where it exceeds that
pub lower-cons : (t : ℕ) (e : Entry) (c : Counters)
    → lower t (e ∷ c) ≡ cond (nat_lt t e.1) ((e.0, e.1 - t) ∷ lower t c) (lower t c)
unfolding lower
lower-cons t e c = by (nat_lt t e.1)
  where
    by : (b : Bool) → map (less_by t) (cond b (e ∷ filter (exceeds t) c) (filter (exceeds t) c))
        ≡ cond b ((e.0, e.1 - t) ∷ lower t c) (lower t c)
    by true = refl
    by false = refl

-- a claim on what is left of e and c, where e exceeds t and where it does not
pub by_lower : (P : Counters → Type 0) (t : ℕ) (e : Entry) (c : Counters) → (t < e.1 → P ((e.0, e.1 - t) ∷ lower t c))
    → (e.1 ≤ t → P (lower t c)) → P (lower t (e ∷ c))
by_lower P t e c more less = rw (lower-cons t e c) (cond_both (nat_lt t e.1) _ _ P
    (λ p. more (grind (arith, nat_tests, p))) (λ p. less (grind (arith, nat_tests, p))))

above_lower : (z : Bytes) (t : ℕ) (c : Counters) → AllByRecursion (λ y. key_cmp z y ≡ Less) (keys_of c)
    → AllByRecursion (λ y. key_cmp z y ≡ Less) (keys_of (lower t c))
above_lower z t [] h =
    subst (λ (d : Counters). AllByRecursion (λ y. key_cmp z y ≡ Less) (keys_of d)) (sym (lower-nil t)) tt
above_lower z t (e ∷ c) h = by_lower (λ d. AllByRecursion (λ y. key_cmp z y ≡ Less) (keys_of d)) t e c
    (λ l. (h.0, above_lower z t c h.1)) (λ l. above_lower z t c h.1)

rising-lower : (t : ℕ) (c : Counters) → IsStrictlySortedBy key_cmp (keys_of c)
    → IsStrictlySortedBy key_cmp (keys_of (lower t c))
unfolding IsStrictlySortedBy
rising-lower t [] h = subst (λ (d : Counters). IsStrictlySortedBy key_cmp (keys_of d)) (sym (lower-nil t)) tt
rising-lower t (e ∷ c) h = by_lower (λ d. IsStrictlySortedBy key_cmp (keys_of d)) t e c
    (λ l. (above_lower e.0 t c h.0, rising-lower t c h.1)) (λ l. rising-lower t c h.1)

-- what stays is positive
pub positive-lower : (t : ℕ) (c : Counters) → AllByRecursion (λ (e : Entry). 0 < e.1) (lower t c)
positive-lower t [] = subst (AllByRecursion (λ (e : Entry). 0 < e.1)) (sym (lower-nil t)) tt
positive-lower t (e ∷ c) = by_lower (AllByRecursion (λ (e : Entry). 0 < e.1)) t e c
    (λ l. (omega arith, positive-lower t c)) (λ l. positive-lower t c)

-- lowered counters are counters
pub counters-lower : (t : ℕ) (c : Counters) → IsStrictlySortedBy key_cmp (keys_of c) → IsCounters (lower t c)
counters-lower t c h = record { rising = rising-lower t c h; positive = positive-lower t c }

-- as weights: each key's number less t
pub weight_of-lower : (t : ℕ) (x : Bytes) (c : Counters) → IsStrictlySortedBy key_cmp (keys_of c)
    → weight_of x (lower t c) ≡ weight_of x c - t
unfolding IsStrictlySortedBy
weight_of-lower t x [] h = ap (weight_of x) (lower-nil t) ∙ omega arith
weight_of-lower t x (e ∷ c) h =
    let alone : same_key x e.0 ≡ true → weight_of x c ≡ 0 =
    λ s. ap (λ k. weight_of k c) (same_exact x e.0 s) ∙ weight_above e.0 c h.0 in
    let whole = weight_of-cons x e c in
    let rest = weight_of-lower t x c h.1 in
    by_lower (λ d. weight_of x d ≡ weight_of x (e ∷ c) - t) t e c
    (λ l. grind (arith, alone, whole, rest, weight_of-cons x (e.0, e.1 - t) (lower t c)))
    (λ l. grind (arith, alone, whole, rest))

-- at least t is taken from each of the counters that are at least t
pub total_of-lower : (u : ℕ) (c : Counters) → total_of (lower (u + 1) c) + (u + 1) * over c u ≤ total_of c
total_of-lower u [] = omega (arith, ap total_of (lower-nil (u + 1)), mul-zero (u + 1))
total_of-lower u (e ∷ c) =
    let add = total_of-cons e c in
    let one = over-cons e c u in
    let rest = total_of-lower u c in
    let product : (u + 1) * over (e ∷ c) u ≡ (u + 1) * cond (nat_lt u e.1) 1 0 + (u + 1) * over c u =
    ap (λ n. (u + 1) * n) one ∙ mul-add (u + 1) _ _ in
    by_lower (λ d. total_of d + (u + 1) * over (e ∷ c) u ≤ total_of (e ∷ c)) (u + 1) e c
    (λ l. let front = total_of-cons (e.0, e.1 - (u + 1)) (lower (u + 1) c) in
    let whole : cond (nat_lt u e.1) 1 0 ≡ 1 = grind (arith, nat_tests, l) in
    let times : (u + 1) * cond (nat_lt u e.1) 1 0 ≡ u + 1 = ap (λ n. (u + 1) * n) whole ∙ mul-one (u + 1) in
    omega arith)
    (λ l. let times : (u + 1) * cond (nat_lt u e.1) 1 0 ≤ e.1 = cond_both (nat_lt u e.1) 1 0 (λ n. (u + 1) * n ≤ e.1)
    (λ p. grind (arith, nat_tests, p, mul-one (u + 1))) (λ p. omega (arith, mul-zero (u + 1))) in
    omega arith)

-- less 0 is all
pub total_of-lower_0 : (c : Counters) → total_of (lower 0 c) ≡ total_of c
total_of-lower_0 [] = ap total_of (lower-nil 0)
total_of-lower_0 (e ∷ c) = by_lower (λ d. total_of d ≡ total_of (e ∷ c)) 0 e c
    (λ l. omega (arith, total_of-cons (e.0, e.1 - 0) (lower 0 c), total_of-cons e c, total_of-lower_0 c))
    (λ m. omega (arith, total_of-cons e c, total_of-lower_0 c, m))

-- lowering adds nothing to the total
pub total_of-lower-le : (t : ℕ) (c : Counters) → total_of (lower t c) ≤ total_of c
total_of-lower-le t [] = omega (arith, ap total_of (lower-nil t))
total_of-lower-le t (e ∷ c) = by_lower (λ d. total_of d ≤ total_of (e ∷ c)) t e c
    (λ l. omega (arith, total_of-cons (e.0, e.1 - t) (lower t c), total_of-cons e c, total_of-lower-le t c))
    (λ l. omega (arith, total_of-cons e c, total_of-lower-le t c))

-- ---- the level where few counters, or one too many, are there
-- where there are at most k counters, the level is 0
pub level_few : (c : Counters) (k : ℕ) → length c ≤ k → level c k ≡ 0
level_few c k h = one_level c k _ 0 (is_level c k)
    (record { at_most = omega (arith, count_by-le-length (exceeds 0) c); least = λ s g. omega arith })

-- all counters exceed what is below each
pub over_all : (c : Counters) (t m : ℕ) → AllByRecursion (λ (e : Entry). m ≤ e.1) c → t < m → over c t ≡ length c
over_all [] t m a h = refl
over_all (e ∷ c) t m a h = grind (arith, nat_tests, over-cons e c t, a.0, h, over_all c t m a.1 h)

-- with more than k counters, none below m
pub level_above : (c : Counters) (k m : ℕ) → AllByRecursion (λ (e : Entry). m ≤ e.1) c → k < length c → m ≤ level c k
level_above c k m a h = grind (arith, over_all c (level c k) m a, (is_level c k).at_most)

-- ---- the level by selection
over-values : (c : Counters) (t : ℕ) → over c t ≡ count_by (nat_lt t) (values_of c)
over-values [] t = refl
over-values (e ∷ c) t =
    omega (arith, over-cons e c t, sum_by-cons (λ n. cond (nat_lt t n) 1 0) e.1 (values_of c), over-values c t)

-- how many of the split numbers exceed t
over_split : (c : Counters) (t x : ℕ) (front back : List ℕ) → IsPermutation (values_of c) (front ++ x ∷ back)
    → over c t ≡ count_by (nat_lt t) front + (cond (nat_lt t x) 1 0 + count_by (nat_lt t) back)
over_split c t x front back p =
    let one : ℕ → ℕ = λ n. cond (nat_lt t n) 1 0 in
    let same = sum_by-IsPermutation one (values_of c) (front ++ x ∷ back) p in
    omega (arith, over-values c t, same, sum_by-append one front (x ∷ back), sum_by-cons one x back)

none_exceed : (t : ℕ) (ns : List ℕ) → ((k d : ℕ) → k < length ns → get_or ns k d ≤ t) → count_by (nat_lt t) ns ≡ 0
none_exceed t [] h = refl
none_exceed t (n ∷ ns) h =
    let rest = none_exceed t ns (λ k d l. h (suc k) d (omega arith)) in
    grind (arith, nat_tests, sum_by-cons (λ n. cond (nat_lt t n) 1 0) n ns, h 0 0 (omega arith), rest)

all_exceed : (t : ℕ) (ns : List ℕ) → ((k d : ℕ) → k < length ns → t < get_or ns k d)
    → count_by (nat_lt t) ns ≡ length ns
all_exceed t [] h = refl
all_exceed t (n ∷ ns) h =
    let rest = all_exceed t ns (λ k d l. h (suc k) d (omega arith)) in
    grind (arith, nat_tests, sum_by-cons (λ n. cond (nat_lt t n) 1 0) n ns, h 0 0 (omega arith), rest)

-- the number with k numbers after it, none of them less, and none before it greater
pub level_from_split : (c : Counters) (k x : ℕ) (front back : List ℕ) → IsPermutation (values_of c) (front ++ x ∷ back)
    → length back ≡ k → IsSplitAround nat_cmp front x back → x ≡ level c k
level_from_split c k x front back p len split = one_level c k x _ (record {
  at_most =
      let before = none_exceed x front (λ j d l. ge_from_not_lt x (get_or front j d) (split.0 j d l)) in
      grind (arith, nat_tests, over_split c x x front back p, before, count_by-le-length (nat_lt x) back, len);
  least = λ s few. ⊎_elim
      (λ (f : s < x).
      let behind = all_exceed s back (λ j d l. omega (arith, ge_from_not_lt (get_or back j d) x (split.1 j d l), f)) in
      absurd (grind (arith, nat_tests, over_split c s x front back p, behind, len, few, f)))
      (λ (f : x ≤ s). f) (cases_lt s x);
}) (is_level c k)

-- ---- the least counter
-- the least of numbers is not above any
pub min_all : (n : ℕ) (c : Counters) → (fold (λ n (d : Entry). min n d.1) n c ≤ n)
    × AllByRecursion (λ (e : Entry). fold (λ n (d : Entry). min n d.1) n c ≤ e.1) c
min_all n [] = (omega arith, tt)
min_all n (e ∷ c) = let rest = min_all (min n e.1) c in (omega (arith, rest.0), (omega (arith, rest.0), rest.1))

-- no counter is below the least
pub least_counter-all : (c : Counters) → AllByRecursion (λ (e : Entry). least_counter c ≤ e.1) c
least_counter-all [] = tt
least_counter-all (e ∷ c) = min_all e.1 c

over_min : (n : ℕ) (c : Counters) → cond (nat_lt (fold (λ n (d : Entry). min n d.1) n c) n) 1 0 + over c
    (fold (λ n (d : Entry). min n d.1) n c) ≤ length c
over_min n [] = grind (arith, nat_tests)
over_min n (e ∷ c) =
    grind (arith, nat_tests, over_min (min n e.1) c, over-cons e c (fold (λ n (d : Entry). min n d.1) (min n e.1) c))

over_least : (c : Counters) → 0 < length c → over c (least_counter c) < length c
over_least [] h = h
over_least (e ∷ c) h = omega (arith, over-cons e c (least_counter (e ∷ c)), over_min e.1 c)

-- of k + 1 counters the level is the least
pub level_one_more : (c : Counters) (k : ℕ) → length c ≡ k + 1 → level c k ≡ least_counter c
level_one_more c k h =
    let above = level_above c k (least_counter c) (least_counter-all c) (omega arith) in
    let below = (is_level c k).least (least_counter c) (omega (arith, over_least c (omega arith), h)) in
    omega (arith, above, below)

-- ---- entry by entry
-- the entry at a place
pub entry_at : (es : List Entry) (i : ℕ) (e : Entry) → Some e ≡ slice_get es i
    → take (i + 1) es ≡ take i es ++ e ∷ []
entry_at es i e is =
    let l : i < length es = slice_get_within es i e (sym is) in
    take_more es i e l ∙ ap (λ (d : Entry). take i es ++ d ∷ []) (get_or_from_slice_get es i e e (sym is))

-- one entry more that passes, or does not
pub passes_more : (p : Entry → Bool) (es : List Entry) (i : ℕ) (e : Entry) → Some e ≡ slice_get es i
    → filter p (take (i + 1) es) ≡ filter p (take i es) ++ cond (p e) (e ∷ []) []
passes_more p es i e is = ap (filter p) (entry_at es i e is) ∙ filter-append p (take i es) (e ∷ [])

-- one more that exceeds a number
pub above_more : (t : ℕ) (es : List Entry) (i : ℕ) (e : Entry) → Some e ≡ slice_get es i → t < e.1
    → filter (exceeds t) (take (i + 1) es) ≡ filter (exceeds t) (take i es) ++ e ∷ []
above_more t es i e is above =
    let test : nat_lt t e.1 ≡ true = grind (arith, nat_tests, above) in
    passes_more (exceeds t) es i e is ∙ ap (λ b. filter (exceeds t) (take i es) ++ cond b (e ∷ []) []) test

-- one more that doesn't
pub above_same : (t : ℕ) (es : List Entry) (i : ℕ) (e : Entry) → Some e ≡ slice_get es i → e.1 ≤ t
    → filter (exceeds t) (take (i + 1) es) ≡ filter (exceeds t) (take i es)
above_same t es i e is below =
    let test : nat_lt t e.1 ≡ false = grind (arith, nat_tests, below) in
    passes_more (exceeds t) es i e is ∙ ap (λ b. filter (exceeds t) (take i es) ++ cond b (e ∷ []) []) test
    ∙ append-nil (filter (exceeds t) (take i es))

-- lowered one after the other
lower-append : (t : ℕ) (es fs : List Entry) → lower t (es ++ fs) ≡ lower t es ++ lower t fs
unfolding lower
lower-append t es fs = ap (map (less_by t)) (filter-append (exceeds t) es fs) ∙ map-append (less_by t) _ _

-- one entry more that is lowered, or dropped
pub lowered_more : (t : ℕ) (es : List Entry) (i : ℕ) (e : Entry) → Some e ≡ slice_get es i
    → lower t (take (i + 1) es) ≡ lower t (take i es) ++ cond (nat_lt t e.1) ((e.0, e.1 - t) ∷ []) []
lowered_more t es i e is =
    ap (lower t) (entry_at es i e is)
    ∙ lower-append t (take i es) (e ∷ [])
    ∙ ap (λ (ds : List Entry). lower t (take i es) ++ ds)
    (lower-cons t e [] ∙ ap (λ (ds : List Entry). cond (nat_lt t e.1) ((e.0, e.1 - t) ∷ ds) ds) (lower-nil t))

-- ---- of distinct keys in any order
-- lowered keys stay apart
pub distinct-lower : (t : ℕ) (es : List Entry) → Distinct es → Distinct (lower t es)
unfolding lower
distinct-lower t es h =
    subst (IsDistinct same_key) (sym (keys_of-map_values (λ n. n - t) (filter (exceeds t) es)))
    (IsDistinct-keys_filter same_key (exceeds t) es h)

-- each key's number less t, in whatever order the keys are
pub weight_of-lower-distinct : (t : ℕ) (q : Bytes) (es : List Entry) → Distinct es
    → weight_of q (lower t es) ≡ weight_of q es - t
unfolding lower
weight_of-lower-distinct t q es h =
    let kept = lookup-filter-values (eq_by_cmp_equiv key_total) (nat_lt t) q es h in
    let found =
    lookup-map_values (λ n. n - t) (same_key q) (filter (exceeds t) es) ∙ ap (option_map (λ n. n - t)) kept in
    weight_of-lookup q (lower t es) (distinct-lower t es h) ∙ ap (λ o. unwrap_or o 0) found
    ∙ less (lookup (same_key q) es) ∙ ap (λ n. n - t) (sym (weight_of-lookup q es h))
  where
    less : (o : Option ℕ) → unwrap_or (option_map (λ n. n - t) (option_filter (nat_lt t) o)) 0 ≡ unwrap_or o 0 - t
    less None = omega arith
    less (Some n) = cond_both (nat_lt t n) (Some n) None (λ o. unwrap_or (option_map (λ n. n - t) o) 0 ≡ n - t)
        (λ _. refl) (λ p. grind (arith, nat_tests, p))
