-- Condensed entries have the total and the weights of the keys with counters, and under a name that is no key of them
-- what is left.
use Rattle.std.proofs.Common.{◌≡◌, ℕ, zero, suc, ◌+◌, ◌-◌, ◌*◌, ◌<◌, ◌≤◌, ◌⊎◌, inl, inr, ⊎_elim, true, false, List, [], ◌∷◌, length, drop, map, Some, refl, sym, ap, ◌∙◌, subst, true≢false, arith, filter, nat_lt, All, IsSome, IsPermutation, Contains}
use Rattle.std.specs.List.{AllByRecursion, IsDistinct, list_any, flat_map}
use Rattle.std.specs.Map.{lookup}
use Rattle.std.specs.Cmp.{eq_by_cmp_equiv}
use Rattle.std.specs.Int.Digits.{digits_of}
use Rattle.std.proofs.lemmas.Bool.Decides.{nat_tests}
use Rattle.std.proofs.lemmas.Bool.{cases_lt, cond_both, false_from_ne_true, or_cases}
use Rattle.std.proofs.lemmas.Int.Digits.{same_from_digits_of}
use Rattle.std.proofs.lemmas.List.Elements.{recursion_from_All, All-from_recursion}
use Rattle.std.proofs.lemmas.List.Filters.{sum_by-filter_both}
use Rattle.std.proofs.lemmas.List.Sorted.{sum_by-IsPermutation}
use Rattle.std.proofs.lemmas.Map.Steps.{length-le_from_keys}
use Rattle.hh_stream.specs.Weights.{Bytes, Entry, same_key, at_key, weight_of, total_of}
use Rattle.hh_stream.specs.Cuttings.{whole_of}
use Rattle.hh_summaries.specs.Counters.{Counters, IsHonest, tally}
use Rattle.hh_summaries.specs.Report.{heavy, has_counter}
use Rattle.hh_counters.specs.Condensed.{other_name, free_from, free_name, IsFirstFree, lacks_counter, other_weight, entry_of, condensed}
use Rattle.hh_summaries.proofs.Weights.{at_differ, by_key, all-append, key_total, same_exact, weight_of-cons, total_of-cons, weight_of-append, total_of-append, weight_of-tally, total_of-tally, positive-tally}
use Rattle.hh_summaries.proofs.Reports.{all-filter, in_filter, filter_in, in_heavy, heavy_in, heavy_is_report, same_ranked, ranked-filter, filter_all, heavy_has_counter}

-- ---- the names are different
unspelled : (ds : List ℕ) → map (λ d. d - 48) (map (λ d. 48 + d) ds) ≡ ds
unspelled [] = refl
unspelled (d ∷ ds) = let first : 48 + d - 48 ≡ d = omega arith in λ i. first i ∷ unspelled ds i

same_from_name : (i j : ℕ) → other_name i ≡ other_name j → i ≡ j
same_from_name i j e =
    let spelled : map (λ d. 48 + d) (digits_of 10 i) ≡ map (λ d. 48 + d) (digits_of 10 j) = ap (drop 6) e in
    same_from_digits_of 10 i j (omega arith) (sym (unspelled (digits_of 10 i)) ∙ ap (map (λ d. d - 48)) spelled
    ∙ unspelled (digits_of 10 j))

names_differ : (i j : ℕ) → i < j → same_key (other_name i) (other_name j) ≡ false
names_differ i j l = false_from_ne_true _ (λ e. omega (arith, l, same_from_name i j (same_exact _ _ e)))

-- m names from number n on
names : ℕ → ℕ → List Bytes
names n zero = []
names n (suc m) = other_name n ∷ names (n + 1) m

length-names : (n m : ℕ) → length (names n m) ≡ m
unfolding names
length-names n zero = refl
length-names n (suc m) = omega (arith, length-names (n + 1) m)

later_differ : (i n m : ℕ) → i < n → AllByRecursion (λ y. same_key (other_name i) y ≡ false) (names n m)
unfolding names
later_differ i n zero l = tt
later_differ i n (suc m) l = (names_differ i n l, later_differ i (n + 1) m (omega (arith, l)))

distinct-names : (n m : ℕ) → IsDistinct same_key (names n m)
unfolding names IsDistinct
distinct-names n zero = tt
distinct-names n (suc m) = (later_differ n (n + 1) m (omega arith), distinct-names (n + 1) m)

-- ---- not all of length c + 1 names have a counter
has_entry : (x : Bytes) (c : Counters) → 0 < weight_of x c → IsSome (lookup (same_key x) c)
has_entry x [] l = absurd (omega (arith, l))
has_entry x (e ∷ c) l = cond_both (same_key x e.0) (Some e.1) (lookup (same_key x) c) IsSome (λ s. refl)
    (λ s. has_entry x c (omega (arith, l, weight_of-cons x e c, at_differ x e s)))

has_entries : (c : Counters) (ks : List Bytes) → AllByRecursion (λ y. 0 < weight_of y c) ks → (x : Bytes)
    → list_any (same_key x) ks ≡ true → IsSome (lookup (same_key x) c)
has_entries c [] h x i = absurd (true≢false (sym i))
has_entries c (k ∷ ks) h x i =
    ⊎_elim (λ s. has_entry x c (subst (λ y. 0 < weight_of y c) (sym (same_exact x k s)) h.0))
    (λ j. has_entries c ks h.1 x j) (or_cases (same_key x k) (list_any (same_key x) ks) i)

some_names : (c : Counters) (n m : ℕ) → ((j : ℕ) → j < n + m → 0 < weight_of (other_name j) c)
    → AllByRecursion (λ y. 0 < weight_of y c) (names n m)
unfolding names
some_names c n zero h = tt
some_names c n (suc m) h = (h n (omega arith), some_names c (n + 1) m (λ j l. h j (omega (arith, l))))

crowded : (c : Counters) → ((j : ℕ) → j ≤ length c → 0 < weight_of (other_name j) c) → ⊥
crowded c h =
    let m = length c + 1 in
    omega (
      arith,
      length-names 0 m,
      length-le_from_keys (eq_by_cmp_equiv key_total) (names 0 m) c (distinct-names 0 m)
          (has_entries c (names 0 m) (some_names c 0 m (λ j l. h j (omega (arith, l))))),
    )

-- ---- the first name with no counter
-- where a search from number n on ends, after m tries at most
record Ends (c : Counters) (n m : ℕ) (y : Bytes) : Type 0 where
  pub at : ℕ
  pub from : n ≤ at
  pub most : at ≤ n + m
  pub named : y ≡ other_name at
  pub before : (j : ℕ) → n ≤ j → j < at → 0 < weight_of (other_name j) c
  pub stops : (weight_of (other_name at) c ≡ 0) ⊎ (at ≡ n + m)

ends : (c : Counters) (n m : ℕ) → Ends c n m (free_from c n m)
ends c n zero = record {
  at = n;
  from = omega arith;
  most = omega arith;
  named = refl;
  before = λ j a b. absurd (omega (arith, a, b));
  stops = inr (omega arith);
}
ends c n (suc m) = cond_both (nat_lt 0 (weight_of (other_name n) c)) _ _ (Ends c n (suc m))
    (λ e.
    let more = ends c (n + 1) m in
    let here : 0 < weight_of (other_name n) c = grind (arith, nat_tests, e) in
    record {
      at = more.at;
      from = omega (arith, more.from);
      most = omega (arith, more.most);
      named = more.named;
      before = λ j a b. ⊎_elim
          (λ (l : n < j). more.before j (omega (arith, l)) b)
          (λ (l : j ≤ n). let same : n ≡ j = omega (arith, a, l) in
          subst (λ i. 0 < weight_of (other_name i) c) same here)
          (cases_lt n j);
      stops = ⊎_elim (λ (z : weight_of (other_name more.at) c ≡ 0). inl z)
          (λ (z : more.at ≡ n + 1 + m). inr (omega (arith, z))) more.stops;
    })
    (λ e. record {
      at = n;
      from = omega arith;
      most = omega arith;
      named = refl;
      before = λ j a b. absurd (omega (arith, a, b));
      stops = inl (grind (arith, nat_tests, e));
    })

-- the free name is the first of its row that has no counter
pub free_is_first : (c : Counters) → IsFirstFree c (free_name c)
unfolding free_name
free_is_first c =
    let found = ends c 0 (length c) in
    let last : found.at ≡ length c → 0 < weight_of (other_name found.at) c → ⊥ =
    λ all here. crowded c (λ j l. ⊎_elim
    (λ (m : j < found.at). found.before j (omega arith) m)
    (λ (m : found.at ≤ j). let same : found.at ≡ j = omega (arith, m, l, all) in
    subst (λ n. 0 < weight_of (other_name n) c) same here)
    (cases_lt j found.at)) in
    let none : weight_of (other_name found.at) c ≡ 0 = grind (arith, last, found.stops) in
    record {
      number = found.at;
      named = found.named;
      free = ap (λ y. weight_of y c) found.named ∙ none;
      first = λ j l. found.before j (omega arith) l;
      few = omega (arith, found.most);
    }

-- and no other name is
pub one_first_free : (c : Counters) (y : Bytes) → IsFirstFree c y → y ≡ free_name c
one_first_free c y h =
    let g = free_is_first c in
    let not_before : h.number < g.number → ⊥ =
    λ l. omega (arith, g.first h.number l, ap (λ z. weight_of z c) h.named, h.free) in
    let not_after : g.number < h.number → ⊥ =
    λ l. omega (arith, h.first g.number l, ap (λ z. weight_of z c) g.named, g.free) in
    let same : h.number ≡ g.number = grind (arith, not_before, not_after) in
    h.named ∙ ap other_name same ∙ sym g.named

-- ---- what the entries hold
lacking : (c : Counters) (x : Bytes) (e : Entry) → 0 < weight_of x c → weight_of e.0 c ≡ 0 → at_key x e ≡ 0
lacking c x e some none = by_key x e _
    (λ same _. absurd (omega (arith, some, none, ap (λ y. weight_of y c) same))) (λ _ other. other)

-- the items whose keys have counters keep such a key's weight
pub weight_of-kept : (c : Counters) (x : Bytes) (xs : List Entry) → 0 < weight_of x c
    → weight_of x (filter (has_counter c) xs) ≡ weight_of x xs
weight_of-kept c x [] some = refl
weight_of-kept c x (e ∷ xs) some = cond_both (has_counter c e) _ _ (λ l. weight_of x l ≡ weight_of x (e ∷ xs))
    (λ h. omega
    (arith, weight_of-cons x e (filter (has_counter c) xs), weight_of-cons x e xs, weight_of-kept c x xs some))
    (λ h. let none = lacking c x e some (grind (arith, nat_tests, h)) in
    omega (arith, weight_of-cons x e xs, none, weight_of-kept c x xs some))

pub total_of-entry_of : (y : Bytes) (n : ℕ) → total_of (entry_of y n) ≡ n
total_of-entry_of y n = cond_both (nat_lt 0 n) _ _ (λ l. total_of l ≡ n) (λ h. total_of-cons (y, n) [] ∙ omega arith)
    (λ h. grind (arith, nat_tests, h))

pub weight_of-entry_of : (c : Counters) (x y : Bytes) (n : ℕ) → 0 < weight_of x c → weight_of y c ≡ 0
    → weight_of x (entry_of y n) ≡ 0
weight_of-entry_of c x y n some none = cond_both (nat_lt 0 n) _ _ (λ l. weight_of x l ≡ 0)
    (λ _. omega (arith, weight_of-cons x (y, n) [], lacking c x (y, n) some none)) (λ _. refl)

pub positive-entry_of : (y : Bytes) (n : ℕ) → AllByRecursion (λ (e : Entry). 0 < e.1) (entry_of y n)
positive-entry_of y n = cond_both (nat_lt 0 n) _ _ (AllByRecursion (λ (e : Entry). 0 < e.1))
    (λ h. (grind (arith, nat_tests, h), tt)) (λ _. tt)

-- condensed items have the total of the items
pub total_of-condensed : (c : Counters) (xs : List Entry) → total_of (condensed c xs) ≡ total_of xs
unfolding condensed
total_of-condensed c xs = omega (
  arith,
  total_of-append (tally (filter (has_counter c) xs)) (entry_of (free_name c) (other_weight c xs)),
  total_of-tally (filter (has_counter c) xs),
  total_of-entry_of (free_name c) (other_weight c xs),
  sum_by-filter_both (has_counter c) (lacks_counter c) (λ e. refl) (λ (e : Entry). e.1) xs,
)

-- and the weight of each key with a counter
pub weight_of-condensed : (c : Counters) (xs : List Entry) (x : Bytes) → 0 < weight_of x c
    → weight_of x (condensed c xs) ≡ weight_of x xs
unfolding condensed
weight_of-condensed c xs x some = omega (
  arith,
  weight_of-append x (tally (filter (has_counter c) xs)) (entry_of (free_name c) (other_weight c xs)),
  weight_of-tally x (filter (has_counter c) xs),
  weight_of-kept c x xs some,
  weight_of-entry_of c x (free_name c) (other_weight c xs) some (free_is_first c).free,
)

-- their weights are positive where those of the items are
pub positive-condensed : (c : Counters) (xs : List Entry) → All (λ e. 0 < e.1) xs → All (λ e. 0 < e.1) (condensed c xs)
unfolding condensed
positive-condensed c xs h =
    let P : Entry → Type 0 = λ e. 0 < e.1 in
    All-from_recursion P _
    (all-append P (tally (filter (has_counter c) xs)) (entry_of (free_name c) (other_weight c xs))
    (positive-tally (filter (has_counter c) xs) (all-filter P (has_counter c) xs (recursion_from_All P xs h)))
    (positive-entry_of (free_name c) (other_weight c xs)))

-- ---- the parts together
total_of-parts : (c : Counters) (parts : List (List Entry))
    → total_of (flat_map (condensed c) parts) ≡ total_of (whole_of parts)
total_of-parts c [] = refl
total_of-parts c (xs ∷ parts) =
    let more = total_of-append (condensed c xs) (flat_map (condensed c) parts) in
    omega (arith, more, total_of-append xs (whole_of parts), total_of-condensed c xs, total_of-parts c parts)

weight_of-parts : (c : Counters) (parts : List (List Entry)) (x : Bytes) → 0 < weight_of x c
    → weight_of x (flat_map (condensed c) parts) ≡ weight_of x (whole_of parts)
weight_of-parts c [] x some = refl
weight_of-parts c (xs ∷ parts) x some = omega (
  arith,
  weight_of-append x (condensed c xs) (flat_map (condensed c) parts),
  weight_of-append x xs (whole_of parts),
  weight_of-condensed c xs x some,
  weight_of-parts c parts x some,
)

-- ---- the report of the keys with counters
found_within : (c : Counters) (xs ys : List Entry) (p q : ℕ) → total_of xs ≡ total_of ys
    → ((x : Bytes) → 0 < weight_of x c → weight_of x xs ≡ weight_of x ys)
    → (e : Entry) → Contains (filter (has_counter c) (heavy xs p q)) e
    → Contains (filter (has_counter c) (heavy ys p q)) e
found_within c xs ys p q total same e i =
    let f = in_filter (has_counter c) e (heavy xs p q) i in
    let g = in_heavy xs p q e.0 e.1 f.0 in
    let some : 0 < weight_of e.0 c = grind (arith, nat_tests, f.1) in
    let more : p * total_of ys < q * e.1 = subst (λ t. p * t < q * e.1) total g.1 in
    filter_in (has_counter c) e (heavy ys p q) (heavy_in ys p q e.0 e.1 (g.0 ∙ same e.0 some) more) f.1

-- the total and the weights of keys with counters decide which of them are heavy
pub found_by_weights : (c : Counters) (xs ys : List Entry) (p q : ℕ) → total_of xs ≡ total_of ys
    → ((x : Bytes) → 0 < weight_of x c → weight_of x xs ≡ weight_of x ys)
    → filter (has_counter c) (heavy xs p q) ≡ filter (has_counter c) (heavy ys p q)
found_by_weights c xs ys p q total same =
    same_ranked _ _
    (ranked-filter (has_counter c) (heavy xs p q) (heavy_is_report xs p q).ranked)
    (ranked-filter (has_counter c) (heavy ys p q) (heavy_is_report ys p q).ranked)
    (found_within c xs ys p q total same)
    (found_within c ys xs p q (sym total) (λ x some. sym (same x some)))

-- parts that are condensed one by one and joined in any order keep total and heavy keys with counters
pub condensed_parts : (c : Counters) (parts : List (List Entry)) (ys : List Entry)
    → IsPermutation (flat_map (condensed c) parts) ys
    → (total_of ys ≡ total_of (whole_of parts)) × ((p q : ℕ)
    → filter (has_counter c) (heavy ys p q) ≡ filter (has_counter c) (heavy (whole_of parts) p q))
condensed_parts c parts ys perm =
    let all = flat_map (condensed c) parts in
    let total : total_of ys ≡ total_of (whole_of parts) =
    sum_by-IsPermutation (λ (e : Entry). e.1) all ys perm ∙ total_of-parts c parts in (
      total,
      λ p q. found_by_weights c ys (whole_of parts) p q total (λ x some. sum_by-IsPermutation (at_key x) all ys perm
          ∙ weight_of-parts c parts x some),
    )

-- where the counters are honest for the whole, that is its report
pub condensed_report : (c : Counters) (parts : List (List Entry)) (xs ys : List Entry) (k p q : ℕ)
    → IsPermutation (whole_of parts) xs → IsPermutation (flat_map (condensed c) parts) ys
    → IsHonest c (total_of xs) xs k → q ≤ p * (k + 1)
    → filter (has_counter c) (heavy ys p q) ≡ heavy xs p q
condensed_report c parts xs ys k p q whole perm honest le =
    (condensed_parts c parts ys perm).1 p q
    ∙ found_by_weights c (whole_of parts) xs p q
    (sym (sum_by-IsPermutation (λ (e : Entry). e.1) (whole_of parts) xs whole))
    (λ x some. sym (sum_by-IsPermutation (at_key x) (whole_of parts) xs whole))
    ∙ filter_all (has_counter c) (heavy xs p q) (λ e i. grind
    (arith, nat_tests, heavy_has_counter c xs k p q honest le e i))
