-- Condensed entries are what a count of the keys of counters finds, and each of their keys is one.
use Rattle.std.proofs.Common.{◌≡◌, ℕ, zero, suc, ◌+◌, ◌-◌, ◌<◌, ◌≤◌, ⊎_elim, true, List, [], ◌∷◌, ◌++◌, length, map, refl, sym, ap, ap₂, ◌∙◌, subst, arith, rules, filter, fold, zip, nat_lt, All, EachIndex, slice_index, codes}
use Rattle.std.specs.List.{AllByRecursion}
use Rattle.std.specs.List.Sorted.{IsStrictlySortedBy}
use Rattle.std.specs.Map.{keys_of}
use Rattle.std.specs.Int.Digits.{digits_of}
use Rattle.std.proofs.lemmas.Bool.{cases_lt, cond_both}
use Rattle.std.proofs.lemmas.Bool.Decides.{nat_tests}
use Rattle.std.proofs.lemmas.Int.Digits.{all_below_base_digits_of, length-digits_of-le}
use Rattle.std.proofs.lemmas.List.{length-append, length-map}
use Rattle.std.proofs.lemmas.List.Elements.{recursion_from_All, All-weaker, filter_passes}
use Rattle.std.proofs.lemmas.List.Filters.{sum_by-filter_both}
use Rattle.std.proofs.lemmas.List.Sums.{length-filter, count_by-le-length}
use Rattle.hh_stream.specs.Weights.{Bytes, Entry, IsKey, key_cmp, weight_of, total_of}
use Rattle.hh_summaries.specs.Counters.{Counters, IsCounters, add_at, max_k, tally, exceeds}
use Rattle.hh_summaries.specs.Report.{has_counter, weights_at}
use Rattle.hh_counters.specs.Condensed.{other_name, free_name, lacks_counter, other_weight, entry_of, condensed}
use Rattle.hh_summaries.proofs.Weights.{by_add_at, by_key, in_from_number, number_from_in, at_differ, all-append, weight_of-cons, weight_of-tally, total_of-tally, counters-tally, same_counters}
use Rattle.hh_summaries.proofs.Reports.{all-filter, candidates, zip-weights_at, candidates_in, keys_of-candidates, rising-filter}
use Rattle.hh_counters.proofs.Condensing.{weight_of-kept, free_is_first}

-- ---- keys with no counter
weight_of-dropped : (c : Counters) (x : Bytes) (xs : List Entry) → weight_of x c ≡ 0
    → weight_of x (filter (has_counter c) xs) ≡ 0
weight_of-dropped c x [] none = refl
weight_of-dropped c x (e ∷ xs) none =
    let rest = weight_of-dropped c x xs none in
    cond_both (has_counter c e) _ _ (λ l. weight_of x l ≡ 0)
    (λ h. by_key x e _ (λ same _. absurd (grind (arith, nat_tests, h, none, ap (λ y. weight_of y c) same)))
    (λ _ at. omega (arith, weight_of-cons x e (filter (has_counter c) xs), at, rest)))
    (λ _. rest)

-- a count is none of a key with no counter
weight_of-uncounted : (c : Counters) (x : Bytes) (xs : List Entry) → AllByRecursion (λ (e : Entry). 0 < e.1) c
    → weight_of x c ≡ 0 → weight_of x (candidates c xs) ≡ 0
weight_of-uncounted [] x xs h none = refl
weight_of-uncounted (e ∷ c) x xs h none =
    let whole = weight_of-cons x e c in
    by_key x e _ (λ _ here. absurd (omega (arith, none, whole, here, h.0)))
    (λ other _. let rest = weight_of-uncounted c x xs h.1 (omega (arith, none, whole)) in
    let cons = weight_of-cons x (e.0, weight_of e.0 xs) (candidates c xs) in
    omega (arith, cons, at_differ x (e.0, weight_of e.0 xs) other, rest))

-- entries of 0 weigh nothing
weight_of-positive : (x : Bytes) (es : List Entry) → weight_of x (filter (exceeds 0) es) ≡ weight_of x es
weight_of-positive x [] = refl
weight_of-positive x (e ∷ es) = cond_both (nat_lt 0 e.1) _ _ (λ l. weight_of x l ≡ weight_of x (e ∷ es))
    (λ h. omega (arith, weight_of-cons x e (filter (exceeds 0) es), weight_of-cons x e es, weight_of-positive x es))
    (λ h. grind (arith, nat_tests, h, weight_of-cons x e es, weight_of-positive x es))

positive_kept : (es : List Entry) → AllByRecursion (λ (e : Entry). 0 < e.1) (filter (exceeds 0) es)
positive_kept es = recursion_from_All (λ (e : Entry). 0 < e.1) _ (All-weaker (λ e. exceeds 0 e ≡ true)
    (λ (e : Entry). 0 < e.1) (λ e t. grind (arith, nat_tests, t)) _ (filter_passes (exceeds 0) es))

-- ---- the counts
same_weights : (c : Counters) (xs : List Entry) → IsCounters c → (x : Bytes)
    → weight_of x (tally (filter (has_counter c) xs)) ≡ weight_of x (filter (exceeds 0) (candidates c xs))
same_weights c xs h x =
    weight_of-tally x (filter (has_counter c) xs)
    ∙ ⊎_elim (λ (some : 0 < weight_of x c).
    let rises = subst (IsStrictlySortedBy key_cmp) (sym (keys_of-candidates c xs)) h.rising in
    let there = candidates_in c xs (x, weight_of x c) (in_from_number x c h.rising some) in
    weight_of-kept c x xs some ∙ sym (number_from_in (x, weight_of x xs) (candidates c xs) rises there))
    (λ (few : weight_of x c ≤ 0). let none : weight_of x c ≡ 0 = omega arith in
    weight_of-dropped c x xs none ∙ sym (weight_of-uncounted c x xs h.positive none))
    (cases_lt 0 (weight_of x c))
    ∙ sym (weight_of-positive x (candidates c xs))

kept_is_counted : (c : Counters) (xs : List Entry) → IsCounters c → AllByRecursion (λ (e : Entry). 0 < e.1) xs
    → tally (filter (has_counter c) xs) ≡ filter (exceeds 0) (candidates c xs)
kept_is_counted c xs h p =
    same_counters _ _
    (counters-tally (filter (has_counter c) xs) (all-filter (λ (e : Entry). 0 < e.1) (has_counter c) xs p))
    (record {
      rising = rising-filter (exceeds 0) (candidates c xs) (subst (IsStrictlySortedBy key_cmp)
          (sym (keys_of-candidates c xs)) h.rising);
      positive = positive_kept (candidates c xs);
    })
    (same_weights c xs h)

-- counting the keys of counters over items, and what that leaves of the total, gives the condensed items
pub condensed_counts : (c : Counters) (xs : List Entry) → IsCounters c → All (λ e. 0 < e.1) xs → let counts =
    filter (exceeds 0) (zip (keys_of c) (weights_at (keys_of c) xs)) in
    (total_of counts ≤ total_of xs) × (condensed c xs ≡ counts ++ entry_of (free_name c)
    (total_of xs - total_of counts))
unfolding condensed
condensed_counts c xs h p =
    let kept = kept_is_counted c xs h (recursion_from_All (λ (e : Entry). 0 < e.1) xs p)
    ∙ ap (filter (exceeds 0)) (sym (zip-weights_at c xs)) in
    let counts : List Entry = filter (exceeds 0) (zip (keys_of c) (weights_at (keys_of c) xs)) in
    let both = sum_by-filter_both (has_counter c) (lacks_counter c) (λ e. refl) (λ (e : Entry). e.1) xs in
    let held : total_of (filter (has_counter c) xs) ≡ total_of counts =
    sym (total_of-tally (filter (has_counter c) xs)) ∙ ap total_of kept in
    let rest : other_weight c xs ≡ total_of xs - total_of counts = omega (arith, both, held) in
    (omega (arith, both, held), ap₂ (λ (es : List Entry) n. es ++ entry_of (free_name c) n) kept rest)

-- there are at most as many as counters, and one more
pub few-condensed : (c : Counters) (xs : List Entry) → IsCounters c → All (λ e. 0 < e.1) xs
    → length (condensed c xs) ≤ length c + 1
few-condensed c xs h p =
    let pairs : List Entry = zip (keys_of c) (weights_at (keys_of c) xs) in
    let counts : List Entry = filter (exceeds 0) pairs in
    let rest : List Entry = entry_of (free_name c) (total_of xs - total_of counts) in
    let one : length rest ≤ 1 = cond_both (nat_lt 0 (total_of xs - total_of counts)) _ _ (λ (es : List Entry). length es ≤ 1)
    (λ _. omega arith) (λ _. omega arith) in
    omega (
      arith,
      ap length (condensed_counts c xs h p).1,
      length-append counts rest,
      length-filter (exceeds 0) pairs,
      count_by-le-length (exceeds 0) pairs,
      ap length (zip-weights_at c xs),
      length-map c (λ (e : Entry). let d : Entry = (e.0, weight_of e.0 xs) in d),
      one,
    )

-- ---- the keys
all_keys-add_at : (P : Bytes → Type 0) (c : Counters) (e : Entry) → AllByRecursion (λ (d : Entry). P d.0) c → P e.0
    → AllByRecursion (λ (d : Entry). P d.0) (add_at c e)
all_keys-add_at P [] e h p = (p, tt)
all_keys-add_at P (d ∷ c) e h p = by_add_at (AllByRecursion (λ (d : Entry). P d.0)) c d e (λ _. (p, h)) (λ _. h)
    (λ _. (h.0, all_keys-add_at P c e h.1 p))

all_keys-from : (P : Bytes → Type 0) (c : Counters) (xs : List Entry) → AllByRecursion (λ (d : Entry). P d.0) c
    → AllByRecursion (λ (d : Entry). P d.0) xs → AllByRecursion (λ (d : Entry). P d.0) (fold add_at c xs)
all_keys-from P c [] h p = h
all_keys-from P c (e ∷ xs) h p = all_keys-from P (add_at c e) xs (all_keys-add_at P c e h p.0) p.1

all_keys-tally : (P : Bytes → Type 0) (xs : List Entry) → AllByRecursion (λ (d : Entry). P d.0) xs
    → AllByRecursion (λ (d : Entry). P d.0) (tally xs)
unfolding tally
all_keys-tally P xs p = all_keys-from P [] xs tt p

below_256 : (ds : List ℕ) → AllByRecursion (λ d. d < 10) ds → AllByRecursion (λ d. d < 256) (map (λ d. 48 + d) ds)
below_256 [] h = tt
below_256 (d ∷ ds) h = (omega (arith, h.0), below_256 ds h.1)

each_below : (bs : List ℕ) → AllByRecursion (λ d. d < 256) bs → EachIndex bs (λ i. slice_index bs i < 256)
each_below [] h i l = absurd (omega (arith, l))
each_below (b ∷ bs) h zero l = h.0
each_below (b ∷ bs) h (suc i) l = each_below bs h.1 i (omega (arith, l))

name_is_key : (i : ℕ) → i ≤ max_k → IsKey (other_name i)
name_is_key i small =
    let ds = digits_of 10 i in
    let digits : length ds ≤ 5 = length-digits_of-le 10 5 i (omega arith) (omega (arith, small)) in
    let size : length (map (λ d. 48 + d) ds) ≡ length ds = length-map ds (λ d. 48 + d) in
    record {
      some = omega arith;
      few = omega (arith, digits, size);
      bytes = each_below (other_name i) (all-append (λ d. d < 256) (codes "others") (map (λ d. 48 + d) ds)
          (search rules)
          (below_256 ds (all_below_base_digits_of 10 i (omega arith))));
    }

key-entry_of : (y : Bytes) (n : ℕ) → IsKey y → AllByRecursion (λ (e : Entry). IsKey e.0) (entry_of y n)
key-entry_of y n key =
    cond_both (nat_lt 0 n) _ _ (AllByRecursion (λ (e : Entry). IsKey e.0)) (λ _. (key, tt)) (λ _. tt)

-- the keys of condensed items are keys
pub keys-condensed : (c : Counters) (xs : List Entry) → length c ≤ max_k → AllByRecursion (λ e. IsKey e.0) xs
    → AllByRecursion (λ e. IsKey e.0) (condensed c xs)
unfolding condensed
keys-condensed c xs few keys =
    let g = free_is_first c in
    let name : IsKey (free_name c) = subst IsKey (sym g.named) (name_is_key g.number (omega (arith, g.few, few))) in
    all-append (λ (e : Entry). IsKey e.0) (tally (filter (has_counter c) xs))
    (entry_of (free_name c) (other_weight c xs))
    (all_keys-tally IsKey (filter (has_counter c) xs) (all-filter (λ (e : Entry). IsKey e.0) (has_counter c) xs keys))
    (key-entry_of (free_name c) (other_weight c xs) name)
