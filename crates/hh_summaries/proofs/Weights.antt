-- Weights of lists, and what adding an entry does to counters.
use Rattle.std.proofs.Common.{◌≡◌, ℕ, ◌+◌, ◌<◌, ◌≤◌, Bool, true, false, cond, List, Option, Some, None, zero, suc, subst, [], ◌∷◌, ◌++◌, Ordering, Less, Equal, Greater, is_eq, refl, sym, ap, ◌∙◌, add-zero, arith}
use Rattle.std.specs.Prelude.{fold, unwrap_or, IfSome, Contains}
use Rattle.std.specs.List.{AllByRecursion, IsDistinct}
use Rattle.std.specs.List.Sorted.{IsStrictlySortedBy}
use Rattle.std.specs.Map.{keys_of, lookup}
use Rattle.std.specs.Cmp.{IsTotalOrder, Equal-is, eq_by_cmp_equiv}
use Rattle.std.specs.Ordering.{match_ordering, ordering_reverse}
use Rattle.std.proofs.lemmas.Cmp.{nat_list_cmp_total, on_total, tied_itself}
use Rattle.std.proofs.lemmas.Map.Lookups.{exact_bytes}
use Rattle.std.proofs.lemmas.Map.{lookup-none}
use Rattle.std.proofs.lemmas.Map.Entries.{length-keys_of, none_past_head}
use Rattle.std.proofs.lemmas.Map.Keys.{IsDistinct-from_sorted, Less-from_sorted, sorted_from_all_adjacent}
use Rattle.std.proofs.lemmas.Map.Views.{IfSome-lookup, lookup-from_Contains}
use Rattle.std.proofs.lemmas.Bool.{cond_both}
use Rattle.std.proofs.lemmas.List.{get_or-map}
use Rattle.std.proofs.lemmas.List.Elements.{All-contains, All-from_recursion}
use Rattle.std.proofs.lemmas.List.Sums.{sum_by-cons, sum_by-append, sum_by-le-sum_by, fold-append}
use Rattle.hh_stream.specs.Weights.{Bytes, Entry, key_cmp, same_key, at_key, weight_of, total_of}
use Rattle.hh_summaries.specs.Counters.{Counters, IsCounters, add_at, tally, plus}

-- ---- keys
-- the order of keys is total
pub key_total : IsTotalOrder key_cmp
key_total = nat_list_cmp_total

-- keys that compare as equal are equal
pub key_exact : (x y : Bytes) → key_cmp x y ≡ Equal → x ≡ y
key_exact = exact_bytes

-- a key compares as equal with itself
pub key_self : (x : Bytes) → key_cmp x x ≡ Equal
key_self x = tied_itself key_total x

-- keys compared the other way round
pub flipped : (x y : Bytes) (r : Ordering) → key_cmp x y ≡ r → key_cmp y x ≡ ordering_reverse r
flipped x y r p = key_total.antisymm y x ∙ ap ordering_reverse p

-- a key above another has that one below it
pub turned : (x y : Bytes) → key_cmp x y ≡ Greater → key_cmp y x ≡ Less
turned x y p = key_total.antisymm y x ∙ ap ordering_reverse p

-- keys that pass the test of equality are equal
pub same_exact : (x y : Bytes) → same_key x y ≡ true → x ≡ y
same_exact x y e = key_exact x y ((Equal-is (key_cmp x y)).0 e)

-- the test of equality the other way round
pub same_sym : (x y : Bytes) → same_key x y ≡ same_key y x
same_sym x y = (eq_by_cmp_equiv key_total).symm x y

-- a key passes it with itself
pub same_self : (x : Bytes) → same_key x x ≡ true
same_self x = ap is_eq (key_self x)

-- an entry counts at its key
pub at_here : (x : Bytes) (e : Entry) → same_key x e.0 ≡ true → at_key x e ≡ e.1
at_here x e s = ap (λ b. cond b e.1 0) s

-- and nowhere else
pub at_differ : (x : Bytes) (e : Entry) → same_key x e.0 ≡ false → at_key x e ≡ 0
at_differ x e s = ap (λ b. cond b e.1 0) s

-- a claim for each key, at e's and at any other
pub by_key : (q : Bytes) (e : Entry) (P : Type 0) → (q ≡ e.0 → at_key q e ≡ e.1 → P)
    → (same_key q e.0 ≡ false → at_key q e ≡ 0 → P) → P
by_key q e P at_it elsewhere = by (same_key q e.0) refl
  where
    by : (b : Bool) → same_key q e.0 ≡ b → P
    by true s = at_it (same_exact q e.0 s) (at_here q e s)
    by false s = elsewhere s (at_differ q e s)

-- ---- sums
-- a weight in a list, with one more item
pub weight_of-cons : (x : Bytes) (e : Entry) (xs : List Entry) → weight_of x (e ∷ xs) ≡ at_key x e + weight_of x xs
weight_of-cons x e xs = sum_by-cons (at_key x) e xs

-- and the total
pub total_of-cons : (e : Entry) (xs : List Entry) → total_of (e ∷ xs) ≡ e.1 + total_of xs
total_of-cons e xs = sum_by-cons (λ e. e.1) e xs

-- a weight in two lists together
pub weight_of-append : (x : Bytes) (xs ys : List Entry) → weight_of x (xs ++ ys) ≡ weight_of x xs + weight_of x ys
weight_of-append x xs ys = sum_by-append (at_key x) xs ys

-- and the total
pub total_of-append : (xs ys : List Entry) → total_of (xs ++ ys) ≡ total_of xs + total_of ys
total_of-append xs ys = sum_by-append (λ e. e.1) xs ys

-- no key weighs more than all
pub weight_of-le-total_of : (x : Bytes) (xs : List Entry) → weight_of x xs ≤ total_of xs
weight_of-le-total_of x xs = sum_by-le-sum_by (at_key x) (λ (e : Entry). e.1) xs (λ e. grind arith)

-- a sum where a test passes, or 0, is the sum of both so taken
pub at_both : (b : Bool) (m n : ℕ) → cond b (m + n) 0 ≡ cond b m 0 + cond b n 0
at_both true m n = refl
at_both false m n = refl

-- ---- an entry added
-- a claim on counters after an item, where its key comes before all others, is the first or comes later
pub by_add_at : (P : Counters → Type 0) (c : Counters) (d e : Entry) → (key_cmp e.0 d.0 ≡ Less → P (e ∷ d ∷ c))
    → (e.0 ≡ d.0 → P ((d.0, d.1 + e.1) ∷ c)) → (key_cmp d.0 e.0 ≡ Less → P (d ∷ add_at c e)) → P (add_at (d ∷ c) e)
by_add_at P c d e before here later = by (key_cmp e.0 d.0) refl
  where
    by : (r : Ordering) → key_cmp e.0 d.0 ≡ r
        → P (match_ordering r (e ∷ d ∷ c) ((d.0, d.1 + e.1) ∷ c) (d ∷ add_at c e))
    by Less p = before p
    by Equal p = here (key_exact e.0 d.0 p)
    by Greater p = later (turned e.0 d.0 p)

-- a weight with an item added to counters
pub weight_of-add_at : (x : Bytes) (c : Counters) (e : Entry) → weight_of x (add_at c e) ≡ weight_of x c + at_key x e
weight_of-add_at x [] e = refl
weight_of-add_at x (d ∷ c) e = by_add_at (λ b. weight_of x b ≡ weight_of x (d ∷ c) + at_key x e) c d e
    (λ p. omega (arith, weight_of-cons x e (d ∷ c)))
    (λ p. let same : at_key x e ≡ cond (same_key x d.0) e.1 0 = ap (λ y. cond (same_key x y) e.1 0) p in
    omega (arith, weight_of-cons x (d.0, d.1 + e.1) c, weight_of-cons x d c, at_both (same_key x d.0) d.1 e.1))
    (λ p. omega (arith, weight_of-cons x d (add_at c e), weight_of-cons x d c, weight_of-add_at x c e))

-- and the total
pub total_of-add_at : (c : Counters) (e : Entry) → total_of (add_at c e) ≡ total_of c + e.1
total_of-add_at [] e = refl
total_of-add_at (d ∷ c) e = by_add_at (λ b. total_of b ≡ total_of (d ∷ c) + e.1) c d e
    (λ p. omega (arith, total_of-cons e (d ∷ c)))
    (λ p. omega (arith, total_of-cons (d.0, d.1 + e.1) c, total_of-cons d c))
    (λ p. omega (arith, total_of-cons d (add_at c e), total_of-cons d c, total_of-add_at c e))

-- a key below all of them and below e
above_add_at : (z : Bytes) (c : Counters) (e : Entry) → key_cmp z e.0 ≡ Less
    → AllByRecursion (λ y. key_cmp z y ≡ Less) (keys_of c)
    → AllByRecursion (λ y. key_cmp z y ≡ Less) (keys_of (add_at c e))
above_add_at z [] e p h = (p, h)
above_add_at z (d ∷ c) e p h = by_add_at (λ b. AllByRecursion (λ y. key_cmp z y ≡ Less) (keys_of b)) c d e
    (λ _. (p, h)) (λ _. h) (λ _. (h.0, above_add_at z c e p h.1))

-- what is below the first is below all
pub above_first : (z y : Bytes) (ks : List Bytes) → key_cmp z y ≡ Less → AllByRecursion (λ k. key_cmp y k ≡ Less) ks
    → AllByRecursion (λ k. key_cmp z k ≡ Less) ks
above_first z y [] p h = h
above_first z y (k ∷ ks) p h = (key_total.trans z y k p h.0, above_first z y ks p h.1)

-- the keys still rise
pub rising-add_at : (c : Counters) (e : Entry) → IsStrictlySortedBy key_cmp (keys_of c)
    → IsStrictlySortedBy key_cmp (keys_of (add_at c e))
unfolding IsStrictlySortedBy
rising-add_at [] e h = (tt, tt)
rising-add_at (d ∷ c) e h = by_add_at (λ b. IsStrictlySortedBy key_cmp (keys_of b)) c d e
    (λ p. ((p, above_first e.0 d.0 (keys_of c) p h.0), h)) (λ p. h)
    (λ p. (above_add_at d.0 c e p h.0, rising-add_at c e h.1))

-- ---- a list counted up
weight_of-tally_from : (x : Bytes) (c : Counters) (xs : List Entry)
    → weight_of x (fold add_at c xs) ≡ weight_of x c + weight_of x xs
weight_of-tally_from x c [] = sym (add-zero (weight_of x c))
weight_of-tally_from x c (e ∷ xs) =
    omega (arith, weight_of-tally_from x (add_at c e) xs, weight_of-add_at x c e, weight_of-cons x e xs)

-- a tally has the weights of the items
pub weight_of-tally : (x : Bytes) (xs : List Entry) → weight_of x (tally xs) ≡ weight_of x xs
unfolding tally
weight_of-tally x xs = omega (arith, weight_of-tally_from x [] xs)

total_of-tally_from : (c : Counters) (xs : List Entry) → total_of (fold add_at c xs) ≡ total_of c + total_of xs
total_of-tally_from c [] = sym (add-zero (total_of c))
total_of-tally_from c (e ∷ xs) =
    omega (arith, total_of-tally_from (add_at c e) xs, total_of-add_at c e, total_of-cons e xs)

-- and their total
pub total_of-tally : (xs : List Entry) → total_of (tally xs) ≡ total_of xs
unfolding tally
total_of-tally xs = omega (arith, total_of-tally_from [] xs)

rising-tally_from : (c : Counters) (xs : List Entry) → IsStrictlySortedBy key_cmp (keys_of c)
    → IsStrictlySortedBy key_cmp (keys_of (fold add_at c xs))
rising-tally_from c [] h = h
rising-tally_from c (e ∷ xs) h = rising-tally_from (add_at c e) xs (rising-add_at c e h)

-- its keys rise
pub rising-tally : (xs : List Entry) → IsStrictlySortedBy key_cmp (keys_of (tally xs))
unfolding tally IsStrictlySortedBy
rising-tally xs = rising-tally_from [] xs tt

-- numbers stay positive where an item is added
pub positive-add_at : (c : Counters) (e : Entry) → AllByRecursion (λ d. 0 < d.1) c → 0 < e.1
    → AllByRecursion (λ d. 0 < d.1) (add_at c e)
positive-add_at [] e h p = (p, tt)
positive-add_at (d ∷ c) e h p = by_add_at (AllByRecursion (λ d. 0 < d.1)) c d e
    (λ _. (p, h)) (λ _. (omega arith, h.1)) (λ _. (h.0, positive-add_at c e h.1 p))

positive-tally_from : (c : Counters) (xs : List Entry) → AllByRecursion (λ d. 0 < d.1) c
    → AllByRecursion (λ d. 0 < d.1) xs → AllByRecursion (λ d. 0 < d.1) (fold add_at c xs)
positive-tally_from c [] h p = h
positive-tally_from c (e ∷ xs) h p = positive-tally_from (add_at c e) xs (positive-add_at c e h p.0) p.1

-- the numbers of a tally are positive where the weights are
pub positive-tally : (xs : List Entry) → AllByRecursion (λ d. 0 < d.1) xs → AllByRecursion (λ d. 0 < d.1) (tally xs)
unfolding tally
positive-tally xs p = positive-tally_from [] xs tt p

-- items of weight at least 1 give counters
pub counters-tally : (xs : List Entry) → AllByRecursion (λ d. 0 < d.1) xs → IsCounters (tally xs)
counters-tally xs p = record { rising = rising-tally xs; positive = positive-tally xs p }

-- what all of two lists have, all of both together have
pub all-append : {X : Type 0} (P : X → Type 0) (c d : List X) → AllByRecursion P c → AllByRecursion P d
    → AllByRecursion P (c ++ d)
all-append P [] d h g = g
all-append P (e ∷ c) d h g = (h.0, all-append P c d h.1 g)

-- the sum of counters is counters
pub counters-plus : (c d : Counters) → IsCounters c → IsCounters d → IsCounters (plus c d)
counters-plus c d h g = counters-tally (c ++ d) (all-append _ c d h.positive g.positive)

-- a weight in a sum
pub weight_of-plus : (x : Bytes) (c d : Counters) → weight_of x (plus c d) ≡ weight_of x c + weight_of x d
weight_of-plus x c d = weight_of-tally x (c ++ d) ∙ weight_of-append x c d

-- and the total
pub total_of-plus : (c d : Counters) → total_of (plus c d) ≡ total_of c + total_of d
total_of-plus c d = total_of-tally (c ++ d) ∙ total_of-append c d

-- ---- two finite maps that agree at each key are one
at_same : (x : Bytes) (n : ℕ) → at_key x (x, n) ≡ n
at_same x n = ap (λ r. cond (is_eq r) n 0) (key_self x)

-- at another key an entry weighs nothing
pub at_other : (x : Bytes) (e : Entry) (r : Ordering) → key_cmp x e.0 ≡ r → is_eq r ≡ false → at_key x e ≡ 0
at_other x e r p q = ap (λ r. cond (is_eq r) e.1 0) p ∙ ap (λ b. cond b e.1 0) q

-- a key below all of the counters weighs nothing
pub weight_above : (x : Bytes) (c : Counters) → AllByRecursion (λ y. key_cmp x y ≡ Less) (keys_of c) → weight_of x c ≡ 0
weight_above x [] h = refl
weight_above x (e ∷ c) h = omega (arith, weight_of-cons x e c, at_other x e Less h.0 refl, weight_above x c h.1)

-- the first entry's key has that entry's number
pub weight_first : (e : Entry) (c : Counters) → AllByRecursion (λ y. key_cmp e.0 y ≡ Less) (keys_of c)
    → weight_of e.0 (e ∷ c) ≡ e.1
weight_first e c h = omega (arith, weight_of-cons e.0 e c, at_same e.0 e.1, weight_above e.0 c h)

-- no two entries have one key
abbrev pub Distinct : List Entry → Type 0
Distinct es = IsDistinct same_key (keys_of es)

-- with distinct keys a weight is what a look-up finds
pub weight_of-lookup : (q : Bytes) (es : List Entry) → Distinct es
    → weight_of q es ≡ unwrap_or (lookup (same_key q) es) 0
unfolding IsDistinct
weight_of-lookup q [] h = refl
weight_of-lookup q (e ∷ es) h =
    cond_both (same_key q e.0) (Some e.1) (lookup (same_key q) es) (λ o. weight_of q (e ∷ es) ≡ unwrap_or o 0)
    (λ s. let none = lookup-none (same_key q) es (none_past_head (eq_by_cmp_equiv key_total) q e es h s) in
    omega (arith, weight_of-cons q e es, at_here q e s, weight_of-lookup q es h.1, ap (λ o. unwrap_or o 0) none))
    (λ s. omega (arith, weight_of-cons q e es, at_differ q e s, weight_of-lookup q es h.1))

-- an entry of counters is the key's number
pub number_from_in : (x : Entry) (c : Counters) → IsStrictlySortedBy key_cmp (keys_of c) → Contains c x
    → weight_of x.0 c ≡ x.1
number_from_in x c h i =
    let apart = IsDistinct-from_sorted key_cmp (keys_of c) h in
    weight_of-lookup x.0 c apart
    ∙ ap (λ o. unwrap_or o 0) (lookup-from_Contains (eq_by_cmp_equiv key_total) x.0 x.1 c apart i)

-- and positive
pub positive_in : (c : Counters) (e : Entry) → IsCounters c → Contains c e → 0 < e.1
positive_in c e h i = All-contains (λ (d : Entry). 0 < d.1) c e (All-from_recursion (λ d. 0 < d.1) c h.positive) i

-- a key with a number has its entry
pub in_from_number : (x : Bytes) (c : Counters) → IsStrictlySortedBy key_cmp (keys_of c) → 0 < weight_of x c
    → Contains c (x, weight_of x c)
in_from_number x c h l = by (lookup (same_key x) c) (IfSome-lookup same_exact x c)
    (weight_of-lookup x c (IsDistinct-from_sorted key_cmp (keys_of c) h))
  where
    by : (o : Option ℕ) → IfSome o (λ n. Contains c (x, n)) → weight_of x c ≡ unwrap_or o 0
        → Contains c (x, weight_of x c)
    by None i w = absurd (omega (arith, l, w))
    by (Some n) i w = subst (λ m. Contains c (x, m)) (sym w) i

-- two lists that rise strictly in one order and have the same elements are one
pub same_rising : {X : Type 0} {R : X → X → Ordering} → IsTotalOrder R → (c d : List X) → IsStrictlySortedBy R c
    → IsStrictlySortedBy R d → ((x : X) → Contains c x → Contains d x) → ((x : X) → Contains d x → Contains c x)
    → c ≡ d
unfolding IsStrictlySortedBy
same_rising o [] [] h g f b = refl
same_rising o [] (y ∷ d) h g f b = absurd (omega (arith, (b y (0, omega arith, refl)).1))
same_rising o (x ∷ c) [] h g f b = absurd (omega (arith, (f x (0, omega arith, refl)).1))
same_rising {X} {R} o (x ∷ c) (y ∷ d) h g f b =
    let rest = same_rising o c d h.1 g.1
    (λ z i. later y x z d (sym first) (below x z c h.0 i) (f z (suc i.0, omega (arith, i.1), i.2)))
    (λ z i. later x y z c first (below y z d g.0 i) (b z (suc i.0, omega (arith, i.1), i.2))) in
    λ i. first i ∷ rest i
  where
    below : (z w : X) (e : List X) → AllByRecursion (λ v. R z v ≡ Less) e → Contains e w → R z w ≡ Less
    below z w e a i = All-contains (λ v. R z v ≡ Less) e w (All-from_recursion (λ v. R z v ≡ Less) e a) i

    heads : Contains (y ∷ d) x → Contains (x ∷ c) y → x ≡ y
    heads (zero, l, is) j = sym is
    heads (suc k, l, is) (zero, m, at) = at
    heads (suc k, l, is) (suc j, m, at) =
        absurd (cc (o.antisymm y x, below x y c h.0 (j, omega arith, at), below y x d g.0 (k, omega arith, is)))

    first : x ≡ y
    first = heads (f x (0, omega arith, refl)) (b y (0, omega arith, refl))

    later : (v w z : X) (e : List X) → v ≡ w → R w z ≡ Less → Contains (v ∷ e) z → Contains e z
    later v w z e same less (zero, l, is) = absurd (cc (tied_itself o z))
    later v w z e same less (suc k, l, is) = (k, omega arith, is)

-- the entries of counters rise by their keys
pub rising_entries : (c : Counters) → IsStrictlySortedBy key_cmp (keys_of c)
    → IsStrictlySortedBy (λ (d e : Entry). key_cmp d.0 e.0) c
rising_entries c h = sorted_from_all_adjacent (on_total (λ (e : Entry). e.0) key_total) c ([], 0) (λ k l.
    let less = Less-from_sorted key_cmp (keys_of c) k (k + 1) [] h (omega arith) (omega (arith, l, length-keys_of c)) in
    let here = get_or-map (λ (e : Entry). e.0) c k ([], 0) [] (omega arith) in
    cc (less, here, get_or-map (λ (e : Entry). e.0) c (k + 1) ([], 0) [] l))

-- counters with the same weights are the same
pub same_counters : (c d : Counters) → IsCounters c → IsCounters d → ((x : Bytes) → weight_of x c ≡ weight_of x d)
    → c ≡ d
same_counters c d h g same = same_rising (on_total (λ (e : Entry). e.0) key_total) c d (rising_entries c h.rising)
    (rising_entries d g.rising) (has c d h g same) (has d c g h (λ x. sym (same x)))
  where
    has : (c d : Counters) → IsCounters c → IsCounters d → ((x : Bytes) → weight_of x c ≡ weight_of x d) → (e : Entry)
        → Contains c e → Contains d e
    has c d h g same e i =
        let at = sym (same e.0) ∙ number_from_in e c h.rising i in
        let some = positive_in c e h i in
        subst (λ n. Contains d (e.0, n)) at (in_from_number e.0 d g.rising (omega (arith, at, some)))

-- ---- adding entries to counters
pub tally_of_counters : (c : Counters) → IsCounters c → tally c ≡ c
tally_of_counters c h = same_counters (tally c) c (counters-tally c h.positive) h (λ x. weight_of-tally x c)

-- a sum of counters, entry by entry
pub plus_is_fold : (c d : Counters) → IsCounters c → plus c d ≡ fold add_at c d
unfolding tally
plus_is_fold c d h = fold-append add_at [] c d ∙ ap (λ (b : Counters). fold add_at b d) (tally_of_counters c h)
