-- Candidates counted item by item.
use Rattle.std.proofs.Common.{◌≡◌, ◌↔◌, ℕ, zero, suc, ◌+◌, ◌<◌, ◌≤◌, false, cond, List, [], ◌∷◌, ◌++◌, length, get_or, take, Option, Some, None, Less, is_eq, is_some, refl, sym, ap, ap₂, ◌∙◌, subst, true≢false, arith, All, replicate, position, slice_get, slice_set, Contains, IsSome}
use Rattle.std.specs.List.{AllByRecursion, list_any}
use Rattle.std.specs.List.Sorted.{IsStrictlySortedBy}
use Rattle.std.specs.Cmp.{eq_by_cmp_equiv}
use Rattle.std.proofs.lemmas.Option.{slice_get-get_or, slice_get_within, get_or_from_slice_get}
use Rattle.std.proofs.lemmas.List.{get_or_default, get_or-take, length-take, take_more}
use Rattle.std.proofs.lemmas.List.Elements.{All-from_recursion}
use Rattle.std.proofs.lemmas.Bool.{false_from_ne_true}
use Rattle.std.proofs.lemmas.List.Folds.{list_any_none}
use Rattle.std.proofs.lemmas.List.Quantifiers.{position-Some}
use Rattle.std.proofs.lemmas.Map.Keys.{Less-from_sorted}
use Rattle.std.proofs.lemmas.Map.Views.{list_any-from_Contains}
use Rattle.indexmap.specs.IndexSet.{insert_key}
use Rattle.hh_stream.specs.Weights.{Bytes, Entry, key_cmp, same_key, at_key, weight_of, total_of}
use Rattle.hh_summaries.specs.Report.{weights_at, counts_with}
use Rattle.hh_summaries.proofs.Weights.{at_differ, same_exact, key_total, key_self, flipped, weight_of-append, weight_of-cons, weight_of-le-total_of, at_other}

-- counted from 0, each key has its weight
pub counted_from_zero : (ks : List Bytes) (xs : List Entry)
    → counts_with ks xs (replicate (length ks) 0) ≡ weights_at ks xs
counted_from_zero [] xs = refl
counted_from_zero (x ∷ ks) xs = ap₂ (λ n (ns : List ℕ). n ∷ ns) (omega arith) (counted_from_zero ks xs)

-- counting one list and then another is counting both together
pub counted-append : (ks : List Bytes) (xs ys : List Entry) (ns : List ℕ)
    → counts_with ks (xs ++ ys) ns ≡ counts_with ks ys (counts_with ks xs ns)
counted-append [] xs ys ns = refl
counted-append (x ∷ ks) xs ys [] = refl
counted-append (x ∷ ks) xs ys (n ∷ ns) =
    ap₂ (λ n (ns : List ℕ). n ∷ ns) (omega (arith, weight_of-append x xs ys)) (counted-append ks xs ys ns)

-- nothing counted changes nothing
pub counted_none : (ks : List Bytes) (ns : List ℕ) → length ns ≡ length ks → counts_with ks [] ns ≡ ns
counted_none [] ns e = refl
counted_none (x ∷ ks) [] e = refl
counted_none (x ∷ ks) (n ∷ ns) e = ap₂ (λ n (ns : List ℕ). n ∷ ns) (omega arith) (counted_none ks ns (omega arith))

-- ---- a look-up
found_at : (ks : List Bytes) (x : Bytes) (i : ℕ) → position (same_key x) ks ≡ Some i → slice_get ks i ≡ Some x
found_at ks x i e =
    let p = position-Some (same_key x) ks i x e in
    slice_get-get_or ks i x p.0 ∙ ap Some (sym (same_exact x (get_or ks i x) p.1))

-- rising keys have a key at one place
one_place : (ks : List Bytes) (x : Bytes) (i j : ℕ) → IsStrictlySortedBy key_cmp ks → slice_get ks i ≡ Some x
    → slice_get ks j ≡ Some x → i < j → ⊥
one_place ks x i j h e f l =
    let less : key_cmp (get_or ks i x) (get_or ks j x) ≡ Less =
    Less-from_sorted key_cmp ks i j x h l (slice_get_within ks j x f) in
    cc (less, ap₂ key_cmp (get_or_from_slice_get ks i x x e) (get_or_from_slice_get ks j x x f), key_self x)

-- what a look-up by hash says of rising keys
pub place_is : (ks : List Bytes) (x : Bytes) (r : Option ℕ) → IsStrictlySortedBy key_cmp ks
    → r ≡ position (same_key x) ks → is_some r ≡ list_any (same_key x) ks → (i : ℕ)
    → (r ≡ Some i) ↔ (slice_get ks i ≡ Some x)
place_is ks x None h e found i = (
  λ p. absurd (cc p),
  λ p. absurd (true≢false (sym (list_any-from_Contains (eq_by_cmp_equiv key_total) x ks
      (i, slice_get_within ks i x p, get_or_from_slice_get ks i x x p)) ∙ sym found)),
)
place_is ks x (Some j) h e found i =
    let at_j = found_at ks x j (sym e) in (
      λ p. found_at ks x i (sym e ∙ p),
      λ p. let same : j ≡ i = grind (arith, one_place ks x i j h p at_j, one_place ks x j i h at_j p) in ap Some same,
    )

-- a look-up by hash finds a key where it is one of them
pub place_found : (ks : List Bytes) (x : Bytes) (r : Option ℕ) → r ≡ position (same_key x) ks
    → is_some r ≡ list_any (same_key x) ks → IsSome r ↔ Contains ks x
place_found ks x None e found = (
  λ p. absurd (true≢false (sym p)),
  λ p. absurd (true≢false (sym (list_any-from_Contains (eq_by_cmp_equiv key_total) x ks p) ∙ sym found)),
)
place_found ks x (Some j) e found =
    let at_j = found_at ks x j (sym e) in
    (λ p. (j, slice_get_within ks j x at_j, get_or_from_slice_get ks j x x at_j), λ p. refl)

-- ---- one more item
weight_of-one : (x : Bytes) (e : Entry) → weight_of x (e ∷ []) ≡ at_key x e
weight_of-one x e = omega (arith, weight_of-cons x e [])

-- an item whose key is none of them
counted_miss : (ks : List Bytes) (ns : List ℕ) (e : Entry) → length ns ≡ length ks
    → AllByRecursion (λ y. same_key y e.0 ≡ false) ks → counts_with ks (e ∷ []) ns ≡ ns
counted_miss [] ns e l h = refl
counted_miss (k ∷ ks) [] e l h = refl
counted_miss (k ∷ ks) (n ∷ ns) e l h = ap₂ (λ n (ns : List ℕ). n ∷ ns)
    (omega (arith, weight_of-one k e, at_differ k e h.0)) (counted_miss ks ns e (omega arith) h.1)

above_differ : (x : Bytes) (ks : List Bytes) → AllByRecursion (λ y. key_cmp x y ≡ Less) ks
    → AllByRecursion (λ y. same_key y x ≡ false) ks
above_differ x [] h = tt
above_differ x (k ∷ ks) h = (ap is_eq (flipped x k Less h.0), above_differ x ks h.1)

none_of_them : (ks : List Bytes) (x : Bytes) → ((i : ℕ) → slice_get ks i ≡ Some x → ⊥)
    → AllByRecursion (λ y. same_key y x ≡ false) ks
none_of_them [] x h = tt
none_of_them (k ∷ ks) x h =
    (false_from_ne_true _ (λ e. h 0 (ap Some (same_exact k x e))), none_of_them ks x (λ i p. h (suc i) p))

-- an item whose key is the one at this place
counted_hit : (ks : List Bytes) (ns : List ℕ) (p : ℕ) (e : Entry) → length ns ≡ length ks
    → IsStrictlySortedBy key_cmp ks → slice_get ks p ≡ Some e.0
    → slice_set ns p (get_or ns p 0 + e.1) ≡ counts_with ks (e ∷ []) ns
unfolding IsStrictlySortedBy
counted_hit [] ns p e l h at = absurd (omega (arith, slice_get_within [] p e.0 at))
counted_hit (k ∷ ks) [] p e l h at = absurd (omega (arith, l))
counted_hit (k ∷ ks) (n ∷ ns) zero e l h at =
    let same : k ≡ e.0 = get_or_from_slice_get (k ∷ ks) 0 e.0 k at in
    let weight : weight_of k (e ∷ []) ≡ e.1 = weight_of-one k e ∙ ap (λ y. cond (same_key y e.0) e.1 0) same
    ∙ ap (λ r. cond (is_eq r) e.1 0) (key_self e.0) in
    let above = subst (λ y. AllByRecursion (λ z. key_cmp y z ≡ Less) ks) same h.0 in
    ap₂ (λ n (ns : List ℕ). n ∷ ns) (omega (arith, weight))
    (sym (counted_miss ks ns e (omega arith) (above_differ e.0 ks above)))
counted_hit (k ∷ ks) (n ∷ ns) (suc p) e l h at =
    let less = subst (λ y. key_cmp k y ≡ Less) (get_or_from_slice_get ks p e.0 e.0 at)
    (All-from_recursion (λ y. key_cmp k y ≡ Less) ks h.0 p e.0 (slice_get_within ks p e.0 at)) in
    ap₂ (λ n (ns : List ℕ). n ∷ ns) (omega (arith, weight_of-one k e, at_other k e Less less refl))
    (counted_hit ks ns p e (omega arith) h.1 at)

-- one turn of the count, at a candidate and elsewhere
pub count_turn : (ks : List Bytes) (xs : List Entry) (ns now new : List ℕ) (i : ℕ) (e : Entry) → i < length xs
    → e ≡ get_or xs i e → now ≡ counts_with ks (take i xs) ns → new ≡ counts_with ks (e ∷ []) now
    → new ≡ counts_with ks (take (i + 1) xs) ns
count_turn ks xs ns now new i e l is before after =
    after ∙ ap (counts_with ks (e ∷ [])) before ∙ sym (counted-append ks (take i xs) (e ∷ []) ns)
    ∙ ap (λ (ys : List Entry). counts_with ks ys ns) (ap (λ y. take i xs ++ y ∷ []) is ∙ sym (take_more xs i e l))

-- an item of the key at this place
pub count_hit : (ks : List Bytes) (now : List ℕ) (p : ℕ) (x : Bytes) (w : ℕ) → IsStrictlySortedBy key_cmp ks
    → length now ≡ length ks → slice_get ks p ≡ Some x
    → slice_set now p (get_or now p 0 + w) ≡ counts_with ks ((x, w) ∷ []) now
count_hit ks now p x w h l at = counted_hit ks now p (x, w) l h at

-- an item of none of the keys
pub count_miss : (ks : List Bytes) (now : List ℕ) (x : Bytes) (w : ℕ) → length now ≡ length ks
    → ((i : ℕ) → slice_get ks i ≡ Some x → ⊥) → now ≡ counts_with ks ((x, w) ∷ []) now
count_miss ks now x w l h = sym (counted_miss ks now (x, w) l (none_of_them ks x h))

-- ---- no number grows too large
-- no number grows by more than the total of the items
pub counted-le : (ks : List Bytes) (xs : List Entry) (ns : List ℕ) (p : ℕ) → length ns ≡ length ks
    → get_or (counts_with ks xs ns) p 0 ≤ get_or ns p 0 + total_of xs
counted-le [] xs ns p l = omega arith
counted-le (k ∷ ks) xs [] p l = absurd (omega (arith, l))
counted-le (k ∷ ks) xs (n ∷ ns) zero l = omega (arith, weight_of-le-total_of k xs)
counted-le (k ∷ ks) xs (n ∷ ns) (suc p) l = counted-le ks xs ns p (omega arith)

length-counted : (ks : List Bytes) (xs : List Entry) (ns : List ℕ) → length ns ≡ length ks
    → length (counts_with ks xs ns) ≡ length ks
length-counted [] xs ns l = l
length-counted (k ∷ ks) xs [] l = l
length-counted (k ∷ ks) xs (n ∷ ns) l = ap suc (length-counted ks xs ns (omega (arith, l)))

-- numbers that are at most m are at most m and the total of what is counted
pub counts_stay_within : (ks : List Bytes) (xs : List Entry) (ns : List ℕ) (m : ℕ) → length ns ≡ length ks
    → All (λ n. n ≤ m) ns
    → (length (counts_with ks xs ns) ≡ length ks) × All (λ n. n ≤ m + total_of xs) (counts_with ks xs ns)
counts_stay_within ks xs ns m l h = (length-counted ks xs ns l, bound)
  where
    bound : All (λ n. n ≤ m + total_of xs) (counts_with ks xs ns)
    bound i d lt =
        let within : get_or ns i 0 ≤ m = h i 0 (omega (arith, lt, l, length-counted ks xs ns l)) in
        omega (arith, get_or_default (counts_with ks xs ns) i d 0 lt, counted-le ks xs ns i l, within)

-- ---- the keys of a summary
-- the next of rising keys is new to those before it
pub insert_next : (ks : List Bytes) (i : ℕ) (x : Bytes) → IsStrictlySortedBy key_cmp ks → i < length ks
    → x ≡ get_or ks i x → insert_key same_key (take i ks) x ≡ take (i + 1) ks
insert_next ks i x h l is =
    let none : list_any (same_key x) (take i ks) ≡ false =
    list_any_none (same_key x) (take i ks) (λ j d m. differ j d m) in
    ap (λ b. cond b (take i ks) (take i ks ++ x ∷ [])) none ∙ ap (λ y. take i ks ++ y ∷ []) is
    ∙ sym (take_more ks i x l)
  where
    differ : (j : ℕ) (d : Bytes) → j < length (take i ks) → same_key x (get_or (take i ks) j d) ≡ false
    differ j d m =
        let below : j < i = omega (arith, m, length-take i ks) in
        let less : key_cmp (get_or ks j d) (get_or ks i d) ≡ Less = Less-from_sorted key_cmp ks j i d h below l in
        let here : get_or ks i d ≡ x = get_or_default ks i d x l ∙ sym is in
        ap (same_key x) (get_or-take i ks j d below) ∙ ap is_eq
        (flipped (get_or ks j d) x Less (ap (key_cmp (get_or ks j d)) (sym here) ∙ less))
