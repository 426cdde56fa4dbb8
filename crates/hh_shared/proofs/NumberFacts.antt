-- Sums over lists, how often a number stands in one, and sums over distinct places of a list.
use Rattle.std.proofs.Common.{◌≡◌, ◌≢◌, ◌⊎◌, ℕ, zero, suc, ◌+◌, ◌*◌, ◌<◌, ◌≤◌, ◌==◌, true, false, cond, List, [], ◌∷◌, ◌++◌, length, length-append, set, take, refl, sym, ap, ◌∙◌, subst, arith, add-one, inl, inr, sum_by, slice_index_or}
use Rattle.std.specs.List.{range_with_len}
use Rattle.std.proofs.lemmas.Bool.{eq-eqb, ne_eqb}
use Rattle.std.proofs.lemmas.Bool.Decides.{eqb_tells}
use Rattle.std.proofs.lemmas.List.FromFn.{length-range_with_len}
use Rattle.std.proofs.lemmas.List.Sums.{sum_by-cons, sum_by-append, sum_by_more}
use Rattle.std.proofs.Math.Nat.{zero-mul, one-mul}
use Rattle.std.proofs.Math.Seq.{take-length}
use mathlib.Core.Option.{some, some-injective, some-ne-none}
use lib.ListN.{get_elem?}
use Rattle.hh_shared.specs.Numbers.{times, cell_total, IsDistinctBelow, HasAllBelow}

module _ {A : Type 0} where
  -- where one element is replaced, the sum changes by what that element adds
  pub sum_by-replace : (f : A → ℕ) (xs : List A) (i : ℕ) (v w : A) → get_elem? xs i ≡ some v
      → sum_by f (set xs i w) + f v ≡ sum_by f xs + f w
  sum_by-replace f [] i v w e = absurd (some-ne-none v (sym e))
  sum_by-replace f (x ∷ xs) zero v w e = let same : f x ≡ f v = ap f (some-injective x v e) in
      omega (arith, sum_by-cons f x xs, sum_by-cons f w xs)
  sum_by-replace f (x ∷ xs) (suc i) v w e =
      omega (arith, sum_by-replace f xs i v w e, sum_by-cons f x xs, sum_by-cons f x (set xs i w))

  -- one element adds no more than all
  pub at-le-sum_by : (f : A → ℕ) (xs : List A) (i : ℕ) (v : A) → get_elem? xs i ≡ some v → f v ≤ sum_by f xs
  at-le-sum_by f [] i v e = absurd (some-ne-none v (sym e))
  at-le-sum_by f (x ∷ xs) zero v e = let same : f x ≡ f v = ap f (some-injective x v e) in
      omega (arith, sum_by-cons f x xs)
  at-le-sum_by f (x ∷ xs) (suc i) v e = omega (arith, at-le-sum_by f xs i v e, sum_by-cons f x xs)

  -- two elements together add no more than all
  pub two-le-sum_by : (f : A → ℕ) (xs : List A) (i k : ℕ) (v u : A) → k ≢ i → get_elem? xs i ≡ some v
      → get_elem? xs k ≡ some u → f v + f u ≤ sum_by f xs
  two-le-sum_by f [] i k v u n e d = absurd (some-ne-none v (sym e))
  two-le-sum_by f (x ∷ xs) zero zero v u n e d = absurd (n refl)
  two-le-sum_by f (x ∷ xs) zero (suc k) v u n e d = let same : f x ≡ f v = ap f (some-injective x v e) in
      omega (arith, at-le-sum_by f xs k u d, sum_by-cons f x xs)
  two-le-sum_by f (x ∷ xs) (suc i) zero v u n e d = let same : f x ≡ f u = ap f (some-injective x u d) in
      omega (arith, at-le-sum_by f xs i v e, sum_by-cons f x xs)
  two-le-sum_by f (x ∷ xs) (suc i) (suc k) v u n e d =
      omega (arith, two-le-sum_by f xs i k v u (λ q. n (ap suc q)) e d, sum_by-cons f x xs)

  -- where no element adds anything, the sum is 0
  sum_by-none : (f : A → ℕ) (xs : List A) → ((k : ℕ) (u : A) → get_elem? xs k ≡ some u → f u ≡ 0) → sum_by f xs ≡ 0
  sum_by-none f [] none = refl
  sum_by-none f (x ∷ xs) none =
      omega (arith, none 0 x refl, sum_by-none f xs (λ k u. none (suc k) u), sum_by-cons f x xs)

  -- where all other elements add nothing, the sum is what one adds
  pub sum_by-only : (f : A → ℕ) (xs : List A) (i : ℕ) (v : A) → get_elem? xs i ≡ some v
      → ((k : ℕ) (u : A) → k ≢ i → get_elem? xs k ≡ some u → f u ≡ 0) → sum_by f xs ≡ f v
  sum_by-only f [] i v e others = absurd (some-ne-none v (sym e))
  sum_by-only f (x ∷ xs) zero v e others = let same : f x ≡ f v = ap f (some-injective x v e) in
      omega (arith, sum_by-none f xs (λ k u. others (suc k) u (λ q. omega arith)), sum_by-cons f x xs)
  sum_by-only f (x ∷ xs) (suc i) v e others =
      let rest = sum_by-only f xs i v e (λ k u n. others (suc k) u (λ q. n (omega arith))) in
      omega (arith, others 0 x (λ q. omega arith) refl, rest, sum_by-cons f x xs)

-- the counts of a number in two lists add up
pub times-append : (i : ℕ) (xs ys : List ℕ) → times i (xs ++ ys) ≡ times i xs + times i ys
times-append i xs ys = sum_by-append (λ j. cond (j == i) 1 0) xs ys

-- the additions of two lists to a cell add up
pub added-append : (cell : ℕ) (xs ys : List (ℕ × ℕ))
    → cell_total cell (xs ++ ys) ≡ cell_total cell xs + cell_total cell ys
added-append cell xs ys = sum_by-append (λ (a : ℕ × ℕ). cond (a.0 == cell) a.1 0) xs ys

-- how often a number stands in a longer list
times-cons : (i x : ℕ) (xs : List ℕ) → times i (x ∷ xs) ≡ cond (x == i) 1 0 + times i xs
times-cons i x xs = sum_by-cons (λ j. cond (j == i) 1 0) x xs

-- a number in front counts once more
pub times-here : (x : ℕ) (xs : List ℕ) → times x (x ∷ xs) ≡ 1 + times x xs
times-here x xs = rw (times-cons x x xs, eq-eqb x x refl) refl

-- and no other number does
pub times-elsewhere : (i x : ℕ) (xs : List ℕ) → x ≢ i → times i (x ∷ xs) ≡ times i xs
times-elsewhere i x xs other = rw (times-cons i x xs, ne_eqb x i other) (omega arith)

-- a number at the end counts once more
pub times-push : (x : ℕ) (xs : List ℕ) → times x (xs ++ x ∷ []) ≡ times x xs + 1
times-push x xs = omega (arith, times-append x xs (x ∷ []), times-here x [])

-- and no other number does
pub times-push_other : (x j : ℕ) (xs : List ℕ) → j ≢ x → times j (xs ++ x ∷ []) ≡ times j xs
times-push_other x j xs n = omega (arith, times-append j xs (x ∷ []), times-elsewhere j x [] (λ e. n (sym e)))

-- one more addition to a cell adds its amount there
pub added-push : (cell amount : ℕ) (xs : List (ℕ × ℕ))
    → cell_total cell (xs ++ (cell, amount) ∷ []) ≡ cell_total cell xs + amount
added-push cell amount xs =
    let one : cell_total cell ((cell, amount) ∷ []) ≡ amount = rw (eq-eqb cell cell refl) (omega arith) in
    omega (arith, added-append cell xs ((cell, amount) ∷ []))

-- and nothing to another cell
pub added-push_other : (cell amount other : ℕ) (xs : List (ℕ × ℕ)) → other ≢ cell
    → cell_total other (xs ++ (cell, amount) ∷ []) ≡ cell_total other xs
added-push_other cell amount other xs n =
    let none : cell_total other ((cell, amount) ∷ []) ≡ 0 = rw (ne_eqb cell other (λ e. n (sym e))) refl in
    omega (arith, added-append other xs ((cell, amount) ∷ []))

-- f of each number below n, as often as it stands in xs
abbrev weighed : (ℕ → ℕ) → List ℕ → ℕ → ℕ
weighed f xs zero = 0
weighed f xs (suc n) = weighed f xs n + times n xs * f n

-- no numbers weigh nothing
weighed-nil : (f : ℕ → ℕ) (n : ℕ) → weighed f [] n ≡ 0
weighed-nil f zero = refl
weighed-nil f (suc n) = omega (arith, weighed-nil f n)

-- a number that isn't below n adds nothing
weighed-above : (f : ℕ → ℕ) (x : ℕ) (xs : List ℕ) (n : ℕ) → n ≤ x → weighed f (x ∷ xs) n ≡ weighed f xs n
weighed-above f x xs zero le = refl
weighed-above f x xs (suc n) le =
    let rest : weighed f (x ∷ xs) n ≡ weighed f xs n = weighed-above f x xs n (omega (arith, le)) in
    let other : x ≢ n = omega (arith, le) in
    rw (rest, times-elsewhere n x xs other) refl

-- and one below n adds its f
weighed-below : (f : ℕ → ℕ) (x : ℕ) (xs : List ℕ) (n : ℕ) → x < n → weighed f (x ∷ xs) n ≡ f x + weighed f xs n
weighed-below f x xs zero lt = absurd (omega (arith, lt))
weighed-below f x xs (suc n) lt = by (weighed-below f x xs n) (eqb_tells x n)
  where
    by : (x < n → weighed f (x ∷ xs) n ≡ f x + weighed f xs n)
        → ((x == n) ≡ true) × (x ≡ n) ⊎ ((x == n) ≡ false) × (x ≢ n)
        → weighed f (x ∷ xs) n + times n (x ∷ xs) * f n ≡ f x + (weighed f xs n + times n xs * f n)
    by lower (inl e) =
        let rest : weighed f (x ∷ xs) n ≡ weighed f xs n = weighed-above f x xs n (omega (arith, e.1)) in
        let one : times n (x ∷ xs) ≡ 1 + times n xs = rw e.1 (times-here n xs) in
        let same : f x ≡ f n = ap f e.1 in
        rw (one, rest, same) (omega arith)
    by lower (inr e) = rw (times-elsewhere n x xs e.1, lower (omega (arith, lt, e.1))) (omega arith)

-- a sum over a list whose numbers are all below p
sum-weighed : (f : ℕ → ℕ) (xs : List ℕ) (p : ℕ) → ((i : ℕ) → 0 < times i xs → i < p) → sum_by f xs ≡ weighed f xs p
sum-weighed f [] p below = sym (weighed-nil f p)
sum-weighed f (x ∷ xs) p below =
    let low : x < p = below x (omega (arith, times-here x xs)) in
    let rest = sum-weighed f xs p (λ i h. below i (omega (arith, h, times-cons i x xs))) in
    sum_by-cons f x xs ∙ ap (λ (m : ℕ). f x + m) rest ∙ sym (weighed-below f x xs p low)

-- g of the elements of ss, whose places are the numbers of xs
module _ {X : Type 0} (g : X → ℕ) (d : X) (ss : List X) (xs : List ℕ) where
  first-sum : (n : ℕ) → n < length ss → sum_by g (take (suc n) ss) ≡ sum_by g (take n ss) + g (slice_index_or ss n d)
  first-sum n below = rw (← add-one n) (sum_by_more g ss n d below)

  weighed-once : (n : ℕ) → n ≤ length ss → ((i : ℕ) → i < n → times i xs ≡ 1)
      → weighed (λ i. g (slice_index_or ss i d)) xs n ≡ sum_by g (take n ss)
  weighed-once zero le once = refl
  weighed-once (suc n) le once =
      let rest = weighed-once n (omega (arith, le)) (λ i lt. once i (omega (arith, lt))) in
      let one : times n xs ≡ 1 = once n (omega arith) in
      rw (rest, one, first-sum n (omega (arith, le))) (omega arith)

  weighed-le : (n : ℕ) → n ≤ length ss → ((i : ℕ) → times i xs < 2)
      → weighed (λ i. g (slice_index_or ss i d)) xs n ≤ sum_by g (take n ss)
  weighed-le zero le once = omega arith
  weighed-le (suc n) le once =
      let most = at-most-once (times n xs) (g (slice_index_or ss n d)) (once n) in
      omega (arith, weighed-le n (omega (arith, le)) once, most, first-sum n (omega (arith, le)))
    where
      at-most-once : (t m : ℕ) → t < 2 → t * m ≤ m
      at-most-once zero m once = omega (arith, zero-mul m)
      at-most-once (suc t) m once =
          let one : suc t ≡ 1 = omega arith in omega (arith, ap (λ k. k * m) one, one-mul m)

  -- a sum over distinct places of a list is at most the sum over the list
  pub sum_by-distinct : IsDistinctBelow (length ss) xs → sum_by (λ i. g (slice_index_or ss i d)) xs ≤ sum_by g ss
  sum_by-distinct h =
      let sum = sum-weighed (λ i. g (slice_index_or ss i d)) xs (length ss) h.below in
      omega (arith, sum, weighed-le (length ss) (omega arith) h.once, ap (λ l. sum_by g l) (take-length ss))

  -- and it is that sum where they are all places
  pub sum_by-all : IsDistinctBelow (length ss) xs → HasAllBelow (length ss) xs
      → sum_by (λ i. g (slice_index_or ss i d)) xs ≡ sum_by g ss
  sum_by-all h all =
      sum-weighed (λ i. g (slice_index_or ss i d)) xs (length ss) h.below
      ∙ weighed-once (length ss) (omega arith) (λ i lt. omega (arith, h.once i, all.has i lt))
      ∙ ap (λ l. sum_by g l) (take-length ss)

-- as many ones add up to the length
sum_by-ones : (xs : List ℕ) → sum_by (λ _. 1) xs ≡ length xs
sum_by-ones [] = refl
sum_by-ones (x ∷ xs) = omega (arith, sum_by-cons (λ (_ : ℕ). 1) x xs, sum_by-ones xs)

-- distinct numbers below n are at most n
pub distinct-le : (n : ℕ) (xs : List ℕ) → IsDistinctBelow n xs → length xs ≤ n
distinct-le n xs d =
    let ns = range_with_len 0 n in
    let long = length-range_with_len 0 n in
    let here = subst (λ m. IsDistinctBelow m xs) (sym long) d in
    let most : sum_by (λ _. 1) xs ≤ sum_by (λ _. 1) ns = sum_by-distinct (λ (_ : ℕ). 1) 0 ns xs here in
    omega (arith, most, sum_by-ones xs, sum_by-ones ns, long)

-- all numbers below n, each once, are n
pub all-length : (n : ℕ) (xs : List ℕ) → IsDistinctBelow n xs → HasAllBelow n xs → length xs ≡ n
all-length n xs d all =
    let ns = range_with_len 0 n in
    let long = length-range_with_len 0 n in
    let here = subst (λ m. IsDistinctBelow m xs) (sym long) d in
    let whole = subst (λ m. HasAllBelow m xs) (sym long) all in
    let same : sum_by (λ _. 1) xs ≡ sum_by (λ _. 1) ns = sum_by-all (λ (_ : ℕ). 1) 0 ns xs here whole in
    omega (arith, same, sum_by-ones xs, sum_by-ones ns, long)

-- distinct numbers, and one more that is none of them
pub distinct-push : (n x : ℕ) (xs : List ℕ) → IsDistinctBelow n xs → x < n → times x xs ≡ 0
    → IsDistinctBelow n (xs ++ x ∷ [])
distinct-push n x xs d low new = record {
  once = λ i. once i (eqb_tells x i);
  below = λ i h. below i h (eqb_tells x i);
}
  where
    once : (i : ℕ) → ((x == i) ≡ true) × (x ≡ i) ⊎ ((x == i) ≡ false) × (x ≢ i) → times i (xs ++ x ∷ []) < 2
    once i (inl e) = rw (← e.1) (omega (arith, times-push x xs, new))
    once i (inr e) = omega (arith, times-push_other x i xs (λ q. e.1 (sym q)), d.once i)

    below : (i : ℕ) → 0 < times i (xs ++ x ∷ []) → ((x == i) ≡ true) × (x ≡ i) ⊎ ((x == i) ≡ false) × (x ≢ i) → i < n
    below i h (inl e) = omega (arith, low, e.1)
    below i h (inr e) = d.below i (omega (arith, h, times-push_other x i xs (λ q. e.1 (sym q))))

-- n distinct numbers below n are all of them, since no further one is left
pub distinct-all : (n : ℕ) (xs : List ℕ) → IsDistinctBelow n xs → length xs ≡ n → HasAllBelow n xs
distinct-all n xs d long = record { has = λ j low. by j low (times j xs) refl }
  where
    by : (j : ℕ) → j < n → (m : ℕ) → times j xs ≡ m → 0 < times j xs
    by j low zero none =
        let most = distinct-le n (xs ++ j ∷ []) (distinct-push n j xs d low none) in
        absurd (omega (arith, most, length-append xs (j ∷ [])))
    by j low (suc m) more = omega (arith, more)
