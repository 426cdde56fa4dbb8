-- Two rising lists of counters, added in one pass.
use Rattle.std.proofs.Common.{◌≡◌, ℕ, cond, ◌+◌, ◌<◌, ◌≤◌, ◌⊎◌, ⊎_elim, List, [], ◌∷◌, ◌++◌, length, drop, get_or, Less, Equal, Greater, refl, sym, ap, ◌∙◌, subst, append-nil, append_assoc, arith}
use Rattle.std.specs.List.{AllByRecursion}
use Rattle.std.specs.List.Sorted.{IsStrictlySortedBy}
use Rattle.std.specs.Map.{keys_of}
use Rattle.std.proofs.lemmas.List.{drop_more}
use Rattle.std.proofs.Math.ListN.{drop_of_length-le}
use Rattle.hh_stream.specs.Weights.{Bytes, Entry, key_cmp, same_key, weight_of}
use Rattle.hh_summaries.specs.Counters.{Counters, IsCounters, plus}
use Rattle.hh_summaries.proofs.Weights.{key_exact, turned, at_both, above_first, weight_of-append, weight_of-cons, weight_of-plus, counters-plus, same_counters}

-- as far as the pass has come, left from l on and right from r on are still to be added
pub record IsSummed (left right : Counters) (l r : ℕ) (all : Counters) : Type 0 where
  pub left_in : l ≤ length left
  pub right_in : r ≤ length right
  pub with_left : IsCounters (all ++ drop l left)
  pub with_right : IsCounters (all ++ drop r right)
  pub weights : (x : Bytes) → weight_of x all + weight_of x (drop l left) + weight_of x (drop r right)
      ≡ weight_of x left + weight_of x right

-- ---- an entry between those so far and those to come
put_above : (z : Bytes) (a c : List Entry) (e : Entry) → AllByRecursion (λ y. key_cmp z y ≡ Less) (keys_of (a ++ c))
    → key_cmp z e.0 ≡ Less → AllByRecursion (λ y. key_cmp z y ≡ Less) (keys_of (a ++ e ∷ c))
put_above z [] c e h p = (p, h)
put_above z (d ∷ a) c e h p = (h.0, put_above z a c e h.1 p)

above_at : (z : Bytes) (a c : List Entry) (e : Entry) → AllByRecursion (λ y. key_cmp z y ≡ Less) (keys_of (a ++ e ∷ c))
    → key_cmp z e.0 ≡ Less
above_at z [] c e h = h.0
above_at z (d ∷ a) c e h = above_at z a c e h.1

rising_between : (a b c : List Entry) (e f : Entry) → IsStrictlySortedBy key_cmp (keys_of (a ++ e ∷ b))
    → IsStrictlySortedBy key_cmp (keys_of (a ++ f ∷ c)) → key_cmp e.0 f.0 ≡ Less
    → IsStrictlySortedBy key_cmp (keys_of (a ++ e ∷ f ∷ c))
unfolding IsStrictlySortedBy
rising_between [] b c e f h g p = ((p, above_first e.0 f.0 (keys_of c) p g.0), g)
rising_between (d ∷ a) b c e f h g p =
    (put_above d.0 a (f ∷ c) e g.0 (above_at d.0 a b e h.0), rising_between a b c e f h.1 g.1 p)

positive_between : (a b c : List Entry) (e f : Entry) → AllByRecursion (λ (d : Entry). 0 < d.1) (a ++ e ∷ b)
    → AllByRecursion (λ (d : Entry). 0 < d.1) (a ++ f ∷ c) → AllByRecursion (λ (d : Entry). 0 < d.1) (a ++ e ∷ f ∷ c)
positive_between [] b c e f h g = (h.0, g)
positive_between (d ∷ a) b c e f h g = (g.0, positive_between a b c e f h.1 g.1)

between : (a b c : List Entry) (e f : Entry) → IsCounters (a ++ e ∷ b) → IsCounters (a ++ f ∷ c)
    → key_cmp e.0 f.0 ≡ Less → IsCounters (a ++ e ∷ f ∷ c)
between a b c e f h g p = record {
  rising = rising_between a b c e f h.rising g.rising p;
  positive = positive_between a b c e f h.positive g.positive;
}

-- an entry with another number
keys_renumbered : (a c : List Entry) (e : Entry) (n : ℕ) → keys_of (a ++ (e.0, n) ∷ c) ≡ keys_of (a ++ e ∷ c)
keys_renumbered [] c e n = refl
keys_renumbered (d ∷ a) c e n = ap (λ (ks : List Bytes). d.0 ∷ ks) (keys_renumbered a c e n)

positive_renumbered : (a c : List Entry) (e : Entry) (n : ℕ) → 0 < n
    → AllByRecursion (λ (d : Entry). 0 < d.1) (a ++ e ∷ c) → AllByRecursion (λ (d : Entry). 0 < d.1) (a ++ (e.0, n) ∷ c)
positive_renumbered [] c e n p h = (p, h.1)
positive_renumbered (d ∷ a) c e n p h = (h.0, positive_renumbered a c e n p h.1)

renumbered : (a c : List Entry) (e : Entry) (n : ℕ) → 0 < n → IsCounters (a ++ e ∷ c) → IsCounters (a ++ (e.0, n) ∷ c)
renumbered a c e n p h = record {
  rising = subst (IsStrictlySortedBy key_cmp) (sym (keys_renumbered a c e n)) h.rising;
  positive = positive_renumbered a c e n p h.positive;
}

positive_there : (a c : List Entry) (e : Entry) → AllByRecursion (λ (d : Entry). 0 < d.1) (a ++ e ∷ c) → 0 < e.1
positive_there [] c e h = h.0
positive_there (d ∷ a) c e h = positive_there a c e h.1

-- ---- the pass
-- the sides exchanged
exchanged : (left right all : Counters) (l r : ℕ) → IsSummed left right l r all → IsSummed right left r l all
exchanged left right all l r h = record {
  left_in = h.right_in;
  right_in = h.left_in;
  with_left = h.with_right;
  with_right = h.with_left;
  weights = λ x. omega (arith, h.weights x);
}

-- what is left begins with the entry that was read
rest_of : (c : Counters) (i : ℕ) (e : Entry) → i < length c → e ≡ get_or c i e → drop i c ≡ e ∷ drop (i + 1) c
rest_of c i e l at = drop_more c i e l ∙ ap (λ d. d ∷ drop (i + 1) c) (sym at)

shifted : (a c : List Entry) (e : Entry) → IsCounters (a ++ e ∷ c) → IsCounters ((a ++ e ∷ []) ++ c)
shifted a c e h = subst IsCounters (sym (append_assoc a (e ∷ []) c)) h

-- the left entry comes next
pub summed_left : (left right all : Counters) (l r : ℕ) (e f : Entry) → l < length left → r < length right
    → e ≡ get_or left l e → f ≡ get_or right r f → key_cmp e.0 f.0 ≡ Less → IsSummed left right l r all
    → IsSummed left right (l + 1) r (all ++ e ∷ [])
summed_left left right all l r e f ll rr at_l at_r less h =
    let el = rest_of left l e ll at_l in
    let fr = rest_of right r f rr at_r in
    let with_e = subst (λ (d : List Entry). IsCounters (all ++ d)) el h.with_left in
    let with_f = subst (λ (d : List Entry). IsCounters (all ++ d)) fr h.with_right in
    record {
      left_in = omega arith;
      right_in = h.right_in;
      with_left = shifted all (drop (l + 1) left) e with_e;
      with_right = shifted all (drop r right) e (subst (λ (d : List Entry). IsCounters (all ++ e ∷ d)) (sym fr)
          (between all (drop (l + 1) left) (drop (r + 1) right) e f with_e with_f less));
      weights = λ x.
          let before = ap (weight_of x) el ∙ weight_of-cons x e (drop (l + 1) left) in
          omega (arith, weight_of-append x all (e ∷ []), weight_of-cons x e [], before, h.weights x);
    }

-- the right entry comes next
pub summed_right : (left right all : Counters) (l r : ℕ) (e f : Entry) → l < length left → r < length right
    → e ≡ get_or left l e → f ≡ get_or right r f → key_cmp e.0 f.0 ≡ Greater → IsSummed left right l r all
    → IsSummed left right l (r + 1) (all ++ f ∷ [])
summed_right left right all l r e f ll rr at_l at_r more h = exchanged _ _ _ _ _
    (summed_left right left all r l f e rr ll at_r at_l (turned e.0 f.0 more) (exchanged left right all l r h))

-- both have the key
pub summed_both : (left right all : Counters) (l r : ℕ) (e f : Entry) → l < length left → r < length right
    → e ≡ get_or left l e → f ≡ get_or right r f → key_cmp e.0 f.0 ≡ Equal → IsSummed left right l r all
    → IsSummed left right (l + 1) (r + 1) (all ++ (e.0, e.1 + f.1) ∷ [])
summed_both left right all l r e f ll rr at_l at_r same h =
    let el = rest_of left l e ll at_l in
    let fr = rest_of right r f rr at_r in
    let with_e = subst (λ (d : List Entry). IsCounters (all ++ d)) el h.with_left in
    let with_f = subst (λ (d : List Entry). IsCounters (all ++ d)) fr h.with_right in
    let n : ℕ = e.1 + f.1 in
    let some : 0 < n = omega (arith, positive_there all (drop (l + 1) left) e with_e.positive) in
    let key : e.0 ≡ f.0 = key_exact e.0 f.0 same in
    record {
      left_in = omega arith;
      right_in = omega arith;
      with_left = shifted all (drop (l + 1) left) (e.0, n) (renumbered all (drop (l + 1) left) e n some with_e);
      with_right = shifted all (drop (r + 1) right) (e.0, n)
          (subst (λ y. IsCounters (all ++ (y, n) ∷ drop (r + 1) right)) (sym key)
          (renumbered all (drop (r + 1) right) f n some with_f));
      weights = λ x. omega (
        arith,
        weight_of-append x all ((e.0, n) ∷ []),
        weight_of-cons x (e.0, n) [],
        at_both (same_key x e.0) e.1 f.1,
        ap (λ y. cond (same_key x y) f.1 0) key,
        ap (weight_of x) el,
        ap (weight_of x) fr,
        weight_of-cons x e (drop (l + 1) left),
        weight_of-cons x f (drop (r + 1) right),
        h.weights x,
      );
    }

-- at the end of either list, what is left of the other is put last
pub summed_whole : (left right all : Counters) (l r : ℕ) → IsCounters left → IsCounters right
    → (length left ≤ l) ⊎ (length right ≤ r) → IsSummed left right l r all
    → (all ++ drop l left) ++ drop r right ≡ plus left right
summed_whole left right all l r hl hr done h =
    same_counters _ _ whole (counters-plus left right hl hr)
    (λ x. let rest = weight_of-append x (all ++ drop l left) (drop r right) in
    omega (arith, rest, weight_of-append x all (drop l left), weight_of-plus x left right, h.weights x))
  where
    whole : IsCounters ((all ++ drop l left) ++ drop r right)
    whole = ⊎_elim
        (λ (d : length left ≤ l). subst IsCounters (ap (λ (b : List Entry). b ++ drop r right) (sym (append-nil all)
        ∙ ap (λ (b : List Entry). all ++ b) (sym (drop_of_length-le left d)))) h.with_right)
        (λ (d : length right ≤ r). subst IsCounters (sym (append-nil (all ++ drop l left))
        ∙ ap (λ (b : List Entry). (all ++ drop l left) ++ b) (sym (drop_of_length-le right d))) h.with_left)
        done
