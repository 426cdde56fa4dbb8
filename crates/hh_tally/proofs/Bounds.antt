-- Tallies bound the weights of what they took.
use Rattle.std.proofs.Common.{◌≡◌, ℕ, ◌+◌, ◌*◌, ◌/◌, ◌<◌, ◌≤◌, Bool, true, false, cond, List, [], ◌∷◌, ◌++◌, ⊎_elim, length, refl, sym, ap, ◌∙◌, subst, append_assoc, append-nil, mul-zero, mul-le-mul_right, arith, fold, nat_lt}
use Rattle.std.specs.Prelude.{◌||◌, ◌&&◌, ◌==◌, max}
use Rattle.std.specs.List.{AllByRecursion, IsDistinct}
use Rattle.std.specs.Map.{keys_of}
use Rattle.std.proofs.Math.Bool.{and-false}
use Rattle.std.proofs.lemmas.Bool.{cond_both}
use Rattle.std.proofs.lemmas.Bool.Decides.{nat_tests}
use Rattle.std.proofs.lemmas.List.Sums.{sum_by-cons}
use Rattle.std.proofs.lemmas.Map.Entries.{length-keys_of}
use Rattle.hh_stream.specs.Weights.{Bytes, Entry, at_key, weight_of, total_of}
use Rattle.hh_summaries.specs.Counters.{IsLevel, level, lower}
use Rattle.hh_summaries.proofs.Weights.{Distinct, weight_of-cons, total_of-cons, weight_of-append, total_of-append}
use Rattle.hh_summaries.proofs.Level.{is_level, by_lower, lower-nil, length-lower, positive-lower, distinct-lower, weight_of-lower-distinct}
use Rattle.hh_summaries.proofs.Summaries.{total_of-cut}
use Rattle.hh_tally.specs.declared.room.Room.{Room}
use Rattle.hh_tally.specs.Tallies.{TallyView, AreBounds, add_in, bytes_of, are_large, and_sure, is_over, is_sure, most_left, loss_of, left_of, settled, empty_tally, tally_with, merged_tally}
use Rattle.hh_tally.proofs.Raising.{weight_of-add_in, total_of-add_in, distinct-add_in}
use Rattle.hh_tally.proofs.Sure.{found_sure}

-- ---- what is lost
module _ (room : Room) (es : List Entry) where
  -- what is lost is the level
  pub loss_is : is_over room (keys_of es) ≡ true → loss_of room es ≡ level es (most_left room (keys_of es))
  unfolding loss_of
  loss_is over = ap (λ b. cond b (level es (most_left room (keys_of es))) 0) over

  pub loss_none : is_over room (keys_of es) ≡ false → loss_of room es ≡ 0
  unfolding loss_of
  loss_none over = ap (λ b. cond b (level es (most_left room (keys_of es))) 0) over

  -- and what is left is lowered by it
  pub left_is : is_over room (keys_of es) ≡ true → left_of room es ≡ lower (loss_of room es) es
  unfolding left_of
  left_is over = ap (λ b. cond b (lower (loss_of room es) es) es) over

  pub left_same : is_over room (keys_of es) ≡ false → left_of room es ≡ es
  unfolding left_of
  left_same over = ap (λ b. cond b (lower (loss_of room es) es) es) over

  -- at least few / 2 counters pay for it
  pub loss_paid : room.few ≤ room.keys → (room.few / 2) * loss_of room es + total_of (left_of room es) ≤ total_of es
  unfolding left_of
  loss_paid le = cond_both (is_over room (keys_of es)) _ _
      (λ (fs : List Entry). (room.few / 2) * loss_of room es + total_of fs ≤ total_of es)
      (λ over.
      let t = loss_of room es in
      let k = most_left room (keys_of es) in
      let paid : total_of (lower t es) + (k + 1) * t ≤ total_of es =
      total_of-cut es k t (subst (IsLevel es k) (sym (loss_is over)) (is_level es k)) in
      let half : room.few / 2 ≤ k + 1 = cond_both (are_large room (keys_of es)) (room.few / 2) (max (room.few / 2) (room.keys / 4))
      (λ n. room.few / 2 ≤ n + 1) (λ _. omega arith) (λ _. omega arith) in
      omega (arith, paid, mul-le-mul_right t half))
      (λ over. omega (arith, ap (λ n. (room.few / 2) * n) (loss_none over), mul-zero (room.few / 2)))

-- ---- entries settled
-- keys stay apart
pub distinct-left_of : (room : Room) (es : List Entry) → Distinct es → Distinct (left_of room es)
unfolding left_of
distinct-left_of room es h = cond_both (is_over room (keys_of es)) _ _ Distinct
    (λ _. distinct-lower (loss_of room es) es h) (λ _. h)

-- no counter grows, and none falls by more than what is lost
near-left_of : (room : Room) (es : List Entry) (x : Bytes) → Distinct es
    → (weight_of x (left_of room es) ≤ weight_of x es)
    × (weight_of x es ≤ weight_of x (left_of room es) + loss_of room es)
unfolding left_of
near-left_of room es x h = cond_both (is_over room (keys_of es)) _ _
    (λ fs. (weight_of x fs ≤ weight_of x es) × (weight_of x es ≤ weight_of x fs + loss_of room es))
    (λ _. let less = weight_of-lower-distinct (loss_of room es) x es h in (omega (arith, less), omega (arith, less)))
    (λ _. (omega arith, omega arith))

-- a counter that lacks just what was lost lacks just that, and what is lost now, if it is left
exact-left_of : (room : Room) (lost w : ℕ) (es : List Entry) (x : Bytes) → Distinct es → w ≡ weight_of x es + lost
    → (AllByRecursion (λ (e : Entry). 0 < e.1) (left_of room es) → 0 < weight_of x (left_of room es))
    → w ≡ weight_of x (left_of room es) + (lost + loss_of room es)
unfolding left_of
exact-left_of room lost w es x h is = cond_both (is_over room (keys_of es)) _ _
    (λ (fs : List Entry). (AllByRecursion (λ (e : Entry). 0 < e.1) fs → 0 < weight_of x fs)
    → w ≡ weight_of x fs + (lost + loss_of room es))
    (λ _ left. omega (arith, is, left (positive-lower (loss_of room es) es), weight_of-lower-distinct (loss_of room es) x es h))
    (λ over _. omega (arith, is, loss_none room es over))

-- ---- bounds
-- of no items
pub bounds_nothing : (room : Room) → AreBounds (empty_tally room) []
unfolding IsDistinct
bounds_nothing room = record {
  counted = refl;
  distinct = tt;
  below = λ x. omega arith;
  near = λ x. omega arith;
  sure = λ x _. omega arith;
}

-- counters that bound a list's weights bound them still, once they are settled; those of which the test is true lack just
-- what was lost
settled_bounds : (room : Room) (total lost : ℕ) (test : Bytes → Bool) (es xs : List Entry) → total ≡ total_of xs → Distinct es
    → ((x : Bytes) → weight_of x es ≤ weight_of x xs) → ((x : Bytes) → weight_of x xs ≤ weight_of x es + lost)
    → ((x : Bytes) → test x ≡ true → weight_of x xs ≡ weight_of x es + lost)
    → AreBounds (settled room total lost test es) xs
settled_bounds room total lost test es xs counted distinct below near sure =
    let less : (x : Bytes) → weight_of x (left_of room es) ≤ weight_of x xs =
    λ x. omega (arith, (near-left_of room es x distinct).0, below x) in
    let more : (x : Bytes) → weight_of x xs ≤ weight_of x (left_of room es) + (lost + loss_of room es) =
    λ x. omega (arith, (near-left_of room es x distinct).1, near x) in
    record {
      counted = counted;
      distinct = distinct-left_of room es distinct;
      below = less;
      near = more;
      sure = λ x says. ⊎_elim (λ f. exact-left_of room lost (weight_of x xs) es x distinct (sure x f.0) f.1)
          (λ none. let zero : lost + loss_of room es ≡ 0 = grind (arith, nat_tests, none) in omega (arith, less x, more x, zero))
          (found_sure test ((lost + loss_of room es) == 0) x (left_of room es) says);
    }

-- one more item
bounds_with : (t : TallyView) (xs : List Entry) (e : Entry) → AreBounds t xs → AreBounds (tally_with t e) (xs ++ e ∷ [])
bounds_with t xs e h =
    let added : (x : Bytes) → weight_of x (xs ++ e ∷ []) ≡ weight_of x xs + at_key x e =
    λ x. omega (arith, weight_of-append x xs (e ∷ []), weight_of-cons x e []) in
    settled_bounds t.room (t.total + e.1) t.lost (is_sure t) (add_in t.counters e) (xs ++ e ∷ [])
    (omega (arith, h.counted, total_of-append xs (e ∷ []), total_of-cons e []))
    (distinct-add_in t.counters e h.distinct)
    (λ x. omega (arith, added x, weight_of-add_in x t.counters e, h.below x))
    (λ x. omega (arith, added x, weight_of-add_in x t.counters e, h.near x))
    (λ x says. omega (arith, added x, weight_of-add_in x t.counters e, h.sure x says))

-- the items that follow, one by one
pub bounds_follow : (t : TallyView) (xs ys : List Entry) → AreBounds t xs → AreBounds (fold tally_with t ys) (xs ++ ys)
bounds_follow t xs [] h = subst (λ (zs : List Entry). AreBounds t zs) (sym (append-nil xs)) h
bounds_follow t xs (e ∷ ys) h =
    subst (λ (zs : List Entry). AreBounds (fold tally_with (tally_with t e) ys) zs) (append_assoc xs (e ∷ []) ys)
    (bounds_follow (tally_with t e) (xs ++ e ∷ []) ys (bounds_with t xs e h))

-- all of some entries added
weight_of-add_all : (x : Bytes) (es fs : List Entry) → weight_of x (fold add_in es fs) ≡ weight_of x es + weight_of x fs
weight_of-add_all x es [] = omega arith
weight_of-add_all x es (f ∷ fs) =
    omega (arith, weight_of-add_all x (add_in es f) fs, weight_of-add_in x es f, weight_of-cons x f fs)

pub total_of-add_all : (es fs : List Entry) → total_of (fold add_in es fs) ≡ total_of es + total_of fs
total_of-add_all es [] = omega arith
total_of-add_all es (f ∷ fs) =
    omega (arith, total_of-add_all (add_in es f) fs, total_of-add_in es f, total_of-cons f fs)

pub distinct-add_all : (es fs : List Entry) → Distinct es → Distinct (fold add_in es fs)
distinct-add_all es [] h = h
distinct-add_all es (f ∷ fs) h = distinct-add_all (add_in es f) fs (distinct-add_in es f h)

-- both of two tests are true where their product is
both_true : (b c : Bool) → (b && c) ≡ true → (b ≡ true) × (c ≡ true)
both_true true c h = (refl, h)
both_true false c h = absurd (cc)

-- the items of another tally
pub bounds_merged : (t u : TallyView) (xs ys : List Entry) → AreBounds t xs → AreBounds u ys
    → AreBounds (merged_tally t u) (xs ++ ys)
bounds_merged t u xs ys h g =
    let all : List Entry = fold add_in t.counters u.counters in
    let items : (x : Bytes) → weight_of x (xs ++ ys) ≡ weight_of x xs + weight_of x ys = λ x. weight_of-append x xs ys in
    let counters : (x : Bytes) → weight_of x all ≡ weight_of x t.counters + weight_of x u.counters =
    λ x. weight_of-add_all x t.counters u.counters in
    settled_bounds t.room (t.total + u.total) (t.lost + u.lost) (and_sure (is_sure t) u) all (xs ++ ys)
    (omega (arith, h.counted, g.counted, total_of-append xs ys))
    (distinct-add_all t.counters u.counters h.distinct)
    (λ x. omega (arith, items x, counters x, h.below x, g.below x))
    (λ x. omega (arith, items x, counters x, h.near x, g.near x))
    (λ x says. let both = both_true (is_sure t x) (is_sure u x) says in
    omega (arith, items x, counters x, h.sure x both.0, g.sure x both.1))

-- bounds tell of weights, and so not of the order of the items
pub bounds_same : (t : TallyView) (xs ys : List Entry) → total_of xs ≡ total_of ys
    → ((x : Bytes) → weight_of x xs ≡ weight_of x ys) → AreBounds t xs → AreBounds t ys
bounds_same t xs ys total same h = record {
  counted = h.counted ∙ total;
  distinct = h.distinct;
  below = λ x. omega (arith, same x, h.below x);
  near = λ x. omega (arith, same x, h.near x);
  sure = λ x says. sym (same x) ∙ h.sure x says;
}

-- where nothing was lost the counters are the weights
pub exact_weights : (t : TallyView) (xs : List Entry) → AreBounds t xs → t.lost ≡ 0 → (x : Bytes)
    → weight_of x t.counters ≡ weight_of x xs
exact_weights t xs h none x = omega (arith, h.below x, h.near x, none)

-- lowered keys have no more bytes
bytes-lower : (t : ℕ) (es : List Entry) → bytes_of (keys_of (lower t es)) ≤ bytes_of (keys_of es)
bytes-lower t [] = omega (arith, ap (λ (es : List Entry). bytes_of (keys_of es)) (lower-nil t))
bytes-lower t (e ∷ es) = by_lower (λ d. bytes_of (keys_of d) ≤ bytes_of (keys_of (e ∷ es))) t e es
    (λ l. omega (arith, sum_by-cons length e.0 (keys_of (lower t es)), sum_by-cons length e.0 (keys_of es), bytes-lower t es))
    (λ l. omega (arith, sum_by-cons length e.0 (keys_of es), bytes-lower t es))

-- once settled there are not too many
pub settled_within : (room : Room) (es : List Entry) → room.few ≤ room.keys → is_over room (keys_of (left_of room es)) ≡ false
unfolding left_of
settled_within room es le = cond_both (is_over room (keys_of es)) _ _
    (λ (fs : List Entry). is_over room (keys_of fs) ≡ false)
    (λ over.
    let t = loss_of room es in
    let k = most_left room (keys_of es) in
    let fs : List Entry = lower t es in
    let at_most : length fs ≤ k = omega (
      arith,
      length-lower t es,
      (subst (IsLevel es k) (sym (loss_is room es over)) (is_level es k)).at_most,
    ) in
    let keys : length (keys_of fs) ≤ k = omega (arith, at_most, length-keys_of fs) in
    fits (keys_of fs) (are_large room (keys_of es)) refl over keys (bytes-lower t es))
    (λ over. over)
  where
    fits : (fs : List Bytes) (b : Bool) → are_large room (keys_of es) ≡ b
        → (nat_lt room.keys (length (keys_of es)) || are_large room (keys_of es)) ≡ true
        → length fs ≤ cond (are_large room (keys_of es)) (room.few / 2) (max (room.few / 2) (room.keys / 4))
        → bytes_of fs ≤ bytes_of (keys_of es) → is_over room fs ≡ false
    fits fs true h o len bytes =
        let few_left : length fs ≤ room.few / 2 =
        omega (arith, len, ap (λ b. cond b (room.few / 2) (max (room.few / 2) (room.keys / 4))) h) in
        let a : nat_lt room.keys (length fs) ≡ false = grind (arith, nat_tests, few_left, le) in
        let b : nat_lt room.few (length fs) ≡ false = grind (arith, nat_tests, few_left) in
        simp (a, b) refl
    fits fs false h o len bytes =
        let left : length fs ≤ room.keys =
        omega (arith, len, ap (λ b. cond b (room.few / 2) (max (room.few / 2) (room.keys / 4))) h, le) in
        let a : nat_lt room.keys (length fs) ≡ false = grind (arith, nat_tests, left) in
        let many : room.keys < length (keys_of es) = grind (arith, nat_tests, h, o) in
        let b : bytes_of (keys_of es) ≤ room.bytes = grind (arith, nat_tests, h, many, le) in
        let d : nat_lt room.bytes (bytes_of fs) ≡ false = grind (arith, nat_tests, b, bytes) in
        simp (a, d, and-false) refl
