-- What an item adds to entries with distinct keys, and what lowering takes from them.
use Rattle.std.proofs.Common.{◌≡◌, ℕ, ◌+◌, ◌-◌, ◌<◌, ◌≤◌, Bool, true, false, cond, List, [], ◌∷◌, ◌++◌, length, Some, None, refl, sym, ap, ◌∙◌, subst, arith, fold, nat_lt, take, drop, slice_get}
use Rattle.std.specs.Prelude.{unwrap_or}
use Rattle.std.specs.List.{AllByRecursion, IsDistinct}
use Rattle.std.specs.Map.{keys_of, lookup}
use Rattle.std.proofs.lemmas.Bool.{cond_both}
use Rattle.std.specs.Map.Calls.{RetainsPairs}
use Rattle.std.proofs.lemmas.List.{map-append, take-append-drop}
use Rattle.std.proofs.lemmas.List.Sums.{sum_by-append, fold-append}
use Rattle.indexmap.specs.IndexMap.{insert_entry}
use Rattle.hh_stream.specs.Weights.{Bytes, Entry, same_key, at_key, weight_of, total_of}
use Rattle.hh_summaries.specs.Counters.{lower}
use Rattle.hh_summaries.proofs.Weights.{Distinct, weight_of-cons, total_of-cons, total_of-append, same_exact, same_sym, at_both}
use Rattle.hh_summaries.proofs.Level.{entry_at, lower-nil, lower-cons}
use Rattle.hh_tally.specs.Tallies.{add_in, bytes_of}

-- ---- an entry added
-- a claim on entries after an item, where its key is the first and where it is another
pub by_add_in : (P : List Entry → Type 0) (d : Entry) (es : List Entry) (e : Entry)
    → (same_key e.0 d.0 ≡ true → P ((d.0, d.1 + e.1) ∷ es)) → (same_key e.0 d.0 ≡ false → P (d ∷ add_in es e))
    → P (add_in (d ∷ es) e)
by_add_in P d es e here later = cond_both (same_key e.0 d.0) _ _ P here later

-- each key has what it had, and what the item adds
pub weight_of-add_in : (x : Bytes) (es : List Entry) (e : Entry) → weight_of x (add_in es e) ≡ weight_of x es + at_key x e
weight_of-add_in x [] e = refl
weight_of-add_in x (d ∷ es) e = by_add_in (λ b. weight_of x b ≡ weight_of x (d ∷ es) + at_key x e) d es e
    (λ s. let same : at_key x e ≡ cond (same_key x d.0) e.1 0 =
    ap (λ y. cond (same_key x y) e.1 0) (same_exact e.0 d.0 s) in
    omega (arith, weight_of-cons x (d.0, d.1 + e.1) es, weight_of-cons x d es, at_both (same_key x d.0) d.1 e.1))
    (λ s. omega (arith, weight_of-cons x d (add_in es e), weight_of-cons x d es, weight_of-add_in x es e))

-- and the total
pub total_of-add_in : (es : List Entry) (e : Entry) → total_of (add_in es e) ≡ total_of es + e.1
total_of-add_in [] e = refl
total_of-add_in (d ∷ es) e = by_add_in (λ b. total_of b ≡ total_of (d ∷ es) + e.1) d es e
    (λ s. omega (arith, total_of-cons (d.0, d.1 + e.1) es, total_of-cons d es))
    (λ s. omega (arith, total_of-cons d (add_in es e), total_of-cons d es, total_of-add_in es e))

-- there is at most one key more
pub length-add_in : (es : List Entry) (e : Entry) → length (add_in es e) ≤ length es + 1
length-add_in [] e = omega arith
length-add_in (d ∷ es) e = by_add_in (λ b. length b ≤ length (d ∷ es) + 1) d es e
    (λ s. omega arith) (λ s. omega (arith, length-add_in es e))

apart-add_in : (z : Bytes) (es : List Entry) (e : Entry) → same_key z e.0 ≡ false
    → AllByRecursion (λ y. same_key z y ≡ false) (keys_of es)
    → AllByRecursion (λ y. same_key z y ≡ false) (keys_of (add_in es e))
apart-add_in z [] e other h = (other, tt)
apart-add_in z (d ∷ es) e other h =
    by_add_in (λ b. AllByRecursion (λ y. same_key z y ≡ false) (keys_of b)) d es e (λ _. h)
    (λ _. (h.0, apart-add_in z es e other h.1))

-- keys stay apart
pub distinct-add_in : (es : List Entry) (e : Entry) → Distinct es → Distinct (add_in es e)
unfolding IsDistinct
distinct-add_in [] e h = (tt, tt)
distinct-add_in (d ∷ es) e h = by_add_in Distinct d es e (λ _. h)
    (λ s. (apart-add_in d.0 es e (same_sym d.0 e.0 ∙ s) h.0, distinct-add_in es e h.1))

-- positive counters stay so
pub positive-add_in : (es : List Entry) (e : Entry) → 0 < e.1 → AllByRecursion (λ (d : Entry). 0 < d.1) es
    → AllByRecursion (λ (d : Entry). 0 < d.1) (add_in es e)
positive-add_in [] e some h = (some, tt)
positive-add_in (d ∷ es) e some h = by_add_in (AllByRecursion (λ (b : Entry). 0 < b.1)) d es e
    (λ _. (omega (arith, h.0), h.1)) (λ _. (h.0, positive-add_in es e some h.1))

pub positive-add_all : (es fs : List Entry) → AllByRecursion (λ (d : Entry). 0 < d.1) es
    → AllByRecursion (λ (d : Entry). 0 < d.1) fs → AllByRecursion (λ (d : Entry). 0 < d.1) (fold add_in es fs)
positive-add_all es [] h g = h
positive-add_all es (f ∷ fs) h g = positive-add_all (add_in es f) fs (positive-add_in es f g.0 h) g.1

-- ---- what a map does
-- a key that is there takes the sum
pub added_known : (es : List Entry) (x : Bytes) (w n : ℕ) → lookup (same_key x) es ≡ Some n
    → insert_entry same_key es x (n + w) ≡ add_in es (x, w)
added_known [] x w n h = absurd (cc)
added_known (d ∷ es) x w n h = by (same_key x d.0) (added_known es x w n) h
  where
    by : (b : Bool) → (lookup (same_key x) es ≡ Some n → insert_entry same_key es x (n + w) ≡ add_in es (x, w))
        → cond b (Some d.1) (lookup (same_key x) es) ≡ Some n
        → cond b ((d.0, n + w) ∷ es) (d ∷ insert_entry same_key es x (n + w))
        ≡ cond b ((d.0, d.1 + w) ∷ es) (d ∷ add_in es (x, w))
    by true rest f = ap (λ o. (d.0, unwrap_or o 0 + w) ∷ es) (sym f)
    by false rest f = ap (λ (l : List Entry). d ∷ l) (rest f)

-- a new key comes last
pub added_new : (es : List Entry) (e : Entry) → lookup (same_key e.0) es ≡ None → add_in es e ≡ es ++ e ∷ []
added_new [] e h = refl
added_new (d ∷ es) e h = by (same_key e.0 d.0) (added_new es e) h
  where
    by : (b : Bool) → (lookup (same_key e.0) es ≡ None → add_in es e ≡ es ++ e ∷ []) → cond b (Some d.1) (lookup (same_key e.0) es) ≡ None
        → cond b ((d.0, d.1 + e.1) ∷ es) (d ∷ add_in es e) ≡ d ∷ (es ++ e ∷ [])
    by true rest f = absurd (cc)
    by false rest f = ap (λ (l : List Entry). d ∷ l) (rest f)

-- a counter that is found is at most the total
pub found-le-total : (es : List Entry) (x : Bytes) (n : ℕ) → lookup (same_key x) es ≡ Some n → n ≤ total_of es
found-le-total [] x n h = absurd (cc)
found-le-total (d ∷ es) x n h = by (same_key x d.0) (found-le-total es x n) h
  where
    by : (b : Bool) → (lookup (same_key x) es ≡ Some n → n ≤ total_of es) → cond b (Some d.1) (lookup (same_key x) es) ≡ Some n
        → n ≤ total_of (d ∷ es)
    by true rest f = omega (arith, total_of-cons d es, ap (λ o. unwrap_or o 0) f)
    by false rest f = omega (arith, total_of-cons d es, rest f)

-- ---- entries lowered
-- a closure that keeps each counter above t, less t, leaves what lowering by t leaves
module _ {F : Type 0} (T : F → Bytes → ℕ → Bool → ℕ → F → Type 0) (t : ℕ) (f : F)
    (says : (k : Bytes) (v : ℕ) (b : Bool) (w : ℕ) (g : F) → T f k v b w g
    → (b ≡ nat_lt t v) × (w ≡ v - t) × (g ≡ f)) where
  pub lowered_pairs : (es kept : List Entry) → RetainsPairs T f es kept → kept ≡ lower t es
  lowered_pairs [] kept h = h ∙ sym (lower-nil t)
  lowered_pairs (e ∷ es) kept h =
      let s = says e.0 e.1 h.0 h.1 h.2 h.4 in
      let rest = lowered_pairs es h.3 (subst (λ g. RetainsPairs T g es h.3) s.2 h.5) in
      h.6 ∙ (λ j. cond (s.0 j) ((e.0, s.1 j) ∷ rest j) (rest j)) ∙ sym (lower-cons t e es)

-- ---- entry by entry
-- the bytes of one key more
pub bytes_more : (es : List Entry) (i : ℕ) (e : Entry) → Some e ≡ slice_get es i
    → bytes_of (keys_of (take (i + 1) es)) ≡ bytes_of (keys_of (take i es)) + length e.0
bytes_more es i e is =
    ap (λ (ds : List Entry). bytes_of (keys_of ds)) (entry_at es i e is)
    ∙ ap bytes_of (map-append (λ (d : Entry). d.0) (take i es) (e ∷ []))
    ∙ sum_by-append length (keys_of (take i es)) (e.0 ∷ []) ∙ omega arith

-- one entry more is added
pub added_more : (fs es : List Entry) (i : ℕ) (e : Entry) → Some e ≡ slice_get es i
    → fold add_in fs (take (i + 1) es) ≡ add_in (fold add_in fs (take i es)) e
added_more fs es i e is =
    ap (λ (ds : List Entry). fold add_in fs ds) (entry_at es i e is) ∙ fold-append add_in fs (take i es) (e ∷ [])

-- the entry at a place, and those before it, are at most the total
pub total_of-taken : (es : List Entry) (i : ℕ) (e : Entry) → Some e ≡ slice_get es i
    → total_of (take i es) + e.1 ≤ total_of es
total_of-taken es i e is =
    let all = total_of-append (take (i + 1) es) (drop (i + 1) es) in
    let one = total_of-append (take i es) (e ∷ []) in
    omega (arith, all, one, total_of-cons e [], ap total_of (entry_at es i e is), ap total_of (take-append-drop (i + 1) es))
