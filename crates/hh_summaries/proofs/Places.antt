-- Where a search among counters ends, and what an edit at that place does.
use Rattle.std.proofs.Common.{◌≡◌, ℕ, zero, suc, ◌+◌, ◌<◌, ◌≤◌, [], ◌∷◌, length, get_or, false, Less, Greater, is_lt, Result, Ok, Err, IfOk, IfErr, refl, sym, ap, ◌∙◌, arith, slice_index_or, HoldsAt, slice_set}
use Rattle.std.specs.List.{AllByRecursion, AllWithin, insert}
use Rattle.std.specs.List.Sorted.{IsStrictlySortedBy, IsNonDecreasingBy, IsSearchInRange, IsBinarySearchResult}
use Rattle.std.specs.Map.{keys_of}
use Rattle.std.specs.Ordering.{match_ordering, ordering_index}
use Rattle.std.proofs.lemmas.Map.Keys.{Less-from_sorted, sorted_from_all_adjacent}
use Rattle.std.proofs.lemmas.List.Elements.{recursion_from_All, All-from_recursion}
use Rattle.std.proofs.lemmas.List.{get_or-map, get_or_default}
use Rattle.std.proofs.lemmas.Map.Entries.{length-keys_of}
use Rattle.std.proofs.lemmas.List.Sorted.{searchable_from_sorted}
use Rattle.hh_stream.specs.Weights.{Bytes, Entry, key_cmp, weight_of}
use Rattle.hh_summaries.specs.Counters.{Counters, IsCounters, add_at}
use Rattle.hh_summaries.proofs.Weights.{rising_entries, key_total, key_exact, weight_of-cons, weight_first, at_other, turned, flipped, key_self}

rise_at : (c : Counters) (i : ℕ) (d : Entry) → IsStrictlySortedBy key_cmp (keys_of c) → i + 1 < length c
    → is_lt (key_cmp (slice_index_or c (i + 1) d).0 (slice_index_or c i d).0) ≡ false
rise_at c i d h l = ap is_lt (flipped (get_or c i d).0 (get_or c (i + 1) d).0 Less
    (Less-from_sorted (λ (a b : Entry). key_cmp a.0 b.0) c i (i + 1) d (rising_entries c h) (omega arith) l))

-- the comparisons with a key rise along counters, as a binary search asks
comparisons_rise : (c : Counters) (key : Bytes) → IsStrictlySortedBy key_cmp (keys_of c)
    → IsNonDecreasingBy (λ (e : Entry). ordering_index (key_cmp e.0 key)) c
comparisons_rise c key h = searchable_from_sorted key_total (λ (e : Entry). e.0) c key (λ k d z l. rise_at c k d h l)

-- a search ends at the key, or at the gap for it
pub searched : (c : Counters) (key : Bytes) (r : Result ℕ ℕ) → IsStrictlySortedBy key_cmp (keys_of c)
    → IsSearchInRange r (length c) → IsBinarySearchResult (λ (e : Entry). key_cmp e.0 key) c r
    → record {
      found : IfOk r (λ i. (i < length c) × HoldsAt (λ (e : Entry). e.0 ≡ key) c i);
      absent : IfErr r (λ i. (i ≤ length c) × AllWithin (λ (e : Entry). key_cmp e.0 key ≡ Less) c 0 i
          × AllWithin (λ (e : Entry). key_cmp key e.0 ≡ Less) c i (length c));
    }
searched c key (Ok i) h l s = record { found = (l, λ d. key_exact _ key (s d)); absent = tt }
searched c key (Err i) h l s =
    let parts = s (comparisons_rise c key h) in
    record { found = tt; absent = (l, parts.0, λ k d a b. turned _ key (parts.1 k d a b)) }

-- ---- what stands at a place
-- a key below the first of rising keys is below each
pub above_at : (z : Bytes) (c : Counters) (i : ℕ) (d : Entry) → AllByRecursion (λ y. key_cmp z y ≡ Less) (keys_of c)
    → i < length c → key_cmp z (slice_index_or c i d).0 ≡ Less
above_at z [] i d h l = absurd (omega arith)
above_at z (e ∷ c) zero d h l = h.0
above_at z (e ∷ c) (suc i) d h l = above_at z c i d h.1 (omega arith)

-- the number at the place of a key is its weight
pub weight_at : (c : Counters) (i : ℕ) (d : Entry) (key : Bytes) → IsStrictlySortedBy key_cmp (keys_of c) → i < length c
    → (slice_index_or c i d).0 ≡ key → (slice_index_or c i d).1 ≡ weight_of key c
unfolding IsStrictlySortedBy
weight_at [] i d key h l e = absurd (omega arith)
weight_at (f ∷ c) zero d key h l e = sym (weight_first f c h.0) ∙ ap (λ k. weight_of k (f ∷ c)) e
weight_at (f ∷ c) (suc i) d key h l e =
    let below : key_cmp f.0 key ≡ Less = sym (ap (key_cmp f.0) e) ∙ above_at f.0 c i d h.0 (omega arith) in
    let other = at_other key f Greater (flipped f.0 key Less below) refl in
    omega (arith, weight_of-cons key f c, other, weight_at c i d key h.1 (omega arith) e)

-- each key is below or above, at the place where the key would go
abbrev pub IsGap : Bytes → ℕ → Counters → Type 0
IsGap key i c = (i ≤ length c) × AllWithin (λ (e : Entry). key_cmp e.0 key ≡ Less) c 0 i
    × AllWithin (λ (e : Entry). key_cmp key e.0 ≡ Less) c i (length c)

-- no counter where each key is below or above
pub weight_absent : (c : Counters) (i : ℕ) (key : Bytes) → AllWithin (λ (e : Entry). key_cmp e.0 key ≡ Less) c 0 i
    → AllWithin (λ (e : Entry). key_cmp key e.0 ≡ Less) c i (length c) → 0 ≡ weight_of key c
weight_absent [] i key b a = refl
weight_absent (f ∷ c) zero key b a =
    omega (
      arith,
      weight_of-cons key f c,
      at_other key f Less (a 0 f (omega arith) (omega arith)) refl,
      weight_absent c zero key (λ k d l m. absurd (omega arith)) (λ k d l m. a (suc k) d (omega arith) (omega arith)),
    )
weight_absent (f ∷ c) (suc i) key b a =
    omega (
      arith,
      weight_of-cons key f c,
      at_other key f Greater
          (flipped f.0 key Less (b 0 f (omega arith) (omega arith))) refl,
      weight_absent c i key (λ k d l m. b (suc k) d (omega arith) (omega arith))
          (λ k d l m. a (suc k) d (omega arith) (omega arith)),
    )

-- so the key is none of those that have a counter
pub not_known : (c : Counters) (i : ℕ) (key : Bytes) → IsGap key i c → 0 < weight_of key c → ⊥
not_known c i key gap known = omega (arith, weight_absent c i key gap.1 gap.2)

-- ---- edits
-- a newcomer goes to its gap
pub insert_is_add_at : (c : Counters) (i : ℕ) (e : Entry) → i ≤ length c
    → AllWithin (λ (d : Entry). key_cmp d.0 e.0 ≡ Less) c 0 i
    → AllWithin (λ (d : Entry). key_cmp e.0 d.0 ≡ Less) c i (length c) → insert c i e ≡ add_at c e
insert_is_add_at [] zero e l b a = refl
insert_is_add_at [] (suc i) e l b a = absurd (omega arith)
insert_is_add_at (f ∷ c) zero e l b a = ap (λ r. match_ordering r (e ∷ f ∷ c) ((f.0, f.1 + e.1) ∷ c) (f ∷ add_at c e))
    (sym (a 0 f (omega arith) (omega arith)))
insert_is_add_at (f ∷ c) (suc i) e l b a =
    ap (λ d. f ∷ d) (insert_is_add_at c i e (omega arith) (λ k d l m. b (suc k) d (omega arith) (omega arith))
    (λ k d l m. a (suc k) d (omega arith) (omega arith)))
    ∙ ap (λ r. match_ordering r (e ∷ f ∷ c) ((f.0, f.1 + e.1) ∷ c) (f ∷ add_at c e))
    (sym (flipped f.0 e.0 Less (b 0 f (omega arith) (omega arith))))

-- raising the number at a key's place adds the item
pub set_is_add_at : (c : Counters) (i : ℕ) (d : Entry) (e : Entry) → IsStrictlySortedBy key_cmp (keys_of c)
    → i < length c → (slice_index_or c i d).0 ≡ e.0
    → slice_set c i ((slice_index_or c i d).0, (slice_index_or c i d).1 + e.1) ≡ add_at c e
unfolding IsStrictlySortedBy
set_is_add_at [] i d e h l s = absurd (omega arith)
set_is_add_at (f ∷ c) zero d e h l s = ap (λ r. match_ordering r (e ∷ f ∷ c) ((f.0, f.1 + e.1) ∷ c) (f ∷ add_at c e))
    (sym (ap (λ k. key_cmp k f.0) (sym s) ∙ key_self f.0))
set_is_add_at (f ∷ c) (suc i) d e h l s =
    let below : key_cmp f.0 e.0 ≡ Less = sym (ap (key_cmp f.0) s) ∙ above_at f.0 c i d h.0 (omega arith) in
    ap (λ x. f ∷ x) (set_is_add_at c i d e h.1 (omega arith) s)
    ∙ ap (λ r. match_ordering r (e ∷ f ∷ c) ((f.0, f.1 + e.1) ∷ c) (f ∷ add_at c e)) (sym (flipped f.0 e.0 Less below))

-- ---- counters by places
-- what is positive at each place, and rises from each to the next, is counters
pub counters_from_places : (c : Counters) → ((k : ℕ) (d : Entry) → k < length c → 0 < (slice_index_or c k d).1)
    → ((k : ℕ) (d : Entry) → k + 1 < length c → key_cmp (slice_index_or c k d).0 (slice_index_or c (k + 1) d).0 ≡ Less)
    → IsCounters c
counters_from_places c p r = record {
  rising = sorted_from_all_adjacent key_total (keys_of c) [] (λ k l.
      let long : k + 1 < length c = omega (arith, l, length-keys_of c) in
      let e : Entry = ([], 0) in
      ap (λ x. key_cmp x (get_or (keys_of c) (k + 1) [])) (get_or-map (λ (e : Entry). e.0) c k e [] (omega arith))
      ∙ ap (key_cmp (get_or c k e).0) (get_or-map (λ (e : Entry). e.0) c (k + 1) e [] long)
      ∙ r k e long);
  positive = recursion_from_All (λ (e : Entry). 0 < e.1) c p;
}

-- the number at each place is positive
pub positive_at : (c : Counters) → IsCounters c → (k : ℕ) (d : Entry) → k < length c → 0 < (slice_index_or c k d).1
positive_at c h = All-from_recursion (λ (e : Entry). 0 < e.1) c h.positive

-- the keys rise from place to place
pub less_at : (c : Counters) → IsCounters c → (k j : ℕ) (d e : Entry) → k < j → j < length c
    → key_cmp (slice_index_or c k d).0 (slice_index_or c j e).0 ≡ Less
less_at c h k j d e a l = ap (λ (x : Entry). key_cmp (get_or c k d).0 x.0) (get_or_default c j e d l)
    ∙ Less-from_sorted (λ (a b : Entry). key_cmp a.0 b.0) c k j d (rising_entries c h.rising) a l
