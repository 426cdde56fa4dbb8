-- The keys of two lists of counters, in one pass over both.
use Rattle.std.proofs.Common.{◌≡◌, ◌∙◌, ℕ, ◌+◌, ◌<◌, ◌≤◌, ◌⊎◌, Bool, List, [], ◌∷◌, ◌++◌, length, map, drop, get_or, Less, Equal, Greater, refl, sym, ap, arith}
use Rattle.std.specs.Prelude.{filter}
use Rattle.std.specs.Map.{keys_of}
use Rattle.std.proofs.lemmas.List.{map-append}
use Rattle.std.proofs.lemmas.List.Elements.{filter-append}
use Rattle.hh_stream.specs.Weights.{Bytes, Entry, key_cmp}
use Rattle.hh_summaries.specs.Counters.{Counters, IsCounters}
use Rattle.hh_summaries.proofs.Summing.{IsSummed, summed_both, summed_left, summed_right, summed_whole}
use Rattle.hh_changes.specs.Changes.{Pair, is_listed, keys_in, listed, sure_change}

-- keys are listed one list after the other
pub listed-append : (all : Bool) (p : Pair) (xs ys : List Bytes)
    → listed all p (xs ++ ys) ≡ listed all p xs ++ listed all p ys
listed-append all p xs ys =
    ap (λ (es : List Entry). filter (is_listed all) es) (map-append (sure_change p) xs ys)
    ∙ filter-append (is_listed all) (map (sure_change p) xs) (map (sure_change p) ys)

-- as far as the pass has come, the keys are listed of what was added
pub record IsMerged (all : Bool) (p : Pair) (l r : ℕ) (items : List Entry) : Type 0 where
  pub sum : Counters
  pub summed : IsSummed p.old.counters p.new.counters l r sum
  pub listed : items ≡ listed all p (keys_of sum)

-- one key more
one_more : (all : Bool) (p : Pair) (items : List Entry) (sum : Counters) (e : Entry) → items ≡ listed all p (keys_of sum)
    → items ++ listed all p (e.0 ∷ []) ≡ listed all p (keys_of (sum ++ e ∷ []))
one_more all p items sum e is =
    ap (λ (es : List Entry). es ++ listed all p (e.0 ∷ [])) is
    ∙ sym (listed-append all p (keys_of sum) (e.0 ∷ []))
    ∙ ap (listed all p) (sym (map-append (λ (d : Entry). d.0) sum (e ∷ [])))

-- the lesser key of both comes next, or the one that both have
pub merged_on : (all : Bool) (p : Pair) (l r : ℕ) (items : List Entry) (e f : Entry) → l < length p.old.counters
    → r < length p.new.counters → e ≡ get_or p.old.counters l e → f ≡ get_or p.new.counters r f
    → IsMerged all p l r items
    → (key_cmp e.0 f.0 ≡ Less → IsMerged all p (l + 1) r (items ++ listed all p (e.0 ∷ [])))
    × (key_cmp e.0 f.0 ≡ Equal → IsMerged all p (l + 1) (r + 1) (items ++ listed all p (e.0 ∷ [])))
    × (key_cmp e.0 f.0 ≡ Greater → IsMerged all p l (r + 1) (items ++ listed all p (f.0 ∷ [])))
merged_on all p l r items e f ll rr at_l at_r h = (
  λ less. record {
    sum = h.sum ++ e ∷ [];
    summed = summed_left p.old.counters p.new.counters h.sum l r e f ll rr at_l at_r less h.summed;
    listed = one_more all p items h.sum e h.listed;
  },
  λ same. record {
    sum = h.sum ++ (e.0, e.1 + f.1) ∷ [];
    summed = summed_both p.old.counters p.new.counters h.sum l r e f ll rr at_l at_r same h.summed;
    listed = one_more all p items h.sum (e.0, e.1 + f.1) h.listed;
  },
  λ more. record {
    sum = h.sum ++ f ∷ [];
    summed = summed_right p.old.counters p.new.counters h.sum l r e f ll rr at_l at_r more h.summed;
    listed = one_more all p items h.sum f h.listed;
  },
)

-- before the pass nothing is listed
pub merged_none : (all : Bool) (p : Pair) → IsCounters p.old.counters → IsCounters p.new.counters → IsMerged all p 0 0 []
merged_none all p old new = record {
  sum = [];
  summed = record {
    left_in = omega arith;
    right_in = omega arith;
    with_left = old;
    with_right = new;
    weights = λ x. omega arith;
  };
  listed = refl;
}

-- at the end of either list, the keys that are left of the other come last
pub merged_whole : (all : Bool) (p : Pair) (l r : ℕ) (items : List Entry) → IsCounters p.old.counters
    → IsCounters p.new.counters → (length p.old.counters ≤ l) ⊎ (length p.new.counters ≤ r) → IsMerged all p l r items
    → (items ++ listed all p (keys_of (drop l p.old.counters))) ++ listed all p (keys_of (drop r p.new.counters))
    ≡ listed all p (keys_in p)
merged_whole all p l r items old new done h =
    let left = drop l p.old.counters in
    let right = drop r p.new.counters in
    ap (λ (es : List Entry). (es ++ listed all p (keys_of left)) ++ listed all p (keys_of right)) h.listed
    ∙ ap (λ (es : List Entry). es ++ listed all p (keys_of right)) (joined all p h.sum left)
    ∙ joined all p (h.sum ++ left) right
    ∙ ap (λ (c : Counters). listed all p (keys_of c)) (summed_whole p.old.counters p.new.counters h.sum l r old new done h.summed)
  where
    joined : (all : Bool) (p : Pair) (c d : Counters)
        → listed all p (keys_of c) ++ listed all p (keys_of d) ≡ listed all p (keys_of (c ++ d))
    joined all p c d = sym (listed-append all p (keys_of c) (keys_of d))
        ∙ ap (listed all p) (sym (map-append (λ (e : Entry). e.0) c d))
