-- The weights of a summary's keys in its records, and in parts of them.
use Rattle.std.proofs.Common.{◌≡◌, ◌∙◌, ℕ, zero, suc, ◌+◌, ◌<◌, ◌≤◌, List, [], ◌∷◌, length, get_or, Ok, sym, refl, ap, subst, arith}
use Rattle.std.specs.Prelude.{Contains}
use Rattle.std.specs.List.{flat_map}
use Rattle.std.specs.Map.{keys_of}
use Rattle.std.proofs.lemmas.List.{get_or-map, get_or_default, length-map}
use Rattle.std.proofs.lemmas.List.Sorted.{sum_by-IsPermutation}
use Rattle.hh_stream.specs.Cuttings.{whole_of}
use Rattle.hh_stream.specs.Weights.{Bytes, Entry, at_key, total_of, weight_of}
use Rattle.hh_summaries.specs.Counters.{Counters as Counted, IsCounters, IsHonest, SummaryView, slack}
use Rattle.hh_summaries.proofs.Weights.{number_from_in, positive_in, weight_of-append}
use Rattle.hh_counters.specs.Condensed.{condensed}
use Rattle.hh_counters.specs.Laws.{CondensedKeepsWeights, CountersBoundWeights}
use Rattle.hh_pool.specs.Laws.{TreesMergeSummaries}
use Rattle.hh_saved.specs.declared.saved.Saved.TheVariants.{Counters}
use Rattle.heavy.specs.Laws.{HeldTreesKeepBounds, HonestKeepsBounds, PartsKeepBounds}

-- each key of counters has one
key_counts : (c : Counted) → IsCounters c → (i : ℕ) (d : Bytes) → i < length (keys_of c)
    → 0 < weight_of (get_or (keys_of c) i d) c
key_counts c are i d lt =
    let l : i < length c = omega (arith, lt, length-map c (λ (e : Entry). e.0)) in
    let e = get_or c i (d, 0) in
    let among : Contains c e = (i, l, get_or_default c i e (d, 0) l) in
    let key = get_or-map (λ (e : Entry). e.0) c i (d, 0) d l in
    omega (arith, positive_in c e are among, number_from_in e c are.rising among, ap (λ x. weight_of x c) key)

-- what honest counters say of a weight
bound : CountersBoundWeights → (s : SummaryView) (xs : List Entry) → IsHonest s.counters s.total xs s.k → (x : Bytes)
    → (weight_of x s.counters ≤ weight_of x xs)
    × (weight_of x xs ≤ weight_of x s.counters + slack s.counters s.total s.k)
bound law s xs honest x =
    let Bounds : ℕ → Type 0 = λ m. (weight_of x s.counters ≤ weight_of x xs)
    × (weight_of x xs ≤ weight_of x s.counters + slack s.counters m s.k) in
    let counted : IsHonest s.counters (total_of xs) xs s.k =
    subst (λ m. IsHonest s.counters m xs s.k) honest.counted honest in
    subst Bounds (sym honest.counted) (law s.counters xs s.k counted x)

-- where the keys with counters weigh the same, none is outside its bounds
pub honest_keeps_bounds : CountersBoundWeights → HonestKeepsBounds
honest_keeps_bounds law s xs ys honest same = λ i d lt.
    let x = get_or (keys_of s.counters) i d in
    let equal = same x (key_counts s.counters honest.counters i d lt) in
    let (low, high) = bound law s xs honest x in (omega (arith, low, equal), omega (arith, high, equal))

-- where none weighs more, none is above
pub parts_keep_bounds : CountersBoundWeights → PartsKeepBounds
parts_keep_bounds law s xs ys honest less = λ i d lt.
    let x = get_or (keys_of s.counters) i d in omega (arith, less x, (bound law s xs honest x).1)

-- a key with a counter weighs in the condensed parts what it weighs in the parts
condensed_weights : CondensedKeepsWeights → (c : Counted) (parts : List (List Entry)) (x : Bytes) → 0 < weight_of x c
    → weight_of x (flat_map (condensed c) parts) ≡ weight_of x (whole_of parts)
condensed_weights law c [] x some = refl
condensed_weights law c (part ∷ parts) x some = omega (
  arith,
  weight_of-append x (condensed c part) (flat_map (condensed c) parts),
  weight_of-append x part (whole_of parts),
  (law c part).1 x some,
  condensed_weights law c parts x some,
)

-- no key weighs more in a part than in all
part_at : (parts : List (List Entry)) (i : ℕ) (d : List Entry) (x : Bytes) → i < length parts
    → weight_of x (get_or parts i d) ≤ weight_of x (whole_of parts)
part_at [] i d x lt = absurd (omega (arith, lt))
part_at (part ∷ parts) zero d x lt = omega (arith, weight_of-append x part (whole_of parts))
part_at (part ∷ parts) (suc i) d x lt =
    omega (arith, weight_of-append x part (whole_of parts), part_at parts i d x (omega (arith, lt)))

part_weighs : (parts : List (List Entry)) (part : List Entry) → Contains parts part → (x : Bytes)
    → weight_of x part ≤ weight_of x (whole_of parts)
part_weighs parts part (i, lt, is) x =
    subst (λ (p : List Entry). weight_of x p ≤ weight_of x (whole_of parts)) is (part_at parts i part x lt)

-- the summary of a file with a tree of all parts is honest for them
pub held_trees_keep_bounds : TreesMergeSummaries → CondensedKeepsWeights → CountersBoundWeights → HeldTreesKeepBounds
held_trees_keep_bounds merge keeps law k parts t file s (u, made, read) tree held =
    let one : Counters u ≡ Counters s = cc (sym read ∙ held) in
    let is = merge t k parts s tree (made ∙ ap Ok (cc one)) in
    let whole = whole_of parts in
    let honest : IsHonest s.counters s.total whole s.k = rw (is.same_k, is.total) is.honest in (
      λ xs perm. honest_keeps_bounds law s whole xs honest
          (λ x some. sum_by-IsPermutation (at_key x) whole xs perm),
      λ ys perm. honest_keeps_bounds law s whole ys honest
          (λ x some. sum_by-IsPermutation (at_key x) (flat_map (condensed s.counters) parts) ys perm
          ∙ condensed_weights keeps s.counters parts x some),
      λ part among. parts_keep_bounds law s whole part honest (part_weighs parts part among),
    )
