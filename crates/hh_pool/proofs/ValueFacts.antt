-- What a merged summary is: the tree's value, the sum of the totals, and honest where the pieces are.
use Rattle.std.proofs.Common.{◌≡◌, ◌≢◌, ◌+◌, ◌<◌, ◌==◌, ◌∷◌, ◌++◌, ◌∙◌, ℕ, zero, suc, Bool, true, false, List, [], length, map, Result, Ok, Err, refl, sym, ap, inl, inr, ◌⊎◌, arith, nat_le, sum_by, slice_index_or, All}
use Rattle.std.proofs.lemmas.Bool.Decides.{eqb_tells}
use Rattle.std.proofs.lemmas.List.Sums.{sum_by-append, sum_by-cons}
use Rattle.std.proofs.Math.ListN.{get_or-map}
use Rattle.std.proofs.lemmas.List.Elements.{All-from_get_or}
use Rattle.hh_stream.specs.Cuttings.{whole_of}
use Rattle.hh_stream.specs.Weights.{Bytes, Entry, at_key, max_total, weight_of}
use Rattle.hh_summaries.specs.Counters.{Counters, IsHonest, SummaryView, merge_of}
use Rattle.hh_counters.specs.Laws.{JoinOfHonestIsHonest}
use Rattle.hh_summaries.specs.declared.fault.SummaryFault.{SummaryFault}
use Rattle.hh_pool.specs.Trees.{MergesHonestly, items_of, merge_both, no_sketch, tree_result, tree_value}
use Rattle.hh_workers.specs.Trees.{IsMergeTree, MergeTree, Piece, Merge, leaves}
use Rattle.hh_shared.specs.Numbers.{times}
use Rattle.hh_shared.proofs.NumberFacts.{times-append, times-elsewhere, times-here}
use Rattle.hh_workers.proofs.LeafFacts.{at-left, at-right, distinct-leaves, sum-leaves}
use Rattle.hh_workers.proofs.PieceSums.{sum_by-flat_map}

-- a merge that went well had two results with one k
both-ok : (a b : Result SummaryView SummaryFault) (u : SummaryView) → merge_both a b ≡ Ok u
    → (s : SummaryView) × (t : SummaryView) × (a ≡ Ok s) × (b ≡ Ok t) × (s.k ≡ t.k) × (merge_of s t ≡ u)
both-ok (Err e) b u h = cc h
both-ok (Ok s) (Err e) u h = cc h
both-ok (Ok s) (Ok t) u h = by (eqb_tells s.k t.k) (nat_le (s.total + t.total) max_total) refl
  where
    by : ((s.k == t.k) ≡ true) × (s.k ≡ t.k) ⊎ ((s.k == t.k) ≡ false) × (s.k ≢ t.k) → (b : Bool)
        → nat_le (s.total + t.total) max_total ≡ b
        → (s' : SummaryView) × (t' : SummaryView) × (◌≡◌ {A = Result SummaryView SummaryFault} (Ok s) (Ok s'))
        × (◌≡◌ {A = Result SummaryView SummaryFault} (Ok t) (Ok t')) × (s'.k ≡ t'.k) × (merge_of s' t' ≡ u)
    by (inr e) b f = let bad = rw e.0 at h in cc bad
    by (inl e) false f = let bad = rw (e.0, f) at h in cc bad
    by (inl e) true f = let fine = rw (e.0, f) at h in (s, t, refl, refl, e.1, cc fine)

-- what a tree's result is, leaf by leaf
record IsValue (t : MergeTree) (ss : List SummaryView) (s : SummaryView) : Type 0 where
  k : (i : ℕ) → 0 < times i (leaves t) → (slice_index_or ss i no_sketch).k ≡ s.k
  total : s.total ≡ sum_by (λ i. (slice_index_or ss i no_sketch).total) (leaves t)
  counters : s.counters ≡ tree_value t (map (λ s. s.counters) ss) s.k

one-leaf : (i j : ℕ) → 0 < times i (j ∷ []) → j ≡ i
one-leaf i j some = by (eqb_tells j i)
  where
    by : ((j == i) ≡ true) × (j ≡ i) ⊎ ((j == i) ≡ false) × (j ≢ i) → j ≡ i
    by (inl e) = e.1
    by (inr e) = absurd (omega (arith, some, times-elsewhere i j [] e.1))

in-part : (i : ℕ) (xs ys : List ℕ) → 0 < times i (xs ++ ys) → (0 < times i xs) ⊎ (0 < times i ys)
in-part i xs ys some = by (times i xs) refl
  where
    by : (n : ℕ) → times i xs ≡ n → (0 < times i xs) ⊎ (0 < times i ys)
    by zero e = inr (omega (arith, some, e, times-append i xs ys))
    by (suc n) e = inl (omega (arith, e))

value-of : (t : MergeTree) (ss : List SummaryView) (s : SummaryView) → tree_result t ss ≡ Ok s → IsValue t ss s
value-of (Piece i) ss s h =
    let is : slice_index_or ss i no_sketch ≡ s = cc h in
    record {
      k = λ j some. rw (← one-leaf j i some, is) refl;
      total = rw (sum_by-cons (λ i. (slice_index_or ss i no_sketch).total) i [], is) (omega arith);
      counters = rw (get_or-map (λ (s : SummaryView). s.counters) ss i no_sketch, is) refl;
    }
value-of (Merge l r) ss u h =
    let (s, t, left, right, same, is) = both-ok (tree_result l ss) (tree_result r ss) u h in
    let vl = value-of l ss s left in
    let vr = value-of r ss t right in
    rw (← is) (value-merge l r ss s t same vl vr)
  where
    value-merge : (l r : MergeTree) (ss : List SummaryView) (s t : SummaryView) → s.k ≡ t.k → IsValue l ss s → IsValue r ss t
        → IsValue (Merge l r) ss (merge_of s t)
    value-merge l r ss s t same vl vr = record {
      k = λ i some. elim (in-part i (leaves l) (leaves r) some) [ inl a ↦ vl.k i a | inr b ↦ vr.k i b ∙ sym same ];
      total =
          let both = sum_by-append (λ i. (slice_index_or ss i no_sketch).total) (leaves l) (leaves r) in
          rw (both, ← vl.total, ← vr.total) refl;
      counters = rw (vl.counters, vr.counters, same) refl;
    }

-- any sum over the items of a tree's pieces, by pieces
sum-items : (f : Entry → ℕ) (t : MergeTree) (lists : List (List Entry))
    → sum_by f (items_of t lists) ≡ sum_by (λ i. sum_by f (slice_index_or lists i [])) (leaves t)
sum-items f (Piece i) lists = omega (arith, sum_by-cons (λ i. sum_by f (slice_index_or lists i [])) i [])
sum-items f (Merge l r) lists =
    let items = sum_by-append f (items_of l lists) (items_of r lists) in
    let pieces = sum_by-append (λ i. sum_by f (slice_index_or lists i [])) (leaves l) (leaves r) in
    omega (arith, items, pieces, sum-items f l lists, sum-items f r lists)

-- and by the tree: a sum over the items of its pieces is that over all items
same-sum : (f : Entry → ℕ) (t : MergeTree) (lists : List (List Entry)) → IsMergeTree t (length lists)
    → sum_by f (items_of t lists) ≡ sum_by f (whole_of lists)
same-sum f t lists h =
    sum-items f t lists ∙ sum-leaves (λ xs. sum_by f xs) [] t lists h ∙ sym (sum_by-flat_map f (λ xs. xs) lists)

-- counters that are honest for the items of a tree's pieces are so for all items
pub honest-whole : (t : MergeTree) (lists : List (List Entry)) (c : Counters) (m k : ℕ) → IsMergeTree t (length lists)
    → IsHonest c m (items_of t lists) k → IsHonest c m (whole_of lists) k
honest-whole t lists c m k tree h =
    let weights : (x : Bytes) → weight_of x (items_of t lists) ≡ weight_of x (whole_of lists) =
    λ x. same-sum (at_key x) t lists tree in
    record {
      counters = h.counters;
      counted = h.counted ∙ same-sum (λ (e : Entry). e.1) t lists tree;
      few = h.few;
      below = λ x. rw (← weights x) (h.below x);
      near = λ x. rw (← weights x) (h.near x);
    }

-- honest pieces make an honest tree
honest-items : JoinOfHonestIsHonest → (t : MergeTree) (ss : List SummaryView) (lists : List (List Entry)) (s : SummaryView)
    → tree_result t ss ≡ Ok s → ((i : ℕ) → 0 < times i (leaves t) → let piece = slice_index_or ss i no_sketch in
    IsHonest piece.counters piece.total (slice_index_or lists i []) s.k)
    → IsHonest s.counters s.total (items_of t lists) s.k
honest-items law (Piece i) ss lists s h each =
    let is : slice_index_or ss i no_sketch ≡ s = cc h in
    rw is at (each i (omega (arith, times-here i [])))
honest-items law (Merge l r) ss lists u h each =
    let (s, t, left, right, same, is) = both-ok (tree_result l ss) (tree_result r ss) u h in
    let k : u.k ≡ s.k = ap (λ (v : SummaryView). v.k) (sym is) in
    let hl = honest-items law l ss lists s left (λ i some. rw k at (at-left l r each i some)) in
    let hr = honest-items law r ss lists t right (λ i some. rw (k, same) at (at-right l r each i some)) in
    let both = law s.counters t.counters s.total t.total (items_of l lists) (items_of r lists) s.k in
    rw (← is) (both hl (rw (← same) at hr))

-- What a merge by a plan gives: the summaries had its k, its total is the sum of theirs, its counters are the tree's,
-- and it is honest where they are
pub record IsMergeOf (t : MergeTree) (ss : List SummaryView) (s : SummaryView) : Type 0 where
  pub same_k : All (λ piece. piece.k ≡ s.k) ss
  pub total : s.total ≡ sum_by (λ piece. piece.total) ss
  pub counters : s.counters ≡ tree_value t (map (λ piece. piece.counters) ss) s.k
  pub honest : MergesHonestly ss s

-- the summary that a tree's result is
pub merge-of : JoinOfHonestIsHonest → (t : MergeTree) (ss : List SummaryView) (s : SummaryView) → IsMergeTree t (length ss)
    → tree_result t ss ≡ Ok s → IsMergeOf t ss s
merge-of law t ss s tree h =
    let value = value-of t ss s h in
    let below = (distinct-leaves t (length ss) tree).below in
    record {
      same_k = All-from_get_or (λ (piece : SummaryView). piece.k ≡ s.k) ss no_sketch
          (λ i lt. value.k i (omega (arith, tree.once i lt)));
      total = value.total ∙ sum-leaves (λ (piece : SummaryView). piece.total) no_sketch t ss tree;
      counters = value.counters;
      honest = λ lists len each.
          let part = honest-items law t ss lists s h (λ i some. each i (below i some)) in
          honest-whole t lists s.counters s.total s.k (rw len tree) part;
    }
