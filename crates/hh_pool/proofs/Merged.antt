-- The merged summary can be made, and is what the analysis says.
use Rattle.std.proofs.Common.{◌≡◌, ℕ, ◌+◌, ◌<◌, ◌≤◌, List, [], ◌∷◌, length, length-append, get_or, map, refl, sym, ap, ◌∙◌, subst, arith, Ok, Err, sum_by}
use Rattle.std.proofs.lemmas.List.{get_or-map, length-map}
use Rattle.std.proofs.lemmas.List.Sums.{sum_by-append, sum_by-cons}
use Rattle.std.proofs.lemmas.Bool.Decides.{nat_tests}
use Rattle.hh_stream.specs.Weights.{Entry, total_of, max_total}
use Rattle.hh_stream.specs.Cuttings.{whole_of}
use Rattle.hh_summaries.specs.Counters.{SummaryView, sketch_of, merge_of, misra_gries, IsHonest}
use Rattle.hh_summaries.specs.declared.fault.SummaryFault.{SummaryFault}
use Rattle.hh_counters.specs.Laws.{MisraGriesIsHonest, JoinOfHonestIsHonest}
use Rattle.hh_shared.specs.Numbers.{times}
use Rattle.hh_pool.specs.Trees.{merge_both, merge_result, no_sketch, tree_result, tree_value}
use Rattle.hh_workers.specs.Trees.{MergeTree, Piece, Merge, IsMergeTree, leaves}
use Rattle.hh_pool.specs.Laws.{TreesMergeSummaries}
use Rattle.hh_pool.specs.Outcomes.{IsMerged}
use Rattle.hh_shared.proofs.NumberFacts.{times-here}
use Rattle.hh_workers.proofs.LeafFacts.{at-left, at-right, distinct-leaves, length_leaves, sum-leaves}
use Rattle.hh_pool.proofs.ValueFacts.{IsMergeOf, merge-of}

abbrev total_at : List SummaryView → ℕ → ℕ
total_at ss i = (get_or ss i no_sketch).total

merge_fits : (s t : SummaryView) → s.k ≡ t.k → s.total + t.total ≤ max_total → merge_result s t ≡ Ok (merge_of s t)
merge_fits s t same fits = grind (arith, nat_tests)

-- summaries with one k, whose totals fit together, are merged
tree_merges : (t : MergeTree) (ss : List SummaryView) (k : ℕ)
    → ((i : ℕ) → 0 < times i (leaves t) → (get_or ss i no_sketch).k ≡ k) → sum_by (total_at ss) (leaves t) ≤ max_total
    → (s : SummaryView) × (tree_result t ss ≡ Ok s) × (s.k ≡ k) × (s.total ≡ sum_by (total_at ss) (leaves t))
tree_merges (Piece i) ss k one_k fits =
    (get_or ss i no_sketch, refl, one_k i (omega (arith, times-here i [])), omega arith)
tree_merges (Merge l r) ss k one_k fits =
    let both = sum_by-append (total_at ss) (leaves l) (leaves r) in
    let a = tree_merges l ss k (at-left l r one_k) (omega arith) in
    let b = tree_merges r ss k (at-right l r one_k) (omega arith) in
    let node = merge_fits a.0 b.0 (a.2 ∙ sym b.2) (omega (arith, a.3, b.3)) in
    (merge_of a.0 b.0, (λ i. merge_both (a.1 i) (b.1 i)) ∙ node, a.2, omega (arith, a.3, b.3))

-- the totals of the pieces' summaries add up to the total of all items
total-sketches : (k : ℕ) (pieces : List (List Entry)) → sum_by (λ (s : SummaryView). s.total) (map (sketch_of k) pieces)
    ≡ total_of (whole_of pieces)
total-sketches k [] = refl
total-sketches k (p ∷ ps) =
    let first = sum_by-cons (λ (s : SummaryView). s.total) (sketch_of k p) (map (sketch_of k) ps) in
    omega (arith, first, total-sketches k ps, sum_by-append (λ (e : Entry). e.1) p (whole_of ps))

counters-sketches : (k : ℕ) (pieces : List (List Entry)) → map (λ (s : SummaryView). s.counters) (map (sketch_of k) pieces)
    ≡ map (λ p. misra_gries p k) pieces
counters-sketches k [] = refl
counters-sketches k (p ∷ ps) = ap (λ cs. misra_gries p k ∷ cs) (counters-sketches k ps)

sketch-at : (k : ℕ) (pieces : List (List Entry)) (i : ℕ) → i < length pieces
    → get_or (map (sketch_of k) pieces) i no_sketch ≡ sketch_of k (get_or pieces i [])
sketch-at k pieces i low = get_or-map (sketch_of k) pieces i [] no_sketch low

-- no plan is refused at the summaries of a stream's pieces
pieces_merge : (t : MergeTree) (k : ℕ) (pieces : List (List Entry)) → IsMergeTree t (length pieces)
    → total_of (whole_of pieces) ≤ max_total → (s : SummaryView) × (tree_result t (map (sketch_of k) pieces) ≡ Ok s)
pieces_merge t k pieces plan fits =
    let ss = map (sketch_of k) pieces in
    let count = length-map pieces (sketch_of k) in
    let all = sum-leaves (λ (s : SummaryView). s.total) no_sketch t ss (subst (IsMergeTree t) (sym count) plan) in
    let below = (distinct-leaves t (length pieces) plan).below in
    let one_k : (i : ℕ) → 0 < times i (leaves t) → (get_or ss i no_sketch).k ≡ k =
    λ i some. ap (λ (s : SummaryView). s.k) (sketch-at k pieces i (below i some)) in
    let one = tree_merges t ss k one_k (omega (arith, all, total-sketches k pieces)) in
    (one.0, one.1)

-- what merge_by says of the summaries of a stream's pieces
pub merged_is : MisraGriesIsHonest → (t : MergeTree) (k : ℕ) (pieces : List (List Entry)) (xs : List Entry)
    (ss : List SummaryView) (s : SummaryView) → 0 < length pieces → whole_of pieces ≡ xs → ss ≡ map (sketch_of k) pieces
    → IsMergeOf t ss s → IsMerged t k pieces xs s
merged_is law t k pieces xs ss s some whole e of =
    let sketches = map (sketch_of k) pieces in
    let here : IsMergeOf t sketches s = rw e at of in
    let count : length sketches ≡ length pieces = length-map pieces (sketch_of k) in
    let first = ap (λ (piece : SummaryView). piece.k) (sketch-at k pieces 0 some) in
    let k_is : s.k ≡ k = sym (here.same_k 0 no_sketch (omega arith)) ∙ first in
    let total_is = here.total ∙ (total-sketches k pieces ∙ ap total_of whole) in
    let each : (i : ℕ) → i < length sketches → let piece = get_or sketches i no_sketch in
    IsHonest piece.counters piece.total (get_or pieces i []) s.k =
    (λ i low. rw (sketch-at k pieces i (omega arith), k_is) (law (get_or pieces i []) k)) in
    record {
      same_k = k_is;
      total = total_is;
      counters = here.counters ∙ (λ i. tree_value t (counters-sketches k pieces i) (k_is i));
      honest = subst (λ (z : ℕ × List Entry × ℕ). IsHonest s.counters z.0 z.1 z.2)
          (λ i. (total_is i, whole i, k_is i)) (here.honest pieces (sym count) each);
    }

some-leaf : (t : MergeTree) → 0 < length (leaves t)
some-leaf (Piece i) = omega arith
some-leaf (Merge l r) = omega (arith, some-leaf l, length-append (leaves l) (leaves r))

-- whatever the tree makes of the pieces' summaries is the merged summary of them all
pub summaries-merge : JoinOfHonestIsHonest → MisraGriesIsHonest → TreesMergeSummaries
summaries-merge join law t k parts s tree made =
    let ss = map (sketch_of k) parts in
    let over : IsMergeTree t (length ss) = rw (length-map parts (sketch_of k)) tree in
    let some : 0 < length parts = omega (arith, some-leaf t, length_leaves t (length parts) tree) in
    merged_is law t k parts (whole_of parts) ss s some refl refl (merge-of join t ss s over made)

-- so no refusal comes
pub no_refusal : (t : MergeTree) (k : ℕ) (pieces : List (List Entry)) (ss : List SummaryView) (e : SummaryFault)
    → IsMergeTree t (length pieces) → total_of (whole_of pieces) ≤ max_total
    → ss ≡ map (sketch_of k) pieces → tree_result t ss ≡ Err e → ⊥
no_refusal t k pieces ss e tree most is refused =
    let merges = pieces_merge t k pieces tree most in
    let here : tree_result t ss ≡ Ok merges.0 = ap (tree_result t) is ∙ merges.1 in
    cc
