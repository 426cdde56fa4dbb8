-- Sums over the items of pieces.
use Rattle.std.proofs.Common.{◌≡◌, ◌⊎◌, inl, inr, ℕ, ◌+◌, ◌<◌, ◌≤◌, List, [], ◌∷◌, ◌++◌, length, ⊎_elim, refl, sym, ap, ◌∙◌, arith, sum_by}
use Rattle.std.specs.List.{flat_map}
use Rattle.std.proofs.lemmas.List.{append-nil}
use Rattle.std.proofs.lemmas.List.Sums.{sum_by-cons, sum_by-append}
use Rattle.std.proofs.lemmas.Grind.{flat_map-append}
use Rattle.std.proofs.lemmas.Bool.{cases_lt}
use Rattle.hh_stream.specs.Weights.{Entry, max_total, total_of}
use Rattle.hh_stream.specs.Cuttings.{whole_of}
use Rattle.hh_shared.specs.Numbers.{AreDisjoint, IsDistinctBelow, HasAllBelow, times}
use Rattle.hh_shared.proofs.NumberFacts.{sum_by-all, sum_by-distinct, times-append}
use Rattle.hh_workers.specs.Pieces.{MayRefuse, items_at, piece_of}

module _ {X A : Type 0} where
  -- a sum over the parts is a sum of the parts' sums
  pub sum_by-flat_map : (f : A → ℕ) (g : X → List A) (xs : List X)
      → sum_by f (flat_map g xs) ≡ sum_by (λ x. sum_by f (g x)) xs
  sum_by-flat_map f g [] = refl
  sum_by-flat_map f g (x ∷ xs) = sum_by-append f (g x) (flat_map g xs)
      ∙ (ap (λ n. sum_by f (g x) + n) (sum_by-flat_map f g xs) ∙ sym (sum_by-cons (λ y. sum_by f (g y)) x xs))

-- the items of one piece more come after the others
pub items_at-push : (pieces : List (List Entry)) (claims : List ℕ) (i : ℕ)
    → items_at pieces (claims ++ i ∷ []) ≡ items_at pieces claims ++ piece_of pieces i
items_at-push pieces claims i = flat_map-append (piece_of pieces) claims (i ∷ [])
    ∙ ap (λ xs. items_at pieces claims ++ xs) (append-nil (piece_of pieces i))

-- where each piece was claimed once, a sum over the claimed pieces is a sum over all items
pub sum_by-all_items : (f : Entry → ℕ) (pieces : List (List Entry)) (claims : List ℕ)
    → IsDistinctBelow (length pieces) claims → HasAllBelow (length pieces) claims
    → sum_by f (items_at pieces claims) ≡ sum_by f (whole_of pieces)
sum_by-all_items f pieces claims d all = sum_by-flat_map f (piece_of pieces) claims
    ∙ (sum_by-all (sum_by f) [] pieces claims d all ∙ sym (sum_by-flat_map f (λ piece. piece) pieces))

-- a sum over distinct pieces is at most a sum over all items
pub sum_by-items : (f : Entry → ℕ) (pieces : List (List Entry)) (claims : List ℕ)
    → IsDistinctBelow (length pieces) claims → sum_by f (items_at pieces claims) ≤ sum_by f (whole_of pieces)
sum_by-items f pieces claims d =
    let parts = sum_by-flat_map f (piece_of pieces) claims in
    let whole = sum_by-flat_map f (λ piece. piece) pieces in
    omega (arith, parts, sum_by-distinct (sum_by f) [] pieces claims d, whole)

-- the total of the items of two workers' pieces
pub total-joined : (pieces : List (List Entry)) (one other : List ℕ)
    → total_of (items_at pieces (one ++ other)) ≡ total_of (items_at pieces one) + total_of (items_at pieces other)
total-joined pieces one other = ap total_of (flat_map-append (piece_of pieces) one other)
    ∙ sum_by-append (λ (e : Entry). e.1) (items_at pieces one) (items_at pieces other)

-- claims of two workers that have none in common are distinct
pub distinct-joined : (n : ℕ) (one other : List ℕ) → IsDistinctBelow n one → IsDistinctBelow n other → AreDisjoint one other
    → IsDistinctBelow n (one ++ other)
distinct-joined n one other p q apart = record {
  once = λ j. ⊎_elim
      (λ (some : 0 < times j one). omega (arith, times-append j one other, p.once j, apart j some))
      (λ (none : times j one ≤ 0). omega (arith, times-append j one other, q.once j))
      (cases_lt 0 (times j one));
  below = λ j some. ⊎_elim
      (λ (here : 0 < times j one). p.below j here)
      (λ (none : times j one ≤ 0). q.below j (omega (arith, times-append j one other)))
      (cases_lt 0 (times j one));
}

-- the items of two workers' pieces weigh at most what all do
pub joined_total : (pieces : List (List Entry)) (one other : List ℕ) → IsDistinctBelow (length pieces) one
    → IsDistinctBelow (length pieces) other → AreDisjoint one other
    → total_of (items_at pieces one) + total_of (items_at pieces other) ≤ total_of (whole_of pieces)
joined_total pieces one other p q apart =
    let distinct = distinct-joined (length pieces) one other p q apart in
    let all = sum_by-items (λ (e : Entry). e.1) pieces (one ++ other) distinct in
    omega (arith, all, total-joined pieces one other)

-- what is known where the next piece is refused
pub next_refused : (refuses : ℕ → Type 0) (pieces : List (List Entry)) (n before taken : ℕ) → n < length pieces
    → before + total_of (piece_of pieces n) ≤ total_of (whole_of pieces) → taken ≤ before
    → refuses n ⊎ (max_total < taken + total_of (piece_of pieces n)) → MayRefuse refuses pieces
next_refused refuses pieces n before taken low fits most refused = elim refused [
  | inl r ↦ inl (n, low, r)
  | inr high ↦ inr (omega (arith, high, fits, most))
]

-- different pieces and one more weigh at most what all do
pub more_total : (pieces : List (List Entry)) (numbers : List ℕ) (n : ℕ)
    → IsDistinctBelow (length pieces) (numbers ++ n ∷ [])
    → total_of (items_at pieces numbers) + total_of (piece_of pieces n) ≤ total_of (whole_of pieces)
more_total pieces numbers n distinct =
    let weight : Entry → ℕ = λ e. e.1 in
    let all = sum_by-items weight pieces (numbers ++ n ∷ []) distinct in
    let sum = sum_by-append weight (items_at pieces numbers) (piece_of pieces n) in
    omega (arith, all, ap total_of (items_at-push pieces numbers n), sum)
