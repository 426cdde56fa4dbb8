-- The numbers of a tree's pieces, and the marks of those that came.
use Rattle.std.proofs.Common.{◌≡◌, ◌≢◌, ◌+◌, ◌<◌, ◌≤◌, ◌==◌, ◌∷◌, ◌++◌, ◌∙◌, ℕ, Bool, true, false, List, [], length, take, drop, set, get_or, refl, sym, ap, add-one, inl, inr, ◌⊎◌, arith, nat_lt}
use Rattle.std.proofs.lemmas.Bool.Decides.{eqb_tells, nat_tests}
use Rattle.std.proofs.lemmas.List.{take-append-drop, take_more}
use Rattle.std.proofs.Common.{drop-cons, get_or-set_other, get_or-set_same}
use Rattle.std.proofs.Math.ListN.{length-set}
use Rattle.hh_workers.specs.Trees.{IsMergeTree, MergeTree, leaves}
use Rattle.hh_shared.specs.Numbers.{times, IsDistinctBelow}
use Rattle.hh_workers.specs.PlanTexts.{AreMarked, AreNumbersWrong, NumbersRefused, PlanRefused, SpellsTree}
use Rattle.hh_faults.specs.declared.error.ToolError.{ToolError}
use Rattle.hh_faults.specs.declared.error.ToolError.TheVariants as tool
use Rattle.hh_faults.specs.declared.error.TreeFault.TheVariants as bad
use Rattle.hh_shared.proofs.NumberFacts.{distinct-push, times-push, times-push_other}

-- a list at a place
pub split-at : (xs : List ℕ) (n d : ℕ) → n < length xs → xs ≡ take n xs ++ get_or xs n d ∷ drop (n + 1) xs
split-at xs n d lt = sym (take-append-drop n xs) ∙ ap (λ (ys : List ℕ). take n xs ++ ys) (drop-cons xs n d lt
    ∙ rw (add-one n) refl)

-- a mark tells whether its number came
pub came : (marks : List Bool) (p x : ℕ) (xs : List ℕ) → AreMarked marks p xs → x < p → get_or marks x false ≡ true
    → 0 < times x xs
came marks p x xs m lt e = let test = sym (m.1 x lt) ∙ e in grind (arith, nat_tests)

new : (marks : List Bool) (p x : ℕ) (xs : List ℕ) → AreMarked marks p xs → x < p → get_or marks x false ≡ false
    → times x xs ≡ 0
new marks p x xs m lt e = let test = sym (m.1 x lt) ∙ e in grind (arith, nat_tests)

is-some : (n : ℕ) → 0 < n → nat_lt 0 n ≡ true
is-some n h = grind (arith, nat_tests)

marked-push : (marks : List Bool) (p x : ℕ) (xs : List ℕ) → AreMarked marks p xs → x < p
    → AreMarked (set marks x true) p (xs ++ x ∷ [])
marked-push marks p x xs m lt = (length-set marks x true ∙ m.0, λ i below. mark i below (eqb_tells x i))
  where
    mark : (i : ℕ) → i < p → ((x == i) ≡ true) × (x ≡ i) ⊎ ((x == i) ≡ false) × (x ≢ i)
        → get_or (set marks x true) i false ≡ nat_lt 0 (times i (xs ++ x ∷ []))
    mark i below (inl e) =
        let there : x < length marks = omega (arith, lt, m.0) in
        let some : nat_lt 0 (times x (xs ++ x ∷ [])) ≡ true = is-some _ (omega (arith, times-push x xs)) in
        rw (← e.1, get_or-set_same, some) refl
    mark i below (inr e) =
        let other : i ≢ x = λ h. e.1 (sym h) in
        rw (get_or-set_other, times-push_other x i xs other) (m.1 i below)

-- one more number that is new
pub numbers-more : (marks : List Bool) (p n d : ℕ) (xs : List ℕ) → n < length xs → AreMarked marks p (take n xs)
    → IsDistinctBelow p (take n xs) → get_or xs n d < p → get_or marks (get_or xs n d) false ≡ false
    → AreMarked (set marks (get_or xs n d) true) p (take (n + 1) xs) × IsDistinctBelow p (take (n + 1) xs)
numbers-more marks p n d xs lt m own below e =
    let x = get_or xs n d in
    let distinct = distinct-push p x (take n xs) own below (new marks p x (take n xs) m below e) in
    rw (take_more xs n d lt) (marked-push marks p x (take n xs) m below, distinct)

-- different numbers below p, each of which came, are the leaves of a merge tree
pub all-came : (t : MergeTree) (marks : List Bool) (p : ℕ) → AreMarked marks p (leaves t) → IsDistinctBelow p (leaves t)
    → ((i : ℕ) → i < length marks → get_or marks i false ≡ true) → IsMergeTree t p
all-came t marks p m own all = record {
  once = λ i lt. omega (arith, own.once i, came marks p i (leaves t) m lt (all i (omega (arith, lt, m.0))));
  within = λ i le. none i le;
}
  where
    none : (i : ℕ) → p ≤ i → times i (leaves t) ≡ 0
    none i le = grind (arith, own.below i)

-- a tree's numbers are refused after its text was read
pub numbers-refused : (text : List ℕ) (t : MergeTree) (p : ℕ) (f : ToolError) → SpellsTree text t
    → NumbersRefused p (leaves t) f → PlanRefused text p f
numbers-refused text t p (tool.BadTree (bad.Syntax n)) spells h = absurd h
numbers-refused text t p (tool.BadTree (bad.UnknownPiece i)) spells h = (t, spells, h)
numbers-refused text t p (tool.BadTree (bad.RepeatedPiece i)) spells h = (t, spells, h)
numbers-refused text t p (tool.BadTree (bad.MissingPiece i)) spells h = (t, spells, h)
numbers-refused text t p tool.Memory spells h = tt
numbers-refused text t p _ spells h = absurd h

-- the least number that didn't come
pub missing : (marks : List Bool) (p i : ℕ) (xs : List ℕ) → AreMarked marks p xs → IsDistinctBelow p xs
    → i < length marks → get_or marks i false ≡ false
    → ((j : ℕ) → j < i → get_or marks j false ≡ true) → AreNumbersWrong p xs (bad.MissingPiece i)
missing marks p i xs m own lt e below =
    let within : i < p = omega (arith, lt, m.0) in
    let others : (j : ℕ) → j < i → 0 < times j xs =
    λ j less. came marks p j xs m (omega (arith, less, within)) (below j less) in
    (own, within, new marks p i xs m within e, others)
