-- Only one list is the greatest keys.
use Rattle.std.proofs.Common.{◌≡◌, ℕ, zero, suc, ◌<◌, ◌≤◌, ⊎_elim, ◌⊎◌, inl, inr, List, [], ◌∷◌, length, Less, is_lt, refl, sym, ap, ap₂, ◌∙◌, subst, take, arith, Contains}
use Rattle.std.specs.List.{AllByRecursion}
use Rattle.std.specs.List.Sorted.{IsStrictlySortedBy}
use Rattle.std.proofs.lemmas.Bool.{cases_lt}
use Rattle.std.proofs.lemmas.List.{take_all}
use Rattle.std.proofs.lemmas.List.Elements.{All-contains, All-from_recursion}
use Rattle.hh_stream.specs.Weights.{Entry}
use Rattle.hh_summaries.specs.Counters.{tally}
use Rattle.hh_summaries.specs.Report.{rank_cmp}
use Rattle.hh_summaries.proofs.Weights.{rising-tally}
use Rattle.hh_summaries.proofs.Reports.{rank_total, same_ranked}
use Rattle.hh_top.specs.Top.{IsTop, ranking, top}
use Rattle.hh_top.proofs.Ranking.{in_ranking, over_is_exact, ranking_in}

in_cons : (r x : Entry) (rs : List Entry) → Contains (r ∷ rs) x → (r ≡ x) ⊎ Contains rs x
in_cons r x rs (zero, l, is) = inl is
in_cons r x rs (suc k, l, is) = inr (k, omega arith, is)

in_rest : (r x : Entry) (rs : List Entry) → Contains rs x → Contains (r ∷ rs) x
in_rest r x rs (k, l, is) = (suc k, omega arith, is)

in_front : (r : Entry) (rs : List Entry) → Contains (r ∷ rs) r
in_front r rs = (0, omega arith, refl)

comes_after : (e x : Entry) (es : List Entry) → AllByRecursion (λ f. rank_cmp e f ≡ Less) es → Contains es x
    → rank_cmp e x ≡ Less
comes_after e x es h i =
    All-contains (λ f. rank_cmp e f ≡ Less) es x (All-from_recursion (λ f. rank_cmp e f ≡ Less) es h) i

-- ranked entries of a ranked list, with all that come before one of them, are its first
first_of_all : (es rs : List Entry) → IsStrictlySortedBy rank_cmp es → IsStrictlySortedBy rank_cmp rs
    → ((e : Entry) → Contains es e → Contains rs e)
    → ((d e : Entry) → Contains rs d → Contains es e → rank_cmp d e ≡ Less → Contains es d) → es ≡ take (length es) rs
unfolding IsStrictlySortedBy
first_of_all [] rs h g among before = refl
first_of_all (e ∷ es) [] h g among before = absurd (omega (arith, (among e (in_front e es)).1))
first_of_all (e ∷ es) (r ∷ rs) h g among before =
    let first : r ≡ e = ⊎_elim (λ (is : r ≡ e). is)
    (λ (i : Contains rs e).
    let less : rank_cmp r e ≡ Less = comes_after r e rs g.0 i in
    ⊎_elim (λ (is : e ≡ r). sym is)
    (λ (j : Contains es r). absurd (cc (less, comes_after e r es h.0 j, rank_total.antisymm r e)))
    (in_cons e r es (before r e (in_front r rs) (in_front e es) less)))
    (in_cons r e rs (among e (in_front e es))) in
    let rest = first_of_all es rs h.1 g.1
    (λ x i. ⊎_elim
    (λ (is : r ≡ x). absurd (cc (comes_after e x es h.0 i, first, is, rank_total.antisymm e e)))
    (λ (j : Contains rs x). j) (in_cons r x rs (among x (in_rest e x es i))))
    (λ d x i j less. ⊎_elim
    (λ (is : e ≡ d). absurd (cc (comes_after r d rs g.0 i, first, is, rank_total.antisymm r r)))
    (λ (k : Contains es d). k) (in_cons e d es (before d x (in_rest r d rs i) (in_rest e x es j) less))) in
    ap₂ (λ (a : Entry) (l : List Entry). a ∷ l) (sym first) rest

-- so no other list than the first n of all keys is the n greatest
pub only_top : (xs : List Entry) (n : ℕ) (es : List Entry) → IsTop xs n es → es ≡ top n xs
only_top xs n es h =
    let ranked = (over_is_exact 0 (tally xs) (rising-tally xs)).0 in
    let among : (e : Entry) → Contains es e → Contains (ranking xs) e = λ e i.
    let own = h.exact e i in
    subst (λ w. Contains (ranking xs) (e.0, w)) (sym own.0) (in_ranking xs e.0 (omega (arith, own.0, own.1))) in
    ⊎_elim
    (λ (short : length es < n).
    let all = same_ranked es (ranking xs) h.ranked ranked among (λ x i.
    let own = ranking_in xs x i in
    subst (λ w. Contains es (x.0, w)) (sym own.0) (h.all short x.0 (omega (arith, own.0, own.1)))) in
    all ∙ sym (take_all n (ranking xs) (omega (arith, ap length all, short))))
    (λ (le : n ≤ length es).
    let first = first_of_all es (ranking xs) h.ranked ranked among
    (λ d e i j less. h.greatest d e j (ranking_in xs d i).0 (ap is_lt less)) in
    let long : length es ≡ n = omega (arith, le, h.few) in
    first ∙ ap (λ k. take k (ranking xs)) long)
    (cases_lt (length es) n)
