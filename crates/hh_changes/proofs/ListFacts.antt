-- Elements of lists that were mapped, filtered or ranked.
use Rattle.std.proofs.Common.{◌≡◌, ◌<◌, List, [], ◌∷◌, ◌++◌, length, map, get_or, Ordering, Less, Equal, Greater, is_lt, ap, subst, sym, ◌∙◌, arith, append-nil}
use Rattle.std.specs.Prelude.{Contains, IsPermutation, IsSortedBy, fold}
use Rattle.std.specs.List.Sorted.{IsStrictlySortedBy}
use Rattle.std.specs.Map.{keys_of}
use Rattle.std.specs.Ordering.{nat_cmp, ordering_then}
use Rattle.std.proofs.lemmas.Map.Keys.{IsDistinct-from_sorted}
use Rattle.std.proofs.lemmas.Bool.{cond_both}
use Rattle.std.proofs.lemmas.List.{get_or-map, get_or_default, length-map}
use Rattle.std.proofs.lemmas.List.Sorted.{Contains-permutation, IsPermutation-append_left, IsPermutation-cons, IsPermutation-middle, IsPermutation-refl, IsPermutation-sym, IsPermutation-trans}
use Rattle.hh_stream.specs.Weights.{Entry, key_cmp}
use Rattle.hh_summaries.specs.Report.{by_rank, rank_cmp, ranked_in}
use Rattle.hh_summaries.proofs.Reports.{rank_total, rising_from_sort}

-- what an element becomes is an element
pub in_map : {A B : Type 0} (f : A → B) (xs : List A) (x : A) → Contains xs x → Contains (map f xs) (f x)
in_map f xs x i = (i.0, omega (arith, i.1, length-map xs f), get_or-map f xs i.0 x (f x) i.1 ∙ ap f i.2)

-- and each element was one
pub map_in : {A B : Type 0} (f : A → B) (d : A) (xs : List A) (y : B) → Contains (map f xs) y
    → (x : A) × Contains xs x × (f x ≡ y)
map_in {A} f d xs y i =
    let x : A = get_or xs i.0 d in
    let l : i.0 < length xs = omega (arith, i.1, length-map xs f) in
    (x, (i.0, l, get_or_default xs i.0 x d l), sym (get_or-map f xs i.0 d y l) ∙ i.2)

-- ---- the order of the report
one_more : (ds : List Entry) (e : Entry) → IsPermutation (e ∷ ds) (ranked_in ds e)
one_more [] e = IsPermutation-refl (e ∷ [])
one_more (d ∷ ds) e = cond_both (is_lt (rank_cmp e d)) _ _ (IsPermutation (e ∷ d ∷ ds))
    (λ _. IsPermutation-refl (e ∷ d ∷ ds))
    (λ _. IsPermutation-trans _ _ _ (IsPermutation-middle (e ∷ []) d ds)
    (IsPermutation-cons d (e ∷ ds) (ranked_in ds e) (one_more ds e)))

all_from : (ds es : List Entry) → IsPermutation (ds ++ es) (fold ranked_in ds es)
all_from ds [] = subst (λ (l : List Entry). IsPermutation l ds) (sym (append-nil ds)) (IsPermutation-refl ds)
all_from ds (e ∷ es) = IsPermutation-trans _ _ _ (IsPermutation-middle ds e es) (IsPermutation-trans _ _ _
    (IsPermutation-append_left es (e ∷ ds) (ranked_in ds e) (one_more ds e)) (all_from (ranked_in ds e) es))

-- ranked entries are the same entries
ranked : (es : List Entry) → IsPermutation es (by_rank es)
unfolding by_rank
ranked es = all_from [] es

pub in_ranked : (e : Entry) (es : List Entry) → Contains es e → Contains (by_rank es) e
in_ranked e es i = Contains-permutation es (by_rank es) e (ranked es) i

pub ranked_in_them : (e : Entry) (es : List Entry) → Contains (by_rank es) e → Contains es e
ranked_in_them e es i = Contains-permutation (by_rank es) es e (IsPermutation-sym es (by_rank es) (ranked es)) i

-- ---- what a sort leaves
ties : (d e : Entry) → rank_cmp d e ≡ Equal → key_cmp d.0 e.0 ≡ Equal
ties d e = by (nat_cmp e.1 d.1)
  where
    by : (r : Ordering) → ordering_then r (key_cmp d.0 e.0) ≡ Equal → key_cmp d.0 e.0 ≡ Equal
    by Less p = absurd (cc)
    by Equal p = p
    by Greater p = absurd (cc)

-- sorted entries whose keys rose are strictly in order
pub ranked_from : (es ys : List Entry) → IsStrictlySortedBy key_cmp (keys_of es) → IsPermutation es ys
    → IsSortedBy (λ x y. is_lt (rank_cmp x y)) ys → IsStrictlySortedBy rank_cmp ys
ranked_from es ys h perm sorted =
    rising_from_sort rank_total ties es ys (IsDistinct-from_sorted key_cmp (keys_of es) h) perm sorted
