-- Counts after some more items.
use Rattle.std.proofs.Common.{◌≡◌, ◌<◌, ◌≤◌, ◌+◌, ◌++◌, ◌∙◌, ℕ, List, [], length, take, drop, get_or, ap, sym, arith, All, replicate}
use Rattle.std.proofs.lemmas.List.{ext_get_or, get_or-map, length-map}
use Rattle.std.proofs.Math.Seq.{take-append_seam}
use Rattle.std.proofs.lemmas.List.Sums.{sum_by-append}
use Rattle.hh_stream.specs.Weights.{Bytes, Entry, at_key, total_of, weight_of}
use Rattle.hh_counters.specs.Laws.{CountsAddUp, CountsStayWithin}
use Rattle.hh_summaries.specs.Report.{counts_with, weights_at}
use Rattle.hh_counters.specs.Counting.{Count, count_of, count_with}

-- a vector holds the numbers that were written over all of it
pub all-written : (new old : List ℕ) (len : ℕ) → len ≡ length new → take len (new ++ drop (length new) old) ≡ new
all-written new old len e = rw e (take-append_seam new _)

-- there is a number for each key still, and none is above the new total
pub counts-within : CountsStayWithin → (ks : List Bytes) (xs : List Entry) (old new : List ℕ) (len total more : ℕ)
    → len ≡ length old → length old ≡ length ks → All (λ n. n ≤ total) old → total_of xs ≡ more
    → new ≡ counts_with ks xs old
    → (take len (new ++ drop (length new) old) ≡ new) × (length new ≡ length ks) × All (λ n. n ≤ total + more) new
counts-within law ks xs old new len total more whole lengths within weighs is =
    let (long, bound) = law ks xs old total lengths within in
    let same : length new ≡ length ks = ap length is ∙ long in (
      all-written new old len (whole ∙ lengths ∙ sym same),
      same,
      λ i d lt. rw (← weighs, is) (bound i d (rw is at lt)),
    )

-- counting more items is counting all
pub count-more : CountsAddUp → (ks : List Bytes) (xs ys : List Entry)
    → count_with (count_of ks xs) ys ≡ count_of ks (xs ++ ys)
count-more law ks xs ys =
    let zeros = replicate (length ks) 0 in
    let all = ap (counts_with ks ys) (sym (law ks xs ys zeros).0) ∙ sym (law ks xs ys zeros).1
    ∙ (law ks (xs ++ ys) [] zeros).0 in
    λ i. record { keys = ks; weights = all i; total = sym (sum_by-append (λ (e : Entry). e.1) xs ys) i }

-- the counts of two lists, added up, are those of both together
pub counts-join : (one other : Count) (ks : List Bytes) (xs ys : List Entry) (sums : List ℕ)
    → length sums ≡ length one.weights
    → ((i : ℕ) → i < length sums → get_or sums i 0 ≡ get_or one.weights i 0 + get_or other.weights i 0)
    → one ≡ count_of ks xs → other ≡ count_of ks ys
    → record { keys = one.keys; weights = sums; total = one.total + other.total } ≡ count_of ks (xs ++ ys)
counts-join one other ks xs ys sums long each p q =
    let weight : List Entry → Bytes → ℕ = λ zs x. weight_of x zs in
    let mine = ap (λ (c : Count). c.weights) p in
    let same : length sums ≡ length ks = long ∙ ap length mine ∙ length-map ks (weight xs) in
    let weights : sums ≡ weights_at ks (xs ++ ys) =
    ext_get_or 0 sums (weights_at ks (xs ++ ys)) (same ∙ sym (length-map ks (weight (xs ++ ys)))) (λ i low.
    let l : i < length ks = omega (arith, low, same) in
    let at = λ (zs : List Entry). get_or-map (weight zs) ks i [] 0 l in
    omega (
      arith,
      each i low,
      ap (λ (ns : List ℕ). get_or ns i 0) mine,
      ap (λ (c : Count). get_or c.weights i 0) q,
      at xs,
      at ys,
      at (xs ++ ys),
      sum_by-append (at_key (get_or ks i [])) xs ys,
    )) in
    let total : one.total + other.total ≡ total_of (xs ++ ys) = omega (
      arith,
      ap (λ (c : Count). c.total) p,
      ap (λ (c : Count). c.total) q,
      sum_by-append (λ (e : Entry). e.1) xs ys,
    ) in
    λ j. record { keys = ap (λ (c : Count). c.keys) p j; weights = weights j; total = total j }
