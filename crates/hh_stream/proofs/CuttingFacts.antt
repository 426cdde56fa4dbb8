-- Where the pieces of a cutting lie, and what even pieces add up to.
use Rattle.std.proofs.Common.{◌≡◌, ◌+◌, ◌-◌, ◌*◌, ◌/◌, ◌%◌, ◌<◌, ◌≤◌, ◌∷◌, ℕ, zero, suc, List, [], length, map, take, drop, get_or, refl, ap, arith, length-drop, length-take, sum, nat_lt, min, if◌then◌else◌}
use Rattle.std.specs.List.{range_with_len}
use Rattle.std.proofs.lemmas.List.{drop-drop, take-append-drop}
use Rattle.std.proofs.lemmas.List.Sums.{sum_by-cons, sum_by-take-drop, sum_by-take-le}
use Rattle.std.proofs.lemmas.Bool.Decides.{nat_tests}
use Rattle.hh_stream.specs.Weights.{Entry, total_of}
use Rattle.hh_stream.specs.Cuttings.{even_lengths, pieces_of, whole_of}

-- piece i begins where the pieces before it end
pieces-at : {A : Type 0} (ns : List ℕ) (xs : List A) (i d : ℕ) → i < length ns
    → get_or (pieces_of ns xs) i [] ≡ take (get_or ns i d) (drop (sum (take i ns)) xs)
pieces-at [] xs i d lt = absurd (omega (arith, lt))
pieces-at (n ∷ ns) xs zero d lt = refl
pieces-at (n ∷ ns) xs (suc i) d lt =
    let below : i < length ns = omega (arith, lt) in
    rw (sum_by-cons (λ x. x) n (take i ns), ← drop-drop (sum (take i ns)) n xs) (pieces-at ns (drop n xs) i d below)

-- the same by the place and the length of the piece
pub piece-at : {A : Type 0} (ns : List ℕ) (xs : List A) (i start n : ℕ) → i < length ns → start ≡ sum (take i ns)
    → n ≡ get_or ns i n
    → take (start + n - start) (drop start xs) ≡ get_or (pieces_of ns xs) i []
piece-at ns xs i start n lt e f =
    let size : start + n - start ≡ n = omega arith in
    rw (size, pieces-at ns xs i n lt, e) (ap (λ (m : ℕ). take m (drop (sum (take i ns)) xs)) f)

-- a part of a list weighs at most the whole
pub total-part : (xs : List Entry) (n start : ℕ) → total_of (take n (drop start xs)) ≤ total_of xs
total-part xs n start =
    let first = sum_by-take-le (λ (e : Entry). e.1) (drop start xs) n in
    let rest = sum_by-take-drop (λ (e : Entry). e.1) xs start in
    omega (arith, first, rest)

-- the pieces, one after the other, are the whole
pub pieces-whole : {A : Type 0} (ns : List ℕ) (xs : List A) → sum ns ≡ length xs → whole_of (pieces_of ns xs) ≡ xs
pieces-whole [] [] e = refl
pieces-whole [] (x ∷ xs) e = let bad : 0 ≡ suc (length xs) = e in absurd (omega (arith, bad))
pieces-whole (n ∷ ns) xs e =
    let rest : sum ns ≡ length (drop n xs) = omega (arith, e, sum_by-cons (λ x. x) n ns, length-drop n xs) in
    rw (pieces-whole ns (drop n xs) rest) (take-append-drop n xs)

-- the pieces have their lengths
pub pieces-lengths : {A : Type 0} (ns : List ℕ) (xs : List A) → sum ns ≡ length xs → map length (pieces_of ns xs) ≡ ns
pieces-lengths [] xs e = refl
pieces-lengths (n ∷ ns) xs e =
    let cons = sum_by-cons (λ x. x) n ns in
    let first : length (take n xs) ≡ n = omega (arith, e, cons, length-take n xs) in
    let rest : sum ns ≡ length (drop n xs) = omega (arith, e, cons, length-drop n xs) in
    λ i. first i ∷ pieces-lengths ns (drop n xs) rest i

-- so many even lengths, from the a-th on, take what goes up and one for each that stands below r
sum-even-from : (q r a k : ℕ) → sum (map (λ i. q + (if nat_lt i r then 1 else 0)) (range_with_len a k)) + min r a
    ≡ k * q + min r (a + k)
sum-even-from q r a zero = grind arith
sum-even-from q r a (suc k) =
    let more = sum-even-from q r (a + 1) k in
    rw (sum_by-cons (λ x. x) (q + (if nat_lt a r then 1 else 0))
    (map (λ i. q + (if nat_lt i r then 1 else 0)) (range_with_len (a + 1) k)))
    (grind (arith, nat_tests, more))

-- even pieces have all items
pub sum-even : (n p : ℕ) → 0 < p → sum (even_lengths n p) ≡ n
sum-even n p some =
    let all = sum-even-from (n / p) (n % p) 0 p in
    grind (arith, all)
