-- The names for keys without a counter.
use Rattle.std.proofs.Common.{◌≡◌, ℕ, ◌<◌, ◌≤◌, ◌+◌, ◌^◌, ◌++◌, ap, refl, inl, inr, arith, subst}
use Rattle.std.specs.Prelude.{codes, length}
use Rattle.std.specs.Fmt.{decimal}
use Rattle.std.proofs.lemmas.Bool.{cases_lt}
use Rattle.std.proofs.lemmas.Fmt.{decimal-digits_of}
use Rattle.hh_stream.specs.Weights.{weight_of}
use Rattle.hh_counters.specs.Condensed.{free_name, other_name}
use Rattle.hh_summaries.specs.Counters.{Counters}
use Rattle.hh_counters.specs.Laws.{FreeNameIsFirst}

-- a name with a number ends by its digits
pub numbered_name : (n : ℕ) → 0 < n → n < 2 ^ 64 → codes "others" ++ decimal n ≡ other_name n
numbered_name n some fits = ap (λ ds. codes "others" ++ ds) (decimal-digits_of n some fits)

-- the first name has no number
pub plain_name : (n : ℕ) → n ≤ 0 → codes "others" ≡ other_name n
plain_name n none = let zero : 0 ≡ n = omega (arith, none) in ap other_name zero

-- the names before number n have counters
abbrev pub AreTaken : Counters → ℕ → Type 0
AreTaken c n = (j : ℕ) → j < n → 0 < weight_of (other_name j) c

-- more names than there are keys are never all taken
pub never_all : FreeNameIsFirst → (c : Counters) (n : ℕ) → length c < n → AreTaken c n → ⊥
never_all law c n many taken =
    let g = (law c).0 in
    omega (arith, taken g.number (omega (arith, g.few, many)), g.free, ap (λ y. weight_of y c) g.named)

-- the first name without a counter is the free one
pub first_is_free : FreeNameIsFirst → (c : Counters) (n : ℕ) → AreTaken c n → weight_of (other_name n) c ≡ 0
    → other_name n ≡ free_name c
first_is_free law c n taken free = elim (cases_lt (length c) n) [
  | inl many ↦ absurd (never_all law c n many taken)
  | inr few ↦ (law c).1 (other_name n) (record { number = n; named = refl; free = free; first = taken; few = few })
]

-- one more name is taken
pub one_more : (c : Counters) (n : ℕ) → AreTaken c n → 0 < weight_of (other_name n) c → AreTaken c (n + 1)
one_more c n taken here = λ j lt. by j lt
  where
    by : (j : ℕ) → j < n + 1 → 0 < weight_of (other_name j) c
    by j lt = elim (cases_lt n j) [
      | inl past ↦ absurd (omega (arith, past, lt))
      | inr upto ↦ elim (cases_lt j n) [
        | inl before ↦ taken j before
        | inr from ↦ let same : n ≡ j = omega (arith, upto, from) in
            subst (λ i. 0 < weight_of (other_name i) c) same here
      ]
    ]
