-- Fewer entries that say of the keys with counters what many items say.
use Rattle.std.specs.Prelude.{◌≡◌, ℕ, zero, suc, ◌+◌, ◌<◌, ◌≤◌, Bool, cond, not, nat_lt, List, [], ◌∷◌, ◌++◌, length, map, filter, codes}
use Rattle.std.specs.Int.Digits.{digits_of}
use Rattle.hh_stream.specs.Weights.{Bytes, Entry, weight_of, total_of}
use Rattle.hh_summaries.specs.Counters.{Counters, tally}
use Rattle.hh_summaries.specs.Report.{has_counter}

-- name number i: `others` and the digits of i, where 0 has none
abbrev pub other_name : ℕ → Bytes
other_name i = codes "others" ++ map (λ d. 48 + d) (digits_of 10 i)

-- the first name from number n on that has no counter in c, after m tries at most
abbrev pub free_from : Counters → ℕ → ℕ → Bytes
free_from c n zero = other_name n
free_from c n (suc m) =
    cond (nat_lt 0 (weight_of (other_name n) c)) (free_from c (n + 1) m) (other_name n)

-- the first name that has no counter in c
unfoldable pub free_name : Counters → Bytes
free_name c = free_from c 0 (length c)

-- y is the first of the names that has no counter in c, and no more come before it than c has keys
pub record IsFirstFree (c : Counters) (y : Bytes) : Type 0 where
  pub number : ℕ
  pub named : y ≡ other_name number
  pub free : weight_of y c ≡ 0
  pub first : (j : ℕ) → j < number → 0 < weight_of (other_name j) c
  pub few : number ≤ length c

abbrev pub lacks_counter : Counters → Entry → Bool
lacks_counter c e = not (has_counter c e)

-- what the items weigh whose keys have no counter
abbrev pub other_weight : Counters → List Entry → ℕ
other_weight c xs = total_of (filter (lacks_counter c) xs)

-- one entry, or none for no weight
abbrev pub entry_of : Bytes → ℕ → List Entry
entry_of y n = cond (nat_lt 0 n) ((y, n) ∷ []) []

-- the exact weight of each key of c that comes in xs, by rising key, and then, under a name that is
-- no key of c, what all others weigh
unfoldable pub condensed : Counters → List Entry → List Entry
condensed c xs =
    tally (filter (has_counter c) xs) ++ entry_of (free_name c) (other_weight c xs)
