-- What a worker has tried and claimed.
use Rattle.std.proofs.Common.{◌≡◌, ℕ, ◌+◌, ◌<◌, ◌≤◌, List, [], ◌∷◌, ◌++◌, length, ⊎_elim, sym, ap, ◌∙◌, arith, All}
use Rattle.std.proofs.lemmas.List.{get_or_append_left, get_or_push, length-append}
use Rattle.std.proofs.lemmas.List.Elements.{All-push}
use Rattle.std.specs.List.Sorted.{IsStrictlyIncreasing}
use Rattle.std.proofs.lemmas.Bool.{cases_lt}
use mathlib.Core.Logic.{dite}
use native.Mathlib.Decide.{ℕ_discrete}
use Rattle.hh_shared.proofs.NumberFacts.{times-append, times-push, times-push_other}
use Rattle.hh_shared.specs.Numbers.{times, IsDistinctBelow}
use Rattle.hh_shared.specs.Seats.{Holding, seat_of_both}
use Rattle.hh_workers.specs.Workers.{HasEach, HasTried}
use Rattle.hh_workers.specs.Workers.{HasTriedUpTo}

-- a number that is claimed or met has been tried
tried-claim : (n : ℕ) (seat : Holding) → HasTried n seat
    → HasTried (n + 1) (record seat { claims = seat.claims ++ n ∷ [] })
tried-claim n seat tried i low = dite (ℕ_discrete i n)
    (λ e. rw e (omega (arith, times-push n seat.claims)))
    (λ ne. omega (arith, tried i (omega arith), times-append i seat.claims (n ∷ [])))

tried-met : (n : ℕ) (seat : Holding) → HasTried n seat → HasTried (n + 1) (record seat { met = seat.met ++ n ∷ [] })
tried-met n seat tried i low = dite (ℕ_discrete i n)
    (λ e. rw e (omega (arith, times-push n seat.met)))
    (λ ne. omega (arith, tried i (omega arith), times-append i seat.met (n ∷ [])))

-- the joined seat has tried what one of both has
pub tried-joined : (n : ℕ) (one other : Holding) → HasTried n one → HasTried n (seat_of_both one other)
tried-joined n one other tried i low =
    omega (arith, tried i low, times-append i one.claims other.claims, times-append i one.met other.met)

-- a number does not stand among those below it
none_of-next : (n : ℕ) (numbers : List ℕ) → IsDistinctBelow n numbers → times n numbers ≡ 0
none_of-next n numbers p = ⊎_elim
    (λ (some : 0 < times n numbers). absurd (omega (arith, p.below n some)))
    (λ (none : times n numbers ≤ 0). omega arith)
    (cases_lt 0 (times n numbers))

-- one more after each number below it
pub each_more : (n : ℕ) (numbers : List ℕ) → HasEach n numbers → HasEach (n + 1) (numbers ++ n ∷ [])
each_more n numbers p = record {
  distinct = record {
    once = λ j. dite (ℕ_discrete j n)
        (λ e. rw e (omega (arith, times-push n numbers, none_of-next n numbers p.distinct)))
        (λ ne. omega (arith, times-push_other n j numbers ne, p.distinct.once j));
    below = λ j some. dite (ℕ_discrete j n)
        (λ e. omega arith)
        (λ ne. omega (arith, p.distinct.below j (omega (arith, some, times-push_other n j numbers ne))));
  };
  all = record {
    has = λ j low. dite (ℕ_discrete j n)
        (λ e. rw e (omega (arith, times-push n numbers)))
        (λ ne. omega (arith, times-push_other n j numbers ne, p.all.has j (omega (arith, low))));
  };
}

-- what is distinct below a number is so below a greater one
pub distinct_below : (n most : ℕ) (numbers : List ℕ) → n ≤ most → IsDistinctBelow n numbers → IsDistinctBelow most numbers
distinct_below n most numbers low p = record { once = p.once; below = λ j some. omega (arith, low, p.below j some) }

-- numbers that rise, and one above them
rising-push : (xs : List ℕ) (n : ℕ) → IsStrictlyIncreasing xs → All (λ i. i < n) xs
    → IsStrictlyIncreasing (xs ++ n ∷ [])
rising-push xs n rises low k within = ⊎_elim
    (λ (l : k + 1 < length xs). omega
    (arith, rises k l, get_or_append_left xs (n ∷ []) 0 k (omega arith), get_or_append_left xs (n ∷ []) 0 (k + 1) l))
    (λ (h : length xs ≤ k + 1).
    let last : k + 1 ≡ length xs = omega (arith, within, length-append xs (n ∷ [])) in
    let there = get_or_append_left xs (n ∷ []) 0 k (omega arith) in
    omega (arith, low k 0 (omega arith), there, get_or_push xs n 0 (k + 1) (sym last)))
    (cases_lt (k + 1) (length xs))

-- what a worker has tried, with one piece more that it met, and with one more that it claimed
pub one_more_met : (count n : ℕ) (seat after : Holding) → after ≡ record seat { met = seat.met ++ n ∷ [] }
    → HasTriedUpTo count n seat → HasTriedUpTo count (n + 1) after
one_more_met count n seat after e p = rw e (record {
  tried = tried-met n seat p.tried;
  distinct = p.distinct;
  rising = p.rising;
  low = λ k d within. omega (arith, p.low k d within);
  none_added = p.none_added;
})

pub one_more_claimed : (count n : ℕ) (seat after : Holding) → after ≡ record seat { claims = seat.claims ++ n ∷ [] }
    → IsDistinctBelow count after.claims → HasTriedUpTo count n seat → HasTriedUpTo count (n + 1) after
one_more_claimed count n seat after e distinct p =
    let claims = ap (λ h. h.claims) e in
    record {
      tried = rw e (tried-claim n seat p.tried);
      distinct = distinct;
      rising = rw claims (rising-push seat.claims n p.rising p.low);
      low = rw claims
          (All-push (λ (i : ℕ). i < n + 1) seat.claims n (λ k d within. omega (arith, p.low k d within)) (omega arith));
      none_added = ap (λ h. h.adds) e ∙ p.none_added;
    }
