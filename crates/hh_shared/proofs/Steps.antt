-- Each step keeps the rule.
use Rattle.std.proofs.Common.{◌≡◌, ◌≢◌, ◌⊎◌, ℕ, zero, suc, ◌+◌, ◌-◌, ◌%◌, ◌^◌, ◌<◌, List, [], ◌∷◌, ◌++◌, get_or, set, refl, sym, ap, ◌∙◌, subst, arith, inl, inr, ⊎_elim, length, length-append, length-set, get_or-set_other, get_or-set_same, bit_or, sum_by}
use Rattle.std.proofs.Math.Nat.{mod-add-mod}
use Rattle.std.proofs.lemmas.List.Sums.{sum_by_push}
use mathlib.Core.Option.{some, some-ne-none}
use mathlib.Core.Logic.{dite}
use native.Mathlib.Decide.{ℕ_discrete}
use lib.ListN.{get_elem?}
use lib.Seq.{set-get_or}
use Rattle.atomic_table.specs.Table.{Me, keeps, Allows, Splits, Joins}
use Rattle.atomic_table.proofs.Lists.{at_set, at_snoc, set_again}
use Rattle.hh_shared.specs.Numbers.{times, cell_total, IsDistinctBelow, HasAllBelow, sum_at}
use Rattle.hh_shared.specs.declared.rule.Lists.{Lists}
use Rattle.hh_shared.specs.Rule.{lists, newcomer, FitsSeat, IsTallied, Claims, Adds, Looks, both_lists, spent_seat}
use Rattle.hh_shared.proofs.NumberFacts.{sum_by-replace, at-le-sum_by, two-le-sum_by, sum_by-only, times-append, times-here, times-push, times-push_other, added-append, added-push, added-push_other}

-- how often all seats claimed a number
abbrev all_claimed : ℕ → List Lists → ℕ
all_claimed j seats = sum_by (λ (seat : Lists). times j seat.claims) seats

-- what all seats added to a cell
abbrev all_added : ℕ → List Lists → ℕ
all_added cell seats = sum_by (λ (seat : Lists). cell_total cell seat.adds) seats

-- where one seat is replaced, the claims change by what that seat claimed
claimed-replace : (j : ℕ) (seats : List Lists) (id : ℕ) (before after : Lists) → get_elem? seats id ≡ some before
    → all_claimed j (set seats id after) + times j before.claims ≡ all_claimed j seats + times j after.claims
claimed-replace j seats id before after at = sum_by-replace (λ (u : Lists). times j u.claims) seats id before after at

-- and the cell's sum by what it added
added-replace : (cell : ℕ) (seats : List Lists) (id : ℕ) (before after : Lists) → get_elem? seats id ≡ some before
    → all_added cell (set seats id after) + cell_total cell before.adds
    ≡ all_added cell seats + cell_total cell after.adds
added-replace cell seats id before after at =
    sum_by-replace (λ (u : Lists). cell_total cell u.adds) seats id before after at

-- each seat has the property
abbrev Each : (Lists → Type 0) → List Lists → Type 0
Each P seats = (id : ℕ) (seat : Lists) → get_elem? seats id ≡ some seat → P seat

-- it stays so where a seat is replaced by one that has it
each-set : (P : Lists → Type 0) (seats : List Lists) (id : ℕ) (after : Lists) → P after → Each P seats
    → Each P (set seats id after)
each-set P seats id after mine others other seat at = ⊎_elim
    (λ (it : (other ≡ id) × (after ≡ seat)). subst P it.1 mine)
    (λ (it : (other ≢ id) × (get_elem? seats other ≡ some seat)). others other seat it.1)
    (at_set seats id other after seat at)

-- and where such a seat is added
each-push : (P : Lists → Type 0) (seats : List Lists) (new : Lists) → P new → Each P seats → Each P (seats ++ new ∷ [])
each-push P seats new mine others id seat at =
    ⊎_elim (λ (it : get_elem? seats id ≡ some seat). others id seat it) (λ (it : new ≡ seat). subst P it mine)
    (at_snoc seats new seat id at)

-- a seat that replaces another stands in its place
set_there : (seats : List Lists) (id : ℕ) (before after : Lists) → get_elem? seats id ≡ some before
    → get_elem? (set seats id after) id ≡ some after
set_there [] id before after at = absurd (some-ne-none before (sym at))
set_there (x ∷ xs) zero before after at = refl
set_there (x ∷ xs) (suc id) before after at = set_there xs id before after at

-- what the rule says of a seat stays so where the words of the claims that are 1 stay 1
fits_after : (n : ℕ) (ws xs : List ℕ) (seat : Lists) → ((j : ℕ) → j < n → get_or ws j 0 ≡ 1 → get_or xs j 0 ≡ 1)
    → FitsSeat n ws seat → FitsSeat n xs seat
fits_after n ws xs seat stays f = record {
  claims_below = f.claims_below;
  met_below = f.met_below;
  met_claimed = λ j h. stays j (f.met_below j h) (f.met_claimed j h);
  idle = f.idle;
}

-- a new seat keeps the rule
fits_new : (n : ℕ) (ws : List ℕ) (counts : ℕ × ℕ) → FitsSeat n ws (newcomer counts)
fits_new n ws counts = record {
  claims_below = λ j h. absurd (omega arith);
  met_below = λ j h. absurd (omega arith);
  met_claimed = λ j h. absurd (omega arith);
  idle = λ _. refl;
}

-- a seat's claims are distinct
distinct_at : (n m : ℕ) (ws : List ℕ) (seats : List Lists) (id : ℕ) (seat : Lists) → IsTallied n m ws seats
    → get_elem? seats id ≡ some seat → IsDistinctBelow n seat.claims
distinct_at n m ws seats id seat k at = record {
  once = λ j. dite (ℕ_discrete (times j seat.claims) 0) (λ e. omega arith)
      (λ ne. let low = (k.each id seat at).claims_below j (omega arith) in
      omega (arith, at-le-sum_by (λ (u : Lists). times j u.claims) seats id seat at, k.claimed j low, k.once j low));
  below = λ j h. (k.each id seat at).claims_below j h;
}

-- a free claim becomes a seat's
claim_keeps_rule : (n m : ℕ) (ws : List ℕ) (seats : List Lists) (id j : ℕ) (seat : Lists) → IsTallied n m ws seats
    → get_elem? seats id ≡ some seat → j < n → get_or ws j 0 ≡ 0
    → IsTallied n m (set ws j 1) (set seats id (lists seat.counts (seat.claims ++ j ∷ []) seat.met seat.adds))
claim_keeps_rule n m ws seats id j seat k at low free =
    let after = lists seat.counts (seat.claims ++ j ∷ []) seat.met seat.adds in
    let size = k.size in
    let f = k.each id seat at in
    let here : get_or (set ws j 1) j 0 ≡ 1 = get_or-set_same ws j 1 0 (omega arith) in
    let elsewhere : (i : ℕ) → i ≢ j → get_or (set ws j 1) i 0 ≡ get_or ws i 0 =
    λ i ne. get_or-set_other ws j i 1 0 ne in
    let stays : (i : ℕ) → i < n → get_or ws i 0 ≡ 1 → get_or (set ws j 1) i 0 ≡ 1 =
    λ i _ one. dite (ℕ_discrete i j) (λ e. rw e here) (λ ne. elsewhere i ne ∙ one) in
    let mine : get_or (set ws j 1) j 0 ≡ all_claimed j (set seats id after) =
    omega (arith, here, claimed-replace j seats id seat after at, times-push j seat.claims, k.claimed j low) in
    let others : (i : ℕ) → i < n → i ≢ j → get_or (set ws j 1) i 0 ≡ all_claimed i (set seats id after) =
    (λ i l ne.
    let sum = claimed-replace i seats id seat after at in
    omega (arith, elsewhere i ne, sum, times-push_other j i seat.claims ne, k.claimed i l)) in
    record {
      size = length-set ws j 1 ∙ k.size;
      each = each-set (FitsSeat n (set ws j 1)) seats id after
          (record {
            claims_below = λ i h. dite (ℕ_discrete i j) (λ e. omega arith)
                (λ ne. f.claims_below i (omega (arith, times-push_other j i seat.claims ne)));
            met_below = f.met_below;
            met_claimed = λ i h. stays i (f.met_below i h) (f.met_claimed i h);
            idle = λ none. absurd (omega (arith, ap length none, length-append seat.claims (j ∷ [])));
          })
          (λ i u d. fits_after n ws (set ws j 1) u stays (k.each i u d));
      claimed = λ i l. dite (ℕ_discrete i j) (λ e. rw e mine) (others i l);
      once = λ i l. dite (ℕ_discrete i j) (λ e. rw e (omega arith)) (λ ne. omega (arith, elsewhere i ne, k.once i l));
      summed = λ cell l.
          let apart = get_or-set_other ws j (n + cell) 1 0 (λ e. omega arith) in
          omega (arith, apart, added-replace cell seats id seat after at, k.summed cell l);
    }

-- a claim that was found claimed is met
meeting_keeps_rule : (n m : ℕ) (ws : List ℕ) (seats : List Lists) (id j : ℕ) (seat : Lists) → IsTallied n m ws seats
    → get_elem? seats id ≡ some seat → j < n → get_or ws j 0 ≡ 1
    → IsTallied n m (set ws j 1) (set seats id (lists seat.counts seat.claims (seat.met ++ j ∷ []) seat.adds))
meeting_keeps_rule n m ws seats id j seat k at low taken =
    let after = lists seat.counts seat.claims (seat.met ++ j ∷ []) seat.adds in
    let f = k.each id seat at in
    let same_words : set ws j 1 ≡ ws = ap (λ x. set ws j x) (sym taken) ∙ set-get_or ws j 0 in
    let kept : IsTallied n m ws (set seats id after) = record {
      size = k.size;
      each = each-set (FitsSeat n ws) seats id after
          (record {
            claims_below = f.claims_below;
            met_below = λ i h. dite (ℕ_discrete i j) (λ e. omega arith)
                (λ ne. f.met_below i (omega (arith, times-push_other j i seat.met ne)));
            met_claimed = λ i h. dite (ℕ_discrete i j) (λ e. rw e taken)
                (λ ne. f.met_claimed i (omega (arith, times-push_other j i seat.met ne)));
            idle = f.idle;
          })
          k.each;
      claimed = λ i l. omega (arith, claimed-replace i seats id seat after at, k.claimed i l);
      once = k.once;
      summed = λ cell l. omega (arith, added-replace cell seats id seat after at, k.summed cell l);
    } in
    rw same_words kept

-- an amount is added to a cell
addition_keeps_rule : (n m : ℕ) (ws : List ℕ) (seats : List Lists) (id cell amount : ℕ) (seat : Lists)
    → IsTallied n m ws seats
    → get_elem? seats id ≡ some seat → seat.claims ≢ [] → cell < m
    → IsTallied n m (set ws (n + cell) ((get_or ws (n + cell) 0 + amount) % 2 ^ 64))
    (set seats id (lists seat.counts seat.claims seat.met (seat.adds ++ (cell, amount) ∷ [])))
addition_keeps_rule n m ws seats id cell amount seat k at some_claim inside =
    let after = lists seat.counts seat.claims seat.met (seat.adds ++ (cell, amount) ∷ []) in
    let sum : ℕ = (get_or ws (n + cell) 0 + amount) % 2 ^ 64 in
    let size = k.size in
    let f = k.each id seat at in
    let apart : (i : ℕ) → i < n → get_or (set ws (n + cell) sum) i 0 ≡ get_or ws i 0 =
    λ i l. get_or-set_other ws (n + cell) i sum 0 (λ e. omega arith) in
    let stays : (i : ℕ) → i < n → get_or ws i 0 ≡ 1 → get_or (set ws (n + cell) sum) i 0 ≡ 1 = λ i l one. apart i l
    ∙ one in
    let mine : get_or (set ws (n + cell) sum) (n + cell) 0 ≡ all_added cell (set seats id after) % 2 ^ 64 =
    (let grown : all_added cell (set seats id after) ≡ all_added cell seats + amount =
    omega (arith, added-replace cell seats id seat after at, added-push cell amount seat.adds) in
    get_or-set_same ws (n + cell) sum 0 (omega arith) ∙ (ap (λ x. (x + amount) % 2 ^ 64) (k.summed cell inside)
    ∙ (mod-add-mod _ _ _ ∙ ap (λ x. x % 2 ^ 64) (sym grown)))) in
    let others : (i : ℕ) → i < m → i ≢ cell
    → get_or (set ws (n + cell) sum) (n + i) 0 ≡ all_added i (set seats id after) % 2 ^ 64 =
    (λ i l ne.
    let word = get_or-set_other ws (n + cell) (n + i) sum 0 (λ e. ne (omega arith)) in
    let same = added-push_other cell amount i seat.adds ne in
    omega (arith, word, same, added-replace i seats id seat after at, k.summed i l)) in
    record {
      size = length-set ws (n + cell) sum ∙ k.size;
      each = each-set (FitsSeat n (set ws (n + cell) sum)) seats id after
          (fits_after n ws (set ws (n + cell) sum) after stays (record {
            claims_below = f.claims_below;
            met_below =
                f.met_below;
            met_claimed = f.met_claimed;
            idle = λ none. absurd (some_claim none);
          }))
          (λ i u d. fits_after n ws (set ws (n + cell) sum) u stays (k.each i u d));
      claimed = λ i l. omega (arith, apart i l, claimed-replace i seats id seat after at, k.claimed i l);
      once = λ i l. omega (arith, apart i l, k.once i l);
      summed = λ i l. dite (ℕ_discrete i cell) (λ e. rw e mine) (others i l);
    }

-- a new seat comes, with empty lists
split_keeps_rule : (n m : ℕ) (ws : List ℕ) (seats : List Lists) (counts : ℕ × ℕ) → IsTallied n m ws seats
    → IsTallied n m ws (seats ++ newcomer counts ∷ [])
split_keeps_rule n m ws seats counts k = record {
  size = k.size;
  each = each-push (FitsSeat n ws) seats (newcomer counts) (fits_new n ws counts) k.each;
  claimed = λ j l. omega (arith, sum_by_push (λ (u : Lists). times j u.claims) seats (newcomer counts), k.claimed j l);
  once = k.once;
  summed = λ cell l.
      omega (arith, sum_by_push (λ (u : Lists). cell_total cell u.adds) seats (newcomer counts), k.summed cell l);
}

-- where empty lists come with empty lists, so do they joined
empty-both : {A B : Type 0} (xs ys : List A) (zs ws : List B) → (xs ≡ [] → zs ≡ []) → (ys ≡ [] → ws ≡ [])
    → xs ++ ys ≡ [] → zs ++ ws ≡ []
empty-both [] ys zs ws f g e = let p = f refl in let q = g e in cc
empty-both (x ∷ xs) ys zs ws f g e = cc

-- the lists of two seats move to the first
join_keeps_rule : (n m : ℕ) (ws : List ℕ) (seats : List Lists) (id other : ℕ) (one two : Lists) → IsTallied n m ws seats
    → get_elem? seats id ≡ some one → (other ≡ id → ⊥) → get_elem? (set seats id (both_lists one two)) other ≡ some two
    → IsTallied n m ws (set (set seats id (both_lists one two)) other spent_seat)
join_keeps_rule n m ws seats id other one two k at apart there =
    let both = both_lists one two in
    let half = set seats id both in
    let was : get_elem? seats other ≡ some two =
    ⊎_elim (λ (t : (other ≡ id) × (both ≡ two)). absurd (apart t.0))
    (λ (t : (other ≢ id) × (get_elem? seats other ≡ some two)). t.1) (at_set seats id other both two there) in
    let f = k.each id one at in
    let g = k.each other two was in
    record {
      size = k.size;
      each = each-set (FitsSeat n ws) half other spent_seat (fits_new n ws (0, 0))
          (each-set (FitsSeat n ws) seats id both (record {
            claims_below = λ i h. let sum = times-append i one.claims two.claims in
                dite (ℕ_discrete (times i one.claims) 0) (λ z. g.claims_below i (omega arith))
                (λ z. f.claims_below i (omega arith));
            met_below = λ i h. let sum = times-append i one.met two.met in
                dite (ℕ_discrete (times i one.met) 0) (λ z. g.met_below i (omega arith))
                (λ z. f.met_below i (omega arith));
            met_claimed = λ i h. let sum = times-append i one.met two.met in
                dite (ℕ_discrete (times i one.met) 0) (λ z. g.met_claimed i (omega arith))
                (λ z. f.met_claimed i (omega arith));
            idle = empty-both one.claims two.claims one.adds two.adds f.idle g.idle;
          })
          k.each);
      claimed = λ i l.
          let first = claimed-replace i seats id one both at in
          let second = claimed-replace i half other two spent_seat there in
          omega (arith, first, second, times-append i one.claims two.claims, k.claimed i l);
      once = k.once;
      summed = λ cell l.
          let first = added-replace cell seats id one both at in
          let second = added-replace cell half other two spent_seat there in
          omega (arith, first, second, added-append cell one.adds two.adds, k.summed cell l);
    }

-- a list is empty or has a number
none-or-some : (xs : List ℕ) → (xs ≡ []) ⊎ ((j : ℕ) × (0 < times j xs))
none-or-some [] = inl refl
none-or-some (x ∷ xs) = inr (x, omega (arith, times-here x xs))

-- all that was added was added through the seat that holds all claims
pub closes : (n m : ℕ) (ws : List ℕ) (seats : List Lists) (id : ℕ) (seat : Lists) → IsTallied n m ws seats
    → get_elem? seats id ≡ some seat → HasAllBelow n seat.claims → (cell : ℕ) → cell < m
    → get_or ws (n + cell) 0 ≡ sum_at seat.adds cell
closes n m ws seats id seat k at all cell inside =
    let nothing : (other : ℕ) (u : Lists) → other ≢ id → get_elem? seats other ≡ some u → cell_total cell u.adds ≡ 0 =
    (λ other u apart there. let f = k.each other u there in
    ⊎_elim
    (λ (none : u.claims ≡ []). ap (cell_total cell) (f.idle none))
    (λ (its : (j : ℕ) × (0 < times j u.claims)).
    let low = f.claims_below its.0 its.1 in
    let two = two-le-sum_by (λ (y : Lists). times its.0 y.claims) seats id other seat u apart at there in
    absurd (omega (arith, all.has its.0 low, k.claimed its.0 low, k.once its.0 low, two)))
    (none-or-some u.claims)) in
    k.summed cell inside ∙ ap (λ x. x % 2 ^ 64)
    (sum_by-only (λ (u : Lists). cell_total cell u.adds) seats id seat at nothing)

-- The steps, as `atomic_table` asks for them
pub claim_step : (counts : ℕ × ℕ) (slots id : ℕ) (me : Me ℕ Lists) (j : ℕ) → me.0.counts ≡ counts → j < counts.0
    → Allows (λ s. IsTallied counts.0 counts.1 s.words s.views) slots id me j (λ n. bit_or n 1)
    (λ n after. Claims me.0 j n after.0 × (after.1 ≡ me.1))
claim_step counts slots id me j same low s k homes at fits =
    let n = counts.0 in
    let m = counts.1 in
    let seat = me.0 in
    let word = get_or s.words j 0 in
    let distinct : (after : Lists) (ws : List ℕ) (seats : List Lists) → after.counts ≡ seat.counts
    → IsTallied n m ws seats → get_elem? seats id ≡ some after → IsDistinctBelow after.counts.0 after.claims =
    (λ after ws seats e kept there. rw (e ∙ same) (distinct_at n m ws seats id after kept there)) in
    dite (ℕ_discrete word 0) (λ free.
    let after = lists seat.counts (seat.claims ++ j ∷ []) seat.met seat.adds in
    let kept = claim_keeps_rule n m s.words s.views id j seat k at low free in (
      after,
      keeps,
      tt,
      subst (λ x. IsTallied n m (set s.words j x) (set s.views id after)) (sym (ap (λ x. bit_or x 1) free)) kept,
      (
        record {
          free = λ _. refl;
          taken = λ ne. absurd (ne free);
          distinct =
              distinct after _ _ refl kept (set_there s.views id seat after at);
        },
        refl,
      ),
    ))
    (λ ne.
    let one : word ≡ 1 = omega (arith, k.once j low) in
    let after = lists seat.counts seat.claims (seat.met ++ j ∷ []) seat.adds in
    let kept = meeting_keeps_rule n m s.words s.views id j seat k at low one in (
      after,
      keeps,
      tt,
      subst (λ x. IsTallied n m (set s.words j x) (set s.views id after)) (sym (ap (λ x. bit_or x 1) one)) kept,
      (
        record {
          free = λ e. absurd (ne e);
          taken = λ _. refl;
          distinct =
              distinct after _ _ refl kept (set_there s.views id seat after at);
        },
        refl,
      ),
    ))

-- the same of a step on a cell's word
pub add_step : (counts : ℕ × ℕ) (slots id : ℕ) (me : Me ℕ Lists) (first cell amount : ℕ) → first ≡ counts.0
    → me.0.counts ≡ counts → me.0.claims ≢ [] → cell < counts.1
    → Allows (λ s. IsTallied counts.0 counts.1 s.words s.views) slots id me (first + cell) (λ n. (n + amount) % 2 ^ 64)
    (λ n after. Adds me.0 (first + cell) amount after.0 × (after.1 ≡ me.1))
add_step counts slots id me first cell amount e same some_claim inside s k homes at fits =
    let seat = me.0 in
    let after = lists seat.counts seat.claims seat.met (seat.adds ++ (cell, amount) ∷ []) in
    let here : cell ≡ (first + cell) - seat.counts.0 = (let counts_are = ap (λ (c : ℕ × ℕ). c.0) same in omega arith) in
    let kept = subst (λ x. IsTallied counts.0 counts.1
    (set s.words (x + cell) ((get_or s.words (x + cell) 0 + amount) % 2 ^ 64)) (set s.views id after)) (sym e)
    (addition_keeps_rule counts.0 counts.1 s.words s.views id cell amount seat k at some_claim inside) in
    let is = ap (λ x. lists seat.counts seat.claims seat.met (seat.adds ++ (x, amount) ∷ [])) here in
    (after, keeps, tt, kept, (is, refl))

-- of a load
pub look_step : (counts : ℕ × ℕ) (slots id : ℕ) (me : Me ℕ Lists) → me.0.counts ≡ counts
    → Allows (λ s. IsTallied counts.0 counts.1 s.words s.views) slots id me 0 (λ n. n) (λ n after. Looks me.0 after.0
    × (after.1 ≡ me.1))
look_step counts slots id me same s k homes at fits =
    let n = counts.0 in
    let m = counts.1 in
    let same_words = subst (λ ws. IsTallied n m ws s.views) (sym (set-get_or s.words 0 0)) k in
    let kept = subst (λ seats. IsTallied n m (set s.words 0 (get_or s.words 0 0)) seats)
    (sym (set_again s.views id me.0 at)) same_words in
    let distinct = subst (λ (c : ℕ × ℕ). IsDistinctBelow c.0 me.0.claims) (sym same)
    (distinct_at n m _ _ id me.0 k at) in
    (me.0, keeps, tt, kept, ((refl, distinct), refl))

-- of a new seat
pub split_step : (counts : ℕ × ℕ) (id : ℕ) (seat : Lists)
    → Splits {S = ℕ} (λ s. IsTallied counts.0 counts.1 s.words s.views) id seat seat (newcomer seat.counts)
split_step counts id seat s k at =
    split_keeps_rule counts.0 counts.1 s.words (set s.views id seat) seat.counts
    (rw (set_again s.views id seat at) k)

-- of a seat that takes in another's lists
pub join_step : (counts : ℕ × ℕ) (id : ℕ) (one : Lists) (other : ℕ) (two : Lists)
    → Joins {S = ℕ} (λ s. IsTallied counts.0 counts.1 s.words s.views) id one other two (both_lists one two) spent_seat
join_step counts id one other two s k at apart there =
    join_keeps_rule counts.0 counts.1 s.words s.views id other one two k at apart there
