-- The contenders of a tally make the report, and its greatest counters a summary.
use Rattle.std.proofs.Common.{◌≡◌, ℕ, ◌+◌, ◌-◌, ◌*◌, ◌/◌, ◌^◌, ◌<◌, ◌≤◌, ⊎_elim, Bool, true, List, [], ◌∷◌, length, cond, refl, sym, ap, ◌∙◌, subst, mul-add, mul_assoc, mul_comm, mul-le-mul_left, mul-le-mul_right, arith, filter, nat_lt, zip, Contains}
use Rattle.std.specs.List.{AllByRecursion}
use Rattle.std.specs.List.Sorted.{IsStrictlySortedBy}
use Rattle.std.specs.Map.{keys_of}
use Rattle.std.proofs.Math.Nat.{div-lt_iff_lt-mul}
use Rattle.std.proofs.lemmas.Bool.{cases_lt, cond_both}
use Rattle.std.proofs.lemmas.Bool.Decides.{nat_tests}
use Rattle.hh_stream.specs.Weights.{Entry, key_cmp, weight_of, total_of}
use Rattle.hh_summaries.specs.Counters.{Fits, IsCounters, IsHonest, cut, exceeds, level, max_k, tally}
use Rattle.hh_summaries.specs.Report.{has_counter, heavy, rows_above, weights_at}
use Rattle.hh_summaries.proofs.Weights.{positive_in, number_from_in, in_from_number, rising-tally, weight_of-tally, total_of-tally, total_of-cons, counters-tally}
use Rattle.hh_summaries.proofs.Level.{is_level, length-lower, weight_of-lower, total_of-lower-le, counters-lower}
use Rattle.hh_summaries.proofs.Summaries.{total_of-cut}
use Rattle.hh_summaries.proofs.Reports.{in_heavy, filter_in, filter_all, rising-filter, counters-filter, report_with_counters}
use Rattle.hh_tally.specs.Tallies.{TallyView, AreBounds, IsLoss, IsTally, can_exceed, contenders_of}
use Rattle.hh_tally.specs.declared.room.Room.{Room}

-- ---- the contenders
-- two tests that agree on all of some entries leave the same
filter_alike : (p q : Entry → Bool) (es : List Entry) → AllByRecursion (λ (e : Entry). p e ≡ q e) es
    → filter p es ≡ filter q es
filter_alike p q [] h = refl
filter_alike p q (e ∷ es) h =
    λ i. cond (h.0 i) (e ∷ filter_alike p q es h.1 i) (filter_alike p q es h.1 i)

-- too little is lost for a key without a counter to be above the share
pays : (p q h lost n w : ℕ) → q ≤ p * h → h * lost ≤ n → w ≤ lost → p * n < q * w → ⊥
pays p q h lost n w le paid less above =
    let a : q * w ≤ q * lost = mul-le-mul_left q less in
    let b : q * lost ≤ p * h * lost = mul-le-mul_right lost le in
    let c : p * h * lost ≡ p * (h * lost) = mul_assoc p h lost in
    let d : p * (h * lost) ≤ p * n = mul-le-mul_left p paid in
    omega (arith, a, b, c, d, above)

module _ (t : TallyView) (p q : ℕ) (loss : IsLoss t.room.few t.total t.lost t.counters)
    (positive : AllByRecursion (λ (e : Entry). 0 < e.1) t.counters) (le : q ≤ p * (t.room.few / 2)) where
  pub contenders_are_counters : IsCounters (contenders_of p q t)
  contenders_are_counters = counters-filter (can_exceed p q t) (tally t.counters) (counters-tally t.counters positive)

  module _ (xs : List Entry) (h : AreBounds t xs) where
    -- each heavy key is among them
    contends : (e : Entry) → Contains (heavy xs p q) e → has_counter (contenders_of p q t) e ≡ true
    contends e i =
        let x = e.0 in
        let w = weight_of x xs in
        let c = weight_of x t.counters in
        let rises = rising-tally t.counters in
        let is = in_heavy xs p q x e.1 i in
        let above : p * t.total < q * w = omega (arith, is.1, ap (λ n. p * n) h.counted, ap (λ n. q * n) is.0) in
        let some : 0 < c = ⊎_elim (λ (z : c < 1). absurd (pays p q (t.room.few / 2) t.lost t.total w le (omega (arith, loss))
        (omega (arith, h.near x, z)) above)) (λ (z : 1 ≤ c). z) (cases_lt c 1) in
        let reach : q * w ≤ q * (c + t.lost) = mul-le-mul_left q (h.near x) in
        let enough : p * t.total < q * (c + t.lost) = omega (arith, above, reach) in
        let same = weight_of-tally x t.counters in
        let entry = subst (λ n. Contains (tally t.counters) (x, n)) same
        (in_from_number x (tally t.counters) rises (omega (arith, same, some))) in
        let there = filter_in (can_exceed p q t) (x, c) (tally t.counters) entry (grind (arith, nat_tests, enough)) in
        let number : weight_of x (contenders_of p q t) ≡ c = number_from_in (x, c) (contenders_of p q t)
        (rising-filter (can_exceed p q t) (tally t.counters) rises) there in
        grind (arith, nat_tests, number, some)

    -- so their weights make the report
    pub contenders_report : rows_above p q (total_of xs) (zip (keys_of (contenders_of p q t)) (weights_at (keys_of (contenders_of p q t)) xs))
        ≡ heavy xs p q
    contenders_report = report_with_counters (contenders_of p q t) xs p q contenders_are_counters
        ∙ filter_all (has_counter (contenders_of p q t)) (heavy xs p q) contends

-- ---- how many there are
-- half of a few times what a contender has, with what it may lack, is more than the total
reaches : (p q h n m : ℕ) → q ≤ p * h → p * n < q * m → n < h * m
reaches p q h n m le above = ⊎_elim (λ (z : n < h * m). z)
    (λ (z : h * m ≤ n).
    let a : q * m ≤ p * h * m = mul-le-mul_right m le in
    let b : p * h * m ≡ p * (h * m) = mul_assoc p h m in
    let c : p * (h * m) ≤ p * n = mul-le-mul_left p z in
    absurd (omega (arith, a, b, c, above)))
    (cases_lt n (h * m))

module _ (t : TallyView) (p q : ℕ) (le : q ≤ p * (t.room.few / 2)) where
  -- of all of them together
  all_reach : (es : List Entry) → let f = filter (can_exceed p q t) es in
      length f * (t.total + 1) ≤ (t.room.few / 2) * (total_of f + length f * t.lost)
  all_reach [] = omega arith
  all_reach (e ∷ es) =
      let f : List Entry = filter (can_exceed p q t) es in
      let h = t.room.few / 2 in
      cond_both (can_exceed p q t e) (e ∷ f) f
      (λ g. length g * (t.total + 1) ≤ h * (total_of g + length g * t.lost))
      (λ passes.
      let over : p * t.total < q * (e.1 + t.lost) = grind (arith, nat_tests, passes) in
      let one : t.total < h * (e.1 + t.lost) = reaches p q h t.total (e.1 + t.lost) le over in
      let split : h * (total_of (e ∷ f) + length (e ∷ f) * t.lost)
      ≡ h * (e.1 + t.lost) + h * (total_of f + length f * t.lost) =
      ap (λ n. h * n) (sums e f) ∙ mul-add h (e.1 + t.lost) (total_of f + length f * t.lost) in
      let left : length (e ∷ f) * (t.total + 1) ≡ (t.total + 1) + length f * (t.total + 1) = omega arith in
      omega (arith, split, left, one, all_reach es))
      (λ _. all_reach es)
    where
      sums : (e : Entry) (f : List Entry)
          → total_of (e ∷ f) + length (e ∷ f) * t.lost ≡ (e.1 + t.lost) + (total_of f + length f * t.lost)
      sums e f = omega (arith, total_of-cons e f)

  -- their counters are among all
  sum_passing : (es : List Entry) → total_of (filter (can_exceed p q t) es) ≤ total_of es
  sum_passing [] = omega arith
  sum_passing (e ∷ es) = cond_both (can_exceed p q t e) _ _ (λ g. total_of g ≤ total_of (e ∷ es))
      (λ _. omega (arith, total_of-cons e es, total_of-cons e (filter (can_exceed p q t) es), sum_passing es))
      (λ _. omega (arith, total_of-cons e es, sum_passing es))

-- numbers that are too many have no sum
too_many : (m h n s l f : ℕ) → 1 ≤ h → m * (n + 1) ≤ h * (f + m * l) → f ≤ s → h * l + s ≤ n → m < h
too_many m h n s l f some reach within paid = ⊎_elim (λ (z : m < h). z)
    (λ (z : h ≤ m).
    let a : h * (f + m * l) ≡ h * f + h * (m * l) = mul-add h f (m * l) in
    let b : h * (m * l) ≡ m * (h * l) = sym (mul_assoc h m l) ∙ ap (λ k. k * l) (mul_comm h m) ∙ mul_assoc m h l in
    let c : h * f ≤ h * s = mul-le-mul_left h within in
    let d : h * s ≤ m * s = mul-le-mul_right s z in
    let e : m * (h * l + s) ≤ m * n = mul-le-mul_left m paid in
    let g : m * (h * l + s) ≡ m * (h * l) + m * s = mul-add m (h * l) s in
    let i : m * (n + 1) ≡ m * n + m = omega arith in
    absurd (omega (arith, a, b, c, d, e, g, i, reach, some, z)))
    (cases_lt m h)

-- fewer than half of a few contend
pub few_contend : (t : TallyView) (p q : ℕ) → 2 ≤ t.room.few → IsLoss t.room.few t.total t.lost t.counters
    → q ≤ p * (t.room.few / 2) → length (contenders_of p q t) < t.room.few / 2
few_contend t p q some loss le =
    let all = tally t.counters in
    too_many (length (contenders_of p q t)) (t.room.few / 2) t.total (total_of all) t.lost (total_of (contenders_of p q t))
    (omega arith) (all_reach t p q le all) (sum_passing t p q le all)
    (omega (arith, loss, total_of-tally t.counters))

-- ---- the entries that the code finds
-- a positive counter that exceeds the least that can reach the share can exceed it
pub above_contend : (t : TallyView) (p q n : ℕ) → AllByRecursion (λ (e : Entry). 0 < e.1) t.counters
    → ((m : ℕ) → 0 < m → nat_lt n m ≡ nat_lt (p * t.total) (q * (m + t.lost)))
    → filter (exceeds n) (tally t.counters) ≡ contenders_of p q t
above_contend t p q n positive agrees =
    filter_alike (exceeds n) (can_exceed p q t) (tally t.counters)
    (weaker (tally t.counters) (counters-tally t.counters positive).positive)
  where
    weaker : (es : List Entry) → AllByRecursion (λ (e : Entry). 0 < e.1) es
        → AllByRecursion (λ (e : Entry). exceeds n e ≡ can_exceed p q t e) es
    weaker [] h = tt
    weaker (e ∷ es) h = (agrees e.1 h.0, weaker es h.1)

-- what they are, in the words of a contract
pub record AreContenders (t : TallyView) (p q : ℕ) (es : List Entry) : Type 0 where
  pub are : es ≡ contenders_of p q t
  pub rising : IsStrictlySortedBy key_cmp (keys_of es)
  pub few : length es < t.room.few / 2
  pub report : (xs : List Entry) → AreBounds t xs
      → rows_above p q (total_of xs) (zip (keys_of es) (weights_at (keys_of es) xs)) ≡ heavy xs p q

pub found_contenders : (t : TallyView) (p q n : ℕ) (es : List Entry) → 2 ≤ t.room.few
    → IsLoss t.room.few t.total t.lost t.counters → AllByRecursion (λ (e : Entry). 0 < e.1) t.counters
    → q ≤ p * (t.room.few / 2)
    → ((m : ℕ) → 0 < m → nat_lt n m ≡ nat_lt (p * t.total) (q * (m + t.lost)))
    → es ≡ filter (exceeds n) (tally t.counters) → AreContenders t p q es
found_contenders t p q n es some loss positive le agrees is =
    let are : es ≡ contenders_of p q t = is ∙ above_contend t p q n positive agrees in
    subst (AreContenders t p q) (sym are) (record {
      are = refl;
      rising = (contenders_are_counters t p q loss positive le).rising;
      few = few_contend t p q some loss le;
      report = contenders_report t p q loss positive le;
    })

-- the same of what a tally with these parts finds
pub tally_contends : {room : Room} {total lost bytes : ℕ} {all : List Entry} {sure : List Bool} (t : TallyView) (p q n : ℕ) (es : List Entry)
    → IsTally room total lost bytes all → record { room = room; total = total; lost = lost; counters = all; sure = sure } ≡ t
    → q ≤ p * (t.room.few / 2)
    → ((m : ℕ) → 0 < m → nat_lt n m ≡ nat_lt (p * total) (q * (m + lost)))
    → es ≡ filter (exceeds n) (tally all) → AreContenders t p q es
tally_contends t p q n es parts is le agrees are =
    subst (λ (v : TallyView). q ≤ p * (v.room.few / 2) → AreContenders v p q es) is
    (λ few. found_contenders _ p q n es parts.room_is.some parts.loss parts.positive few agrees are) le

-- the least counter that reaches the share: n is above it exactly where it and l are more than a / q
pub reach_test : (a q l n : ℕ) → 0 < q → 0 < n → nat_lt (a / q - l) n ≡ nat_lt a (q * (n + l))
reach_test a q l n some positive =
    let turned : (n + l) * q ≡ q * (n + l) = mul_comm (n + l) q in
    ⊎_elim
    (λ (z : a / q < n + l).
    let less : a < (n + l) * q = (div-lt_iff_lt-mul some).0 z in
    let left : a / q - l < n = omega (arith, z, positive) in
    let right : a < q * (n + l) = omega (arith, less, turned) in
    grind (arith, nat_tests, left, right))
    (λ (z : n + l ≤ a / q).
    let left : n ≤ a / q - l = omega (arith, z) in
    let right : q * (n + l) ≤ a = ⊎_elim
    (λ (y : a < (n + l) * q). absurd (omega (arith, z, (div-lt_iff_lt-mul some).1 y)))
    (λ (y : (n + l) * q ≤ a). omega (arith, y, turned))
    (cases_lt a ((n + l) * q)) in
    grind (arith, nat_tests, left, right))
    (cases_lt (a / q) (n + l))

-- ---- the greatest counters
-- positive counters are all above 0
pub all_above : (es : List Entry) → AllByRecursion (λ (e : Entry). 0 < e.1) es
    → filter (exceeds 0) (tally es) ≡ tally es
all_above es some = filter_all (exceeds 0) (tally es) (λ e i.
    let above = positive_in (tally es) e (counters-tally es some) i in grind (arith, nat_tests, above))

-- what is left of them where they are cut
pub cut_above : (es found left : List Entry) (k : ℕ) → AllByRecursion (λ (e : Entry). 0 < e.1) es
    → found ≡ filter (exceeds 0) (tally es) → left ≡ cut found k → left ≡ cut (tally es) k
cut_above es found left k some are is = is ∙ ap (λ c. cut c k) (are ∙ all_above es some)

-- it makes a summary
pub pruned_fits : (es : List Entry) (k total : ℕ) → 1 ≤ k → k ≤ max_k → total < 2 ^ 63 → total_of es ≤ total
    → Fits k total (cut (tally es) k)
pruned_fits es k total some most fits within =
    let c = tally es in
    let u = level c k in
    record {
      some = some;
      bounded_k = most;
      bounded_total = fits;
      few = omega (arith, length-lower u c, (is_level c k).at_most);
      entries = counters-lower u c (rising-tally es);
      within = omega (arith, total_of-lower-le u c, total_of-tally es, within);
    }

pub pruned_honest : (t : TallyView) (xs : List Entry) (k : ℕ) → AreBounds t xs
    → IsLoss t.room.few t.total t.lost t.counters → 2 * (k + 1) ≤ t.room.few
    → IsHonest (cut (tally t.counters) k) t.total xs k
pruned_honest t xs k h loss room =
    let c = tally t.counters in
    let u = level c k in
    let rises = rising-tally t.counters in
    record {
      counters = counters-lower u c rises;
      counted = h.counted;
      few = omega (arith, length-lower u c, (is_level c k).at_most);
      below = λ x. omega (arith, weight_of-lower u x c rises, weight_of-tally x t.counters, h.below x);
      near = λ x.
          let w = weight_of x (cut c k) in
          let half : k + 1 ≤ t.room.few / 2 = omega (arith, room) in
          let less : weight_of x xs ≤ w + u + t.lost =
          omega (arith, weight_of-lower u x c rises, weight_of-tally x t.counters, h.near x) in
          let times : (k + 1) * weight_of x xs ≤ (k + 1) * (w + u + t.lost) = mul-le-mul_left (k + 1) less in
          let parts : (k + 1) * (w + u + t.lost) ≡ (k + 1) * w + (k + 1) * u + (k + 1) * t.lost =
          mul-add (k + 1) (w + u) t.lost ∙ ap (λ n. n + (k + 1) * t.lost) (mul-add (k + 1) w u) in
          let paid : (k + 1) * t.lost ≤ (t.room.few / 2) * t.lost = mul-le-mul_right t.lost half in
          omega (arith, times, parts, paid, loss, total_of-cut c k u (is_level c k), total_of-tally t.counters);
    }
