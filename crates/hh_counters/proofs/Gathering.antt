-- Keys in buckets of counters that they had: the first key moved up, and the least counter.
use Rattle.std.proofs.Common.{◌≡◌, ◌≢◌, ℕ, ◌<◌, ◌≤◌, Bool, true, false, cond, List, [], ◌∷◌, length, get_or, Option, Some, refl, sym, ap, ◌∙◌, subst, true≢false, arith, IfSome, IsSome, IsTrue, slice_get}
use Rattle.std.specs.BTreeSet.{Updates, insert_key}
use Rattle.std.specs.List.{AllByRecursion, sum_by}
use Rattle.std.specs.Map.{keys_of, lookup}
use Rattle.std.proofs.lemmas.Bool.Decides.{nat_tests}
use Rattle.std.proofs.lemmas.List.Elements.{recursion_from_All}
use Rattle.std.proofs.lemmas.List.Sums.{sum_by-cons, sum_by-le-sum_by}
use Rattle.hh_stream.specs.Weights.{Bytes, Entry, same_key, weight_of}
use Rattle.hh_summaries.specs.Counters.{tally, least_counter}
use Rattle.hh_counters.specs.Buckets.{Buckets, by_counter, is_in, BoundCounters}
use Rattle.hh_summaries.proofs.Weights.{Distinct, same_exact, same_self, weight_of-tally}
use Rattle.hh_counters.proofs.Stepping.{at_least_all, at_least_each, least_counter-le, least_counter-ge}
use Rattle.hh_counters.proofs.Linked.{PositiveAt, counters-view, first_popped, found, held, length-view, marks, moved_up, others_stay, sent}

-- ---- how many keys wait
-- 1 where the key q is not in the bucket of its counter
abbrev waits : List Entry → Buckets → Bytes → ℕ
waits es b q = cond (is_in b (weight_of q (tally es)) q) 0 1

-- the measure of the moves
abbrev pub lag : List Entry → Buckets → ℕ
lag es b = sum_by (waits es b) (keys_of es)

-- a sum is less where no term is more and that of a key of the index is less
sum_less : (f g : Bytes → ℕ) (x : Bytes) (es : List Entry) → ((q : Bytes) → g q ≤ f q) → g x < f x
    → IsSome (lookup (same_key x) es) → sum_by g (keys_of es) < sum_by f (keys_of es)
sum_less f g x [] le less has = absurd (true≢false (sym has))
sum_less f g x (e ∷ es) le less has = by (same_key x e.0) refl has (λ h. sum_less f g x es le less h)
  where
    by : (t : Bool) → same_key x e.0 ≡ t → IsSome (cond t (Some e.1) (lookup (same_key x) es))
        → (IsSome (lookup (same_key x) es) → sum_by g (keys_of es) < sum_by f (keys_of es))
        → sum_by g (keys_of (e ∷ es)) < sum_by f (keys_of (e ∷ es))
    by true same has rest =
        let here : g e.0 < f e.0 = subst (λ z. g z < f z) (same_exact x e.0 same) less in
        let others = sum_by-le-sum_by g f (keys_of es) le in
        omega (arith, here, others, sum_by-cons g e.0 (keys_of es), sum_by-cons f e.0 (keys_of es))
    by false other has rest =
        omega (arith, le e.0, rest has, sum_by-cons g e.0 (keys_of es), sum_by-cons f e.0 (keys_of es))

-- it falls where a key comes into the bucket of its counter and the others stay
lag_falls : (es : List Entry) (b d : Buckets) (v : ℕ) (x : Bytes) → IsSome (lookup (same_key x) es)
    → weight_of x (tally es) ≡ v → is_in b v x ≡ false → is_in d v x ≡ true
    → ((c : ℕ) (q : Bytes) → same_key x q ≡ false → is_in d c q ≡ is_in b c q) → lag es d < lag es b
lag_falls es b d v x has counter before after stays =
    sum_less (waits es b) (waits es d) x es (λ q. no_more q (same_key x q) refl) (omega (arith, fresh, waited)) has
  where
    fresh : waits es d x ≡ 0
    fresh = rw counter (ap {B = ℕ} (λ t. cond t 0 1) after)

    waited : waits es b x ≡ 1
    waited = rw counter (ap {B = ℕ} (λ t. cond t 0 1) before)

    no_more : (q : Bytes) (t : Bool) → same_key x q ≡ t → waits es d q ≤ waits es b q
    no_more q true same = subst (λ z. waits es d z ≤ waits es b z) (same_exact x q same) (omega (arith, fresh))
    no_more q false other = omega (arith, ap {B = ℕ} (λ t. cond t 0 1) (stays (weight_of q (tally es)) q other))

-- ---- the first key moved up
-- put into the bucket of its counter, it leaves less to do
pub moved_on : (es : List Entry) (b m d : Buckets) (n v : ℕ) (x z : Bytes) (o : Option (ℕ × Bytes)) → BoundCounters es b
    → slice_get b.keys 0 ≡ Some (n, x) → IsTrue (is_in b n x) → lookup (same_key x) es ≡ Some v → v ≢ n → z ≡ x
    → Updates by_counter b m (v, z) true → m.keys ≡ insert_key by_counter b.keys (v, z)
    → (0 < length m.keys → IsSome o) → IfSome o (λ r. m.keys ≡ r ∷ d.keys)
    → IfSome o (λ r. Updates by_counter m d r false) → BoundCounters es d × (lag es d < lag es b)
moved_on es b m d n v x z o bounds front in_it value differ copy put sorted some popped taken =
    let f = bounds.0 in
    let old = bounds.1 in
    let counter = found es x v old.distinct value in
    let at = held f es b n x old in_it in
    let less : n < v = above n v (omega (arith, at.0, (old.below x).0, counter)) differ in
    let is = first_popped b.keys m.keys d.keys (n, x) (v, z) o front less sorted some popped in
    let up = marks b m v x true (subst (λ k. Updates by_counter b m (v, k) true) copy put) in
    let gone = marks m d n x false (subst (λ o. IfSome o (λ r. Updates by_counter m d r false)) is taken) in
    let absent : is_in b v x ≡ false = old.agree v x ∙ grind (arith, nat_tests, at.0, less) in
    let there : is_in d v x ≡ true = gone v x ∙ grind (arith, nat_tests, up v x, same_self x, less) in
    let stays : (c : ℕ) (q : Bytes) → same_key x q ≡ false → is_in d c q ≡ is_in b c q =
    λ c q other. others_stay m d n x false gone c q other ∙ others_stay b m v x true up c q other in (
      (sent f x v, moved_up f es b m d n v x old at.0 less counter up gone),
      lag_falls es b d v x (subst IsSome (sym value) refl) counter absent there stays,
    )
  where
    above : (n v : ℕ) → n ≤ v → v ≢ n → n < v
    above n v le differ = grind (arith, nat_tests, le, differ)

-- ---- the least counter
-- of the first i entries n is the least number, or 0 where there is none
pub record IsLeastOf (es : List Entry) (i n : ℕ) : Type 0 where
  pub none : i ≡ 0 → n ≡ 0
  pub reached : 0 < i → (x : Bytes) × (lookup (same_key x) es ≡ Some n)
  pub below : (j : ℕ) (d : Entry) → j < i → n ≤ (get_or es j d).1

-- the least number of all entries is the least counter
pub least_of_all : (es : List Entry) (i n : ℕ) → Distinct es → PositiveAt es → i ≡ length es → IsLeastOf es i n
    → n ≡ least_counter (tally es)
unfolding tally
least_of_all [] i n distinct positive whole h = h.none whole
least_of_all (e ∷ es) i n distinct positive whole h =
    let all = e ∷ es in
    let r = h.reached (omega (arith, whole)) in
    let at = found all r.0 n distinct r.1 in
    let some : 0 < n = subst (λ o. IfSome o (λ m. 0 < m)) r.1 (positive r.0) in
    let counters = counters-view all distinct positive in
    let each : AllByRecursion (λ (e : Entry). n ≤ e.1) all =
    recursion_from_All (λ (e : Entry). n ≤ e.1) all (λ j d l. h.below j d (omega (arith, l, whole))) in
    let above = least_counter-ge n (tally all) (omega (arith, length-view all distinct positive))
    (at_least_all (tally all) n counters (λ q p. rw (weight_of-tally q all)
    (at_least_each all n q each (rw (← weight_of-tally q all) p)))) in
    omega (arith, above, at, some, least_counter-le (tally all) r.0 (omega (arith, at, some)))
