-- The index of the monitored keys and their buckets: what each way through an addition leaves of both.
use Rattle.std.proofs.Common.{◌≡◌, ℕ, ◌+◌, ◌<◌, ◌≤◌, ◌^◌, ◌⊎◌, inl, inr, ⊎_elim, Bool, true, false, cond, ◌&&◌, List, [], ◌∷◌, ◌++◌, length, get_or, Option, Some, None, Result, Ok, Err, OnOk, OnErr, Ordering, Less, Equal, Greater, is_eq, is_gt, refl, sym, ap, ap₂, ◌∙◌, subst, true≢false, arith}
use Rattle.std.specs.Prelude.{fold, nat_lt, nat_le, ◌==◌, ◌||◌, unwrap_or, IsSome, IfSome, IsTrue, slice_get, position}
use Rattle.std.specs.List.{AllByRecursion, IsDistinct, list_any}
use Rattle.std.specs.List.Sorted.{IsStrictlySortedBy}
use Rattle.std.specs.Map.{keys_of, lookup}
use Rattle.std.specs.Ordering.{match_ordering, nat_cmp, ordering_reverse, ordering_then}
use Rattle.std.specs.BTreeMap.{is_at}
use Rattle.std.specs.BTreeSet.{Updates, insert_key}
use Rattle.std.specs.Cmp.{eq_by_cmp_equiv, tied_then}
use Rattle.std.specs.Option.{option_to_list}
use Rattle.std.proofs.Math.Bool.{and-true, and-false}
use Rattle.std.proofs.lemmas.Bool.{cases_Bool, cond_both, false_from_ne_true}
use Rattle.std.proofs.lemmas.Bool.Decides.{nat_tests}
use Rattle.std.proofs.lemmas.List.{get_or-map, length_push, same_from_push}
use Rattle.std.proofs.lemmas.List.Quantifiers.{position-Some}
use Rattle.std.proofs.lemmas.List.Elements.{recursion_from_All}
use Rattle.std.proofs.lemmas.Map.Entries.{length-values_of}
use Rattle.std.proofs.lemmas.Map.Views.{All-values_from_lookup}
use Rattle.std.proofs.lemmas.Option.{none-some, slice_get_within, get_or_from_slice_get}
use Rattle.hh_stream.specs.Weights.{Bytes, Entry, key_cmp, same_key, at_key, weight_of, total_of}
use Rattle.hh_summaries.specs.Counters.{Counters, IsCounters, add_at, tally, least_counter}
use Rattle.hh_counters.specs.SpaceSaving.{least_of, without, first_with, key_to_drop, taken_over, step, IsMonitor}
use Rattle.hh_counters.specs.Buckets.{Buckets, by_counter, is_in, AreBoundedBy, BoundCounters, IsLinked, IsTakenIn, IsFreshFirst}
use Rattle.hh_summaries.proofs.Weights.{Distinct, weight_of-lookup, by_key, flipped, key_exact, key_total, same_exact, same_sym, same_self, weight_of-add_at, weight_of-le-total_of, weight_of-tally, rising-tally, positive-tally, same_counters}
use Rattle.hh_counters.proofs.Stepping.{least_of_free, at_least_all, least_counter-le, least_counter-ge, counters-add_at, counters-without, weight_of-without, length-add_at_new}
use Rattle.hh_counters.proofs.Runs.{Positive, first_with_first}
use Rattle.hh_counters.proofs.TakingOver.{without-add_at, monitor_step, monitor_nothing}

-- ---- the view of an index: its tally
-- each key's number in the index is positive
abbrev pub PositiveAt : List Entry → Type 0
PositiveAt es = (q : Bytes) → IfSome (lookup (same_key q) es) (λ m. 0 < m)

-- a key's weight in the view of an index is what a look-up finds
pub weight_of-view : (q : Bytes) (es : List Entry) → Distinct es
    → weight_of q (tally es) ≡ unwrap_or (lookup (same_key q) es) 0
weight_of-view q es h = weight_of-tally q es ∙ weight_of-lookup q es h

positive_entries : (es : List Entry) → Distinct es → PositiveAt es → Positive es
positive_entries es h p =
    let all = All-values_from_lookup (eq_by_cmp_equiv key_total) (λ m. 0 < m) es h p in
    let within = length-values_of es in
    recursion_from_All (λ (e : Entry). 0 < e.1) es (λ j d l.
    subst (λ m. 0 < m) (get_or-map (λ (e : Entry). e.1) es j d d.1 l) (all j d.1 (omega (arith, l, within))))

-- the view of an index is counters
pub counters-view : (es : List Entry) → Distinct es → PositiveAt es → IsCounters (tally es)
counters-view es h p = record { rising = rising-tally es; positive = positive-tally es (positive_entries es h p) }

-- the view has as many keys as the index
length_from : (c : Counters) (es : List Entry) → IsCounters c → Distinct es → Positive es
    → AllByRecursion (λ (e : Entry). weight_of e.0 c ≡ 0) es → length (fold add_at c es) ≡ length c + length es
unfolding IsDistinct
length_from c [] h d p z = omega arith
length_from c (e ∷ es) h d p z =
    let rest = length_from (add_at c e) es (counters-add_at c e h p.0) d.1 p.1 (still_none es z.1 d.0) in
    omega (arith, length-add_at_new c e h.positive z.0, rest)
  where
    still_none : (fs : List Entry) → AllByRecursion (λ (f : Entry). weight_of f.0 c ≡ 0) fs
        → AllByRecursion (λ y. same_key e.0 y ≡ false) (keys_of fs)
        → AllByRecursion (λ (f : Entry). weight_of f.0 (add_at c e) ≡ 0) fs
    still_none [] a b = tt
    still_none (f ∷ fs) a b =
        let other : at_key f.0 e ≡ 0 = ap (λ b. cond b e.1 0) (same_sym f.0 e.0 ∙ b.0) in
        (omega (arith, weight_of-add_at f.0 c e, a.0, other), still_none fs a.1 b.1)

-- of as many keys as the index has
pub length-view : (es : List Entry) → Distinct es → PositiveAt es → length (tally es) ≡ length es
unfolding tally IsStrictlySortedBy
length-view es h p =
    let none_yet = recursion_from_All (λ (e : Entry). weight_of e.0 [] ≡ 0) es (λ j d l. refl) in
    omega (arith, length_from [] es (record { rising = tt; positive = tt }) h (positive_entries es h p) none_yet)

-- ---- what a look-up finds
-- a look-up that finds a number finds the weight
pub found : (es : List Entry) (x : Bytes) (n : ℕ) → Distinct es → lookup (same_key x) es ≡ Some n
    → weight_of x (tally es) ≡ n
found es x n d f = weight_of-view x es d ∙ ap (λ o. unwrap_or o 0) f

-- a key that a look-up misses weighs nothing
pub absent : (es : List Entry) (x : Bytes) → Distinct es → lookup (same_key x) es ≡ None → weight_of x (tally es) ≡ 0
absent es x d f = weight_of-view x es d ∙ ap (λ o. unwrap_or o 0) f

-- so it is no key with a counter
pub not_missed : {P : Type 0} (es : List Entry) (b : Buckets) (x : Bytes) → BoundCounters es b
    → lookup (same_key x) es ≡ None → 0 < weight_of x (tally es) → P
not_missed es b x bounds missed known = absurd (omega (arith, known, absent es x bounds.1.distinct missed))

-- what is left as it was stays bounded
pub bounds_stay : (es fs : List Entry) (b d : Buckets) → BoundCounters es b → fs ≡ es → d.keys ≡ b.keys
    → BoundCounters fs d
bounds_stay es fs b d bounds is same =
    subst (λ (ks : List (ℕ × Bytes)). BoundCounters fs (record { keys = ks })) (sym same)
    (subst (λ (gs : List Entry). BoundCounters gs b) (sym is) bounds)

-- what two clauses say of one result, both of its success or both of its failure
pub on_ok_both : {T E P Q R : Type 0} (r : Result T E) → (P → Q → R) → OnOk r P → OnOk r Q → OnOk r R
on_ok_both (Ok _) f p q = f p q
on_ok_both (Err _) f p q = tt

pub on_err_both : {T E P Q R : Type 0} (r : Result T E) → (P → Q → R) → OnErr r P → OnErr r Q → OnErr r R
on_err_both (Ok _) f p q = tt
on_err_both (Err _) f p q = f p q

number_positive : (es : List Entry) (x : Bytes) (n : ℕ) → PositiveAt es → lookup (same_key x) es ≡ Some n → 0 < n
number_positive es x n p f = subst (λ o. IfSome o (λ m. 0 < m)) f (p x)

-- ---- a key put into the index, or taken out
-- the number of x in an index is made o, and nothing else is changed
abbrev pub Renumbers : List Entry → List Entry → Bytes → Option ℕ → Type 0
Renumbers es fs x o = (q : Bytes) → lookup (same_key q) fs ≡ cond (same_key x q) o (lookup (same_key q) es)

-- the numbers stay positive
pub positive_set : (es fs : List Entry) (x : Bytes) (o : Option ℕ) → IfSome o (λ m. 0 < m) → PositiveAt es
    → Renumbers es fs x o → PositiveAt fs
positive_set es fs x o l p u q = subst (λ r. IfSome r (λ m. 0 < m)) (sym (u q))
    (cond_both (same_key x q) _ _ (λ r. IfSome r (λ m. 0 < m)) (λ _. l) (λ _. p q))

-- the weight of x is the new number, or 0, and others keep theirs
pub weight_set : (es fs : List Entry) (x : Bytes) (o : Option ℕ) → Distinct es → Distinct fs → Renumbers es fs x o
    → (q : Bytes) → weight_of q (tally fs) ≡ cond (same_key x q) (unwrap_or o 0) (weight_of q (tally es))
weight_set es fs x o d e u q = weight_of-view q fs e ∙ ap (λ r. unwrap_or r 0) (u q)
    ∙ grind (arith, weight_of-view q es d)

-- where the weight of x grows by w, w is added at x
pub view_put : (es fs : List Entry) (x : Bytes) (v w : ℕ) → 0 < w → Distinct es → PositiveAt es → Distinct fs
    → Renumbers es fs x (Some v) → v ≡ weight_of x (tally es) + w → tally fs ≡ add_at (tally es) (x, w)
view_put es fs x v w l d p e u is =
    same_counters _ _ (counters-view fs e (positive_set es fs x (Some v) (omega (arith, l, is)) p u))
    (counters-add_at (tally es) (x, w) (counters-view es d p) l)
    (λ q.
    let here : same_key x q ≡ true → weight_of x (tally es) ≡ weight_of q (tally es) =
    λ s. ap (λ z. weight_of z (tally es)) (same_exact x q s) in
    grind (arith, weight_set es fs x (Some v) d e u q, weight_of-add_at q (tally es) (x, w), same_sym q x, here, is))

view_taken : (es fs : List Entry) (y : Bytes) → Distinct es → PositiveAt es → Distinct fs → Renumbers es fs y None
    → tally fs ≡ without (tally es) y
view_taken es fs y d p e u =
    same_counters _ _ (counters-view fs e (positive_set es fs y None tt p u))
    (counters-without (tally es) y (counters-view es d p))
    (λ q. weight_set es fs y None d e u q ∙ ap (λ b. cond b 0 (weight_of q (tally es))) (same_sym y q)
    ∙ sym (weight_of-without q y (tally es)))

-- ---- a pair put into the buckets, or taken out
-- the pair of n and x is in d where v says so, and of other pairs those of b
abbrev pub Marks : Buckets → Buckets → ℕ → Bytes → Bool → Type 0
Marks b d n x v = (c : ℕ) (q : Bytes) → is_in d c q ≡ cond (is_eq (nat_cmp n c) && same_key x q) v (is_in b c q)

-- what a set says of a change, by the parts of a pair
pub marks : (b d : Buckets) (n : ℕ) (x : Bytes) (v : Bool) → Updates by_counter b d (n, x) v → Marks b d n x v
marks b d n x v u c q =
    u.0 (c, q) ∙ ap (λ t. cond t v (is_in b c q)) (sym (tied_then (nat_cmp n c) (key_cmp x q)))

-- the pairs of other keys stay
pub others_stay : (b d : Buckets) (n : ℕ) (x : Bytes) (v : Bool) → Marks b d n x v → (c : ℕ) (q : Bytes)
    → same_key x q ≡ false → is_in d c q ≡ is_in b c q
others_stay b d n x v m c q other = m c q ∙ simp (other, and-false) refl

-- where each key is, once x is in the bucket of v
abbrev pub sent : (Bytes → ℕ) → Bytes → ℕ → Bytes → ℕ
sent f x v q = cond (same_key x q) v (f q)

-- only x goes elsewhere
agree_sent : (f : Bytes → ℕ) (b d : Buckets) (x : Bytes) (v : ℕ)
    → ((c : ℕ) (q : Bytes) → is_in b c q ≡ (nat_lt 0 c && (f q == c)))
    → ((c : ℕ) (q : Bytes) → same_key x q ≡ false → is_in d c q ≡ is_in b c q)
    → ((c : ℕ) → is_in d c x ≡ (nat_lt 0 c && (v == c)))
    → (c : ℕ) (q : Bytes) → is_in d c q ≡ (nat_lt 0 c && (sent f x v q == c))
agree_sent f b d x v agree others own c q =
    ⊎_elim (λ same. subst (λ z. is_in d c z ≡ (nat_lt 0 c && (v == c))) (same_exact x q same) (own c)
    ∙ sym (ap (λ t. nat_lt 0 c && (cond t v (f q) == c)) same))
    (λ other. others c q other ∙ agree c q ∙ sym (ap (λ t. nat_lt 0 c && (cond t v (f q) == c)) other))
    (cases_Bool (same_key x q))

-- what a test gives in place of both keeps their order
cond_below : (v : Bool) (w m n : ℕ) → (m ≤ n) × (0 < n → 0 < m)
    → (cond v w m ≤ cond v w n) × (0 < cond v w n → 0 < cond v w m)
cond_below true w m n h = (omega arith, λ p. p)
cond_below false w m n h = h

-- a new key enters the index and the bucket of its counter
put_in : (f : Bytes → ℕ) (es fs : List Entry) (b d : Buckets) (x : Bytes) (w : ℕ) → 0 < w → AreBoundedBy f es b
    → lookup (same_key x) es ≡ None → Distinct fs → Renumbers es fs x (Some w) → Marks b d w x true
    → AreBoundedBy (sent f x w) fs d
put_in f es fs b d x w p old none distinct u m =
    let free : f x ≡ 0 = omega (arith, (old.below x).0, absent es x old.distinct none) in
    record {
      distinct = distinct;
      positive = positive_set es fs x (Some w) p old.positive u;
      below = λ q. rw (weight_set es fs x (Some w) old.distinct distinct u q)
          (cond_below (same_key x q) w (f q) (weight_of q (tally es)) (old.below q));
      agree = agree_sent f b d x w old.agree (others_stay b d w x true m)
          (λ c. m c x ∙ simp (same_self x, and-true, old.agree c x, free) (grind (arith, nat_tests, p)));
    }

-- a key leaves both
taken_out : (f : Bytes → ℕ) (es fs : List Entry) (b d : Buckets) (y : Bytes) (n : ℕ) → AreBoundedBy f es b
    → f y ≡ n → Distinct fs → Renumbers es fs y None → Marks b d n y false → AreBoundedBy (sent f y 0) fs d
taken_out f es fs b d y n old at distinct u m = record {
  distinct = distinct;
  positive = positive_set es fs y None tt old.positive u;
  below = λ q. rw (weight_set es fs y None old.distinct distinct u q)
      (cond_below (same_key y q) 0 (f q) (weight_of q (tally es)) (old.below q));
  agree = agree_sent f b d y 0 old.agree (others_stay b d n y false m)
      (λ c. m c y ∙ simp (same_self y, and-true, old.agree c y, at) (grind (arith, nat_tests)));
}

-- a key moves up from the bucket of n to that of its counter
pub moved_up : (f : Bytes → ℕ) (es : List Entry) (b m d : Buckets) (n v : ℕ) (x : Bytes) → AreBoundedBy f es b
    → f x ≡ n → n < v → weight_of x (tally es) ≡ v → Marks b m v x true → Marks m d n x false
    → AreBoundedBy (sent f x v) es d
moved_up f es b m d n v x old at less counter put taken = record {
  distinct = old.distinct;
  positive = old.positive;
  below = λ q. cond_both (same_key x q) v (f q)
      (λ m. (m ≤ weight_of q (tally es)) × (0 < weight_of q (tally es) → 0 < m))
      (λ same.
      (omega (arith, counter, ap (λ z. weight_of z (tally es)) (same_exact x q same)), λ h. omega (arith, less)))
      (λ _. old.below q);
  agree = agree_sent f b d x v old.agree
      (λ c q other. others_stay m d n x false taken c q other ∙ others_stay b m v x true put c q other)
      (λ c. taken c x ∙ simp (same_self x, and-true, put c x, old.agree c x, at) (grind (arith, nat_tests, less)));
}

-- ---- the first key of the first bucket
-- what is in the bucket of n is a key with n
pub held : (f : Bytes → ℕ) (es : List Entry) (b : Buckets) (n : ℕ) (q : Bytes) → AreBoundedBy f es b
    → IsTrue (is_in b n q) → (f q ≡ n) × (0 < n)
held f es b n q old in_it =
    let test : (nat_lt 0 n && (f q == n)) ≡ true = sym (old.agree n q) ∙ in_it in
    (grind (arith, nat_tests, test), grind (arith, nat_tests, test))

-- a key with a counter is in its bucket
pub in_a_bucket : (f : Bytes → ℕ) (es : List Entry) (b : Buckets) (q : Bytes) → AreBoundedBy f es b
    → 0 < weight_of q (tally es) → IsTrue (is_in b (f q) q)
in_a_bucket f es b q old h =
    let some = (old.below q).1 h in
    old.agree (f q) q ∙ grind (arith, nat_tests, some)

-- a pair that is not above another has no higher number, and of those with its number no key above its own
not_above : (n m : ℕ) (x q : Bytes) → is_gt (by_counter (n, x) (m, q)) ≡ false
    → (n ≤ m) × (n ≡ m → is_gt (key_cmp x q) ≡ false)
not_above n m x q h = by (nat_cmp n m) refl h
  where
    by : (o : Ordering) → nat_cmp n m ≡ o → is_gt (ordering_then o (key_cmp x q)) ≡ false
        → (n ≤ m) × (n ≡ m → is_gt (key_cmp x q) ≡ false)
    by Less is h = (grind (arith, nat_tests, is), λ same. absurd (grind (arith, nat_tests, is, same)))
    by Equal is h = (grind (arith, nat_tests, is), λ same. h)
    by Greater is h = absurd (true≢false h)

-- two keys of which neither is above the other
both_first : (y z : Bytes) → is_gt (key_cmp y z) ≡ false → is_gt (key_cmp z y) ≡ false → y ≡ z
both_first y z g h = key_exact y z (level (key_cmp y z) (key_cmp z y) (flipped y z (key_cmp y z) refl) g h)
  where
    level : (r t : Ordering) → t ≡ ordering_reverse r → is_gt r ≡ false → is_gt t ≡ false → r ≡ Equal
    level Less t e g h = absurd (true≢false (sym (ap is_gt e) ∙ h))
    level Equal t e g h = refl
    level Greater t e g h = absurd (true≢false g)

-- the first key of the first bucket, where that is the one of its counter, has the least counter and is the key to drop
drop_is : (f : Bytes → ℕ) (es : List Entry) (b : Buckets) (n : ℕ) (y : Bytes) → AreBoundedBy f es b → 0 < length es
    → IsFreshFirst es b n y → (least_counter (tally es) ≡ n) × (key_to_drop (tally es) ≡ y)
drop_is f es b n y old some fresh =
    let s = tally es in
    let c = counters-view es old.distinct old.positive in
    let at = held f es b n y old fresh.there in
    let other : (q : Bytes) → 0 < weight_of q s → (n ≤ f q) × (n ≡ f q → is_gt (key_cmp y q) ≡ false) =
    λ q h. not_above n (f q) y q (fresh.lowest (f q, q) (in_a_bucket f es b q old h)) in
    let above = least_counter-ge n s (omega (arith, length-view es old.distinct old.positive, some))
    (at_least_all s n c (λ q h. omega (arith, (other q h).0, (old.below q).0))) in
    let least : least_counter s ≡ n =
    omega (arith, above, fresh.counter, least_counter-le s y (omega (arith, fresh.counter, at.1))) in
    let first = first_with_first s n y at.1 c.rising fresh.counter in
    let x = first_with n s in
    let own = other x (omega (arith, first.1, at.1)) in
    let back = own.1 (omega (arith, own.0, (old.below x).0, first.1)) in
    (least, ap (λ m. first_with m s) least ∙ both_first x y first.0 back)

-- where there is a key, there is a bucket
pub some_bucket : (f : Bytes → ℕ) (es : List Entry) (b : Buckets) → AreBoundedBy f es b → 0 < length es
    → 0 < length b.keys
some_bucket f [] b old some = absurd (omega (arith, some))
some_bucket f (e ∷ es) b old some =
    let all = e ∷ es in
    let has : lookup (same_key e.0) all ≡ Some e.1 =
    ap (λ v. cond v (Some e.1) (lookup (same_key e.0) es)) (same_self e.0) in
    let own : 0 < weight_of e.0 (tally all) =
    omega (arith, found all e.0 e.1 old.distinct has, number_positive all e.0 e.1 old.positive has) in
    not_empty b.keys (in_a_bucket f all b e.0 old own)
  where
    not_empty : (ks : List (ℕ × Bytes)) → list_any (is_at (by_counter (f e.0, e.0))) ks ≡ true → 0 < length ks
    not_empty [] h = absurd (true≢false (sym h))
    not_empty (k ∷ ks) h = omega arith

-- what is put in after the first pair leaves it the first one to be taken out
pub first_popped : (ks ms ds : List (ℕ × Bytes)) (p k : ℕ × Bytes) (o : Option (ℕ × Bytes)) → slice_get ks 0 ≡ Some p
    → p.0 < k.0 → ms ≡ insert_key by_counter ks k → (0 < length ms → IsSome o) → IfSome o (λ r. ms ≡ r ∷ ds)
    → o ≡ Some p
first_popped [] ms ds p k o at above is some popped = absurd (none-some p at)
first_popped (z ∷ ks) ms ds p k o at above is some popped =
    let first : z ≡ p = ap (λ o. unwrap_or o z) at in
    let later : nat_cmp k.0 z.0 ≡ Greater = grind (arith, nat_tests, above, ap (λ (y : ℕ × Bytes). y.0) first) in
    let front : ms ≡ z ∷ insert_key by_counter ks k =
    is ∙ ap (λ o. match_ordering (ordering_then o (key_cmp k.1 z.1)) (k ∷ z ∷ ks) (z ∷ ks)
    (z ∷ insert_key by_counter ks k)) later in
    by o (some (omega (arith, ap length front))) popped front ∙ ap Some first
  where
    by : (o : Option (ℕ × Bytes)) → IsSome o → IfSome o (λ r. ms ≡ r ∷ ds) → ms ≡ z ∷ insert_key by_counter ks k
        → o ≡ Some z
    by None some popped front = absurd (true≢false (sym some))
    by (Some r) some popped front = ap Some (ap (λ (l : List (ℕ × Bytes)). get_or l 0 z) (sym popped ∙ front))

-- ---- the ways through an addition
-- where the key has a counter or one is free, a step adds the item
pub step_room : (s : Counters) (e : Entry) (k : ℕ) → (0 < weight_of e.0 s) ⊎ (length s ≤ k) → step s e k ≡ add_at s e
step_room s e k (inl has) =
    let test : nat_lt 0 (weight_of e.0 s) ≡ true = grind (arith, nat_tests, has) in
    ap (λ b. cond (b || nat_le (length s) k) (add_at s e) (taken_over s e)) test
step_room s e k (inr free) =
    let test : (nat_lt 0 (weight_of e.0 s) || nat_le (length s) k) ≡ true = grind (arith, nat_tests, free) in
    ap (λ b. cond b (add_at s e) (taken_over s e)) test

step_full : (s : Counters) (e : Entry) (k : ℕ) → weight_of e.0 s ≡ 0 → k < length s → step s e k ≡ taken_over s e
step_full s e k z full =
    let test : (nat_lt 0 (weight_of e.0 s) || nat_le (length s) k) ≡ false = grind (arith, nat_tests, z, full) in
    ap (λ b. cond b (add_at s e) (taken_over s e)) test

-- a hit, whose weight waits in the counter
pub hit : (k : ℕ) (es fs : List Entry) (b : Buckets) (f : Bytes → ℕ) (x : Bytes) (n w : ℕ) → 0 < w
    → AreBoundedBy f es b → lookup (same_key x) es ≡ Some n → Distinct fs → Renumbers es fs x (Some (n + w))
    → (tally fs ≡ step (tally es) (x, w) k) × AreBoundedBy f fs b
hit k es fs b f x n w p old has distinct u =
    let at = found es x n old.distinct has in
    let some = number_positive es x n old.positive has in
    let is : tally fs ≡ add_at (tally es) (x, w) =
    view_put es fs x (n + w) w p old.distinct old.positive distinct u (omega (arith, at)) in
    let more : (q : Bytes) → weight_of q (tally fs) ≡ weight_of q (tally es) + at_key q (x, w) =
    λ q. ap (weight_of q) is ∙ weight_of-add_at q (tally es) (x, w) in (
      is ∙ sym (step_room (tally es) (x, w) k (inl (omega (arith, at, some)))),
      record {
        distinct = distinct;
        positive = positive_set es fs x (Some (n + w)) (omega (arith, p)) old.positive u;
        below = λ q. (
          omega (arith, more q, (old.below q).0),
          λ h. (old.below q).1 (had q (omega (arith, at, some)) (rw (← more q) h)),
        );
        agree = old.agree;
      },
    )
  where
    had : (q : Bytes) → 0 < weight_of x (tally es) → 0 < weight_of q (tally es) + at_key q (x, w)
        → 0 < weight_of q (tally es)
    had q some h = by_key q (x, w) _ (λ same _. subst (λ z. 0 < weight_of z (tally es)) (sym same) some)
        (λ _ none. omega (arith, h, none))

-- a newcomer x, which is a copy of z, with a counter free
pub entered : (k : ℕ) (es fs : List Entry) (b d : Buckets) (x z : Bytes) (w : ℕ) → 0 < w → BoundCounters es b
    → lookup (same_key z) es ≡ None → x ≡ z → length es ≤ k → Distinct fs → Renumbers es fs x (Some w)
    → Updates by_counter b d (w, x) true → IsTakenIn k es fs d (z, w)
entered k es fs b d x z w p bounds missed copy free distinct u put =
    let old = bounds.1 in
    let none : lookup (same_key x) es ≡ None = ap (λ y. lookup (same_key y) es) copy ∙ missed in
    let at = absent es x old.distinct none in
    let room : length (tally es) ≤ k = omega (arith, length-view es old.distinct old.positive, free) in
    subst (λ y. IsTakenIn k es fs d (y, w)) copy (record {
      step_is = view_put es fs x w w p old.distinct old.positive distinct u (omega (arith, at))
          ∙ sym (step_room (tally es) (x, w) k (inr room));
      bounds = (sent bounds.0 x w, put_in bounds.0 es fs b d x w p old none distinct u (marks b d w x true put));
    })

-- a newcomer takes over the first of the least counters
pub replaced : (k : ℕ) (es fs gs : List Entry) (b d a : Buckets) (x y : Bytes) (n w : ℕ) → 0 < w → BoundCounters es b
    → lookup (same_key x) es ≡ None → k < length es → IsFreshFirst es b n y
    → Distinct fs → Renumbers es fs x (Some (n + w)) → Updates by_counter b d (n + w, x) true
    → Distinct gs → Renumbers fs gs y None → Updates by_counter d a (n, y) false → IsTakenIn k es gs a (x, w)
replaced k es fs gs b d a x y n w p bounds none full fresh distinct_put u put distinct v taken =
    let f = bounds.0 in
    let old = bounds.1 in
    let t = tally es in
    let at = absent es x old.distinct none in
    let counters = counters-view es old.distinct old.positive in
    let before = drop_is f es b n y old (omega (arith, full)) fresh in
    let own = held f es b n y old fresh.there in
    let differ = false_from_ne_true (same_key y x)
    (λ same. omega (arith, fresh.counter, own.1, at, ap (λ k. weight_of k t) (same_exact y x same))) in
    let some : 0 < n + w = omega (arith, p) in
    let mid = put_in f es fs b d x (n + w) some old none distinct_put u (marks b d (n + w) x true put) in
    let over : tally gs ≡ taken_over t (x, w) =
    view_taken fs gs y distinct_put mid.positive distinct v
    ∙ ap (λ (t : Counters). without t y)
    (view_put es fs x (n + w) (n + w) some old.distinct old.positive distinct_put u (omega (arith, at)))
    ∙ without-add_at t (x, n + w) y counters some differ
    ∙ ap₂ (λ z v. add_at (without t z) (x, v + w)) (sym before.1) (sym before.0) in
    let stays : sent f x (n + w) y ≡ n =
    ap (λ c. cond c (n + w) (f y)) (same_sym x y ∙ differ) ∙ own.0 in
    record {
      step_is = over ∙ sym (step_full t (x, w) k at (omega (arith, length-view es old.distinct old.positive, full)));
      bounds = (
        sent (sent f x (n + w)) y 0,
        taken_out (sent f x (n + w)) fs gs d a y n mid stays distinct v (marks d a n y false taken),
      );
    }

-- an item taken in leaves both parts of a monitor
pub linked_more : (k n : ℕ) (es fs : List Entry) (b d : Buckets) (e : Entry) → IsLinked k n es b
    → 0 < e.1
    → n + e.1 < 2 ^ 63 → IsTakenIn k es fs d e → IsLinked k (n + e.1) fs d
linked_more k n es fs b d e linked p bound taken = record {
  monitor = subst (IsMonitor k (n + e.1)) (sym taken.step_is) (monitor_step k n (tally es) e linked.monitor p bound);
  bounds = taken.bounds;
}

-- ---- what readers need
-- an empty set has no bucket, and an index with no entries no key
pub nothing_linked : (k : ℕ) (b : Buckets) → 1 ≤ k → k ≤ 65535 → b.keys ≡ [] → IsLinked k 0 [] b
unfolding tally IsDistinct
nothing_linked k b low high empty = record {
  monitor = monitor_nothing k low high;
  bounds = (
    λ q. 0,
    record {
      distinct = tt;
      positive = λ q. tt;
      below = λ q. (omega arith, λ h. h);
      agree = λ n q. ap (list_any (is_at (by_counter (n, q)))) empty ∙ tests n;
    },
  );
}
  where
    tests : (n : ℕ) → false ≡ (nat_lt 0 n && (0 == n))
    tests n = grind (arith, nat_tests)

-- as many keys have counters as the index has entries
pub length-linked : (k n : ℕ) (es : List Entry) (b : Buckets) → IsLinked k n es b
    → length es ≡ length (tally es)
length-linked k n es b linked = sym (length-view es linked.bounds.1.distinct linked.bounds.1.positive)

-- where one is free, the least is 0
pub least_free : (k n : ℕ) (es : List Entry) (b : Buckets) → IsLinked k n es b → length es ≤ k
    → 0 ≡ least_of (tally es) k
least_free k n es b linked free =
    sym (least_of_free (tally es) k (omega (arith, length-linked k n es b linked, free)))

-- no counter is above the total
pub counter-le-total : (es : List Entry) (x : Bytes) (n : ℕ) → Distinct es → lookup (same_key x) es ≡ Some n
    → n ≤ total_of (tally es)
counter-le-total es x n d f = omega (arith, found es x n d f, weight_of-le-total_of x (tally es))

-- ---- what an index does
-- the key that a look-up found is the key that was asked for
pub stored_key : (es : List Entry) (x : Bytes) (i : ℕ) (y : Bytes) (n : ℕ) → position (same_key x) (keys_of es) ≡ Some i
    → slice_get es i ≡ Some (y, n) → y ≡ x
stored_key es x i y n at is =
    let p = position-Some (same_key x) (keys_of es) i x at in
    let l : i < length es = slice_get_within es i (y, n) is in
    let here : get_or (keys_of es) i x ≡ y = get_or-map (λ (e : Entry). e.0) es i (y, n) x l
    ∙ ap (λ (e : Entry). e.0) (get_or_from_slice_get es i (y, n) (y, n) is) in
    sym here ∙ sym (same_exact x (get_or (keys_of es) i x) p.1)

-- an entry that was put last and popped leaves the others
pub popped : (es all left : List Entry) (e : Entry) (o : Option Entry) → all ≡ es ++ e ∷ []
    → all ≡ left ++ option_to_list o → (0 < length all → IsSome o) → left ≡ es
popped es all left e None is pop some = absurd (true≢false (sym (some (omega (arith, ap length is, length_push es e)))))
popped es all left e (Some f) is pop some = sym (same_from_push es left e f (sym is ∙ pop)).0
