-- What the parts of a tally keep.
use Rattle.std.proofs.Common.{◌≡◌, ℕ, ◌+◌, ◌*◌, ◌/◌, ◌<◌, ◌≤◌, ◌^◌, Bool, false, List, length, refl, sym, ap, ◌∙◌, subst, mul-add, mul-le-mul_right, arith, fold, map}
use Rattle.std.specs.Prelude.{◌==◌}
use Rattle.std.specs.List.{AllByRecursion}
use Rattle.std.specs.Map.{keys_of}
use Rattle.std.proofs.lemmas.Bool.{cond_both}
use Rattle.std.proofs.lemmas.List.{length-map}
use Rattle.std.proofs.lemmas.Map.Entries.{length-keys_of}
use Rattle.hh_stream.specs.Weights.{Bytes, Entry, total_of}
use Rattle.hh_summaries.proofs.Level.{positive-lower}
use Rattle.hh_summaries.proofs.Weights.{Distinct}
use Rattle.hh_tally.specs.declared.room.Room.{Room}
use Rattle.hh_tally.specs.Tallies.{AreFlags, TallyView, and_sure, IsRoom, IsLoss, IsTally, add_in, bytes_of, filled, is_over, is_sure, loss_of, left_of, merged_tally, tally_with, view_of}
use Rattle.hh_tally.proofs.Raising.{distinct-add_in, positive-add_all, positive-add_in, total_of-add_in}
use Rattle.hh_tally.proofs.Sure.{filled_all, flags-add_all, flags-add_in, own_flags, sure_new}
use Rattle.hh_tally.proofs.Bounds.{distinct-add_all, distinct-left_of, total_of-add_all, loss_none, loss_paid, left_same, settled_within}

-- ---- what is lost
-- one more item
pub loss_with : (few total lost : ℕ) (es : List Entry) (e : Entry) → IsLoss few total lost es
    → IsLoss few (total + e.1) lost (add_in es e)
loss_with few total lost es e h = omega (arith, h, total_of-add_in es e)

-- the counters of another tally
pub loss_merged : (few total total' lost lost' : ℕ) (es fs : List Entry) → IsLoss few total lost es
    → IsLoss few total' lost' fs → IsLoss few (total + total') (lost + lost') (fold add_in es fs)
loss_merged few total total' lost lost' es fs h g =
    omega (arith, h, g, total_of-add_all es fs, mul-add (few / 2) lost lost')

-- settled
pub loss_settled : (room : Room) (total lost : ℕ) (es : List Entry) → room.few ≤ room.keys
    → IsLoss room.few total lost es → IsLoss room.few total (lost + loss_of room es) (left_of room es)
loss_settled room total lost es le h =
    omega (arith, h, loss_paid room es le, mul-add (room.few / 2) lost (loss_of room es))

-- no more is lost than came
pub loss-le-total : (few total lost : ℕ) (es : List Entry) → 2 ≤ few → IsLoss few total lost es → lost ≤ total
loss-le-total few total lost es some h =
    let half : 1 ≤ few / 2 = omega arith in
    omega (arith, h, mul-le-mul_right lost half)

-- ---- all parts
-- what is left is positive
positive-left_of : (room : Room) (es : List Entry) → AllByRecursion (λ (e : Entry). 0 < e.1) es
    → AllByRecursion (λ (e : Entry). 0 < e.1) (left_of room es)
unfolding left_of
positive-left_of room es h = cond_both (is_over room (keys_of es)) _ _ (AllByRecursion (λ (e : Entry). 0 < e.1))
    (λ _. positive-lower (loss_of room es) es) (λ _. h)

-- an item whose key is there
pub tally_known : (room : Room) (total lost bytes w : ℕ) (x : Bytes) (es fs : List Entry)
    → IsTally room total lost bytes es → fs ≡ add_in es (x, w) → keys_of fs ≡ keys_of es → 0 < w → total + w < 2 ^ 63
    → IsTally room (total + w) lost bytes fs
tally_known room total lost bytes w x es fs h is keys some fits = record {
  room_is = h.room_is;
  bounded_total = fits;
  loss = subst (IsLoss room.few (total + w) lost) (sym is) (loss_with room.few total lost es (x, w) h.loss);
  positive = subst (AllByRecursion (λ (e : Entry). 0 < e.1)) (sym is) (positive-add_in es (x, w) some h.positive);
  distinct = subst Distinct (sym is) (distinct-add_in es (x, w) h.distinct);
  within = ap (is_over room) keys ∙ h.within;
  bytes_is = h.bytes_is ∙ sym (ap bytes_of keys);
  bounded_bytes = omega (arith, h.bounded_bytes, ap length keys, length-keys_of es, length-keys_of fs);
}

-- entries that were settled
pub tally_settled : (room : Room) (total lost bytes loss : ℕ) (es fs : List Entry) → IsRoom room → total < 2 ^ 63
    → IsLoss room.few total lost es → AllByRecursion (λ (e : Entry). 0 < e.1) es → Distinct es → loss ≡ loss_of room es
    → fs ≡ left_of room es → bytes ≡ bytes_of (keys_of fs) → bytes ≤ 4096 * length fs
    → IsTally room total (lost + loss) bytes fs
tally_settled room total lost bytes loss es fs is_room fits paid some apart is left at most = record {
  room_is = is_room;
  bounded_total = fits;
  loss = subst (λ n. IsLoss room.few total (lost + n) fs) (sym is)
      (subst (IsLoss room.few total (lost + loss_of room es)) (sym left)
      (loss_settled room total lost es is_room.few paid));
  positive = subst (AllByRecursion (λ (e : Entry). 0 < e.1)) (sym left) (positive-left_of room es some);
  distinct = subst Distinct (sym left) (distinct-left_of room es apart);
  within = ap (λ (ds : List Entry). is_over room (keys_of ds)) left ∙ settled_within room es is_room.few;
  bytes_is = at;
  bounded_bytes = most;
}

-- a new item, settled
pub tally_taken : {room : Room} {total lost bytes : ℕ} {es fs gs : List Entry} (w more left : ℕ) (x : Bytes)
    → IsTally room total lost bytes es → 0 < w → total + w < 2 ^ 63 → fs ≡ add_in es (x, w)
    → more ≡ loss_of room fs → gs ≡ left_of room fs → left ≡ bytes_of (keys_of gs) → left ≤ 4096 * length gs
    → IsTally room (total + w) (lost + more) left gs
tally_taken {room} {total} {lost} {es = es} {fs = fs} {gs = gs} w more left x h some fits is =
    tally_settled room (total + w) lost left more fs gs h.room_is fits
    (subst (IsLoss room.few (total + w) lost) (sym is) (loss_with room.few total lost es (x, w) h.loss))
    (subst (AllByRecursion (λ (e : Entry). 0 < e.1)) (sym is) (positive-add_in es (x, w) some h.positive))
    (subst Distinct (sym is) (distinct-add_in es (x, w) h.distinct))

-- two tallies with one room, added up and settled
pub tally_merged : {room room' : Room} {total total' lost lost' bytes bytes' : ℕ} {es fs all gs : List Entry} (more left : ℕ)
    → IsTally room total lost bytes es → IsTally room' total' lost' bytes' fs → room' ≡ room → total + total' < 2 ^ 63
    → all ≡ fold add_in es fs → more ≡ loss_of room all → gs ≡ left_of room all → left ≡ bytes_of (keys_of gs)
    → left ≤ 4096 * length gs → IsTally room (total + total') (lost + lost' + more) left gs
tally_merged {room} {total = total} {total' = total'} {lost = lost} {lost' = lost'} {es = es} {fs = fs} {all = all} {gs = gs}
    more left h g same fits is =
    let theirs = subst (λ (r : Room). IsLoss r.few total' lost' fs) same g.loss in
    tally_settled room (total + total') (lost + lost') left more all gs h.room_is fits
    (subst (IsLoss room.few (total + total') (lost + lost')) (sym is)
    (loss_merged room.few total total' lost lost' es fs h.loss theirs))
    (subst (AllByRecursion (λ (e : Entry). 0 < e.1)) (sym is) (positive-add_all es fs h.positive g.positive))
    (subst Distinct (sym is) (distinct-add_all es fs h.distinct))

-- with what is lost a counter is at most what came
pub lost_and_left : {room : Room} {total lost bytes : ℕ} {es : List Entry} → IsTally room total lost bytes es
    → lost + total_of es ≤ total
lost_and_left {room} {total} {lost} {es = es} h =
    let half : 1 ≤ room.few / 2 = omega (arith, h.room_is.some) in
    omega (arith, h.loss, mul-le-mul_right lost half)

-- what was lost fits in a number
pub lost_fits : {room : Room} {total lost bytes : ℕ} {es : List Entry} → IsTally room total lost bytes es → lost < 2 ^ 63
lost_fits {room} {total} {lost} {es = es} h =
    omega (arith, loss-le-total room.few total lost es h.room_is.some h.loss, h.bounded_total)

-- what an item leaves where there are not too many keys
pub with_known : (room : Room) (total lost w : ℕ) (x : Bytes) (flags : List Bool) (es fs : List Entry) → fs ≡ add_in es (x, w)
    → keys_of fs ≡ keys_of es → is_over room (keys_of fs) ≡ false → Distinct es → length flags ≤ length es → (t : TallyView)
    → t ≡ view_of room total lost flags es
    → view_of room (total + w) lost flags fs ≡ tally_with t (x, w)
with_known room total lost w x flags es fs is keys light distinct few t view =
    let was : TallyView = view_of room total lost flags es in
    let all : List Entry = add_in es (x, w) in
    let within : is_over room (keys_of all) ≡ false =
    subst (λ (ds : List Entry). is_over room (keys_of ds) ≡ false) is light in
    let none : lost ≡ lost + loss_of room all = omega (arith, loss_none room all within) in
    let left : fs ≡ left_of room all = is ∙ sym (left_same room all within) in
    let sure : filled flags (lost == 0) (length fs) ≡ map (is_sure was) (keys_of (left_of room all)) =
    ap (filled flags (lost == 0)) (sym (length-keys_of fs) ∙ ap length keys)
    ∙ own_flags was flags distinct few refl
    ∙ ap (map (is_sure was)) (sym keys ∙ ap (λ (ds : List Entry). keys_of ds) left) in
    (λ i. record { room = room; total = total + w; lost = none i; counters = left i; sure = sure i })
    ∙ ap (λ (d : TallyView). tally_with d (x, w)) (sym view)

-- what a new item leaves: `after` are the flags of the keys that are left, as lowering keeps them
module _ (room : Room) (total lost more : ℕ) (flags after : List Bool) where
  -- flags that lowering keeps say of the keys that are left what they said of all
  abbrev pub Keeps : List Entry → List Entry → Bool → Type 0
  Keeps all left rest = (test : Bytes → Bool) → AreFlags flags rest (keys_of all) test → (later : Bool)
      → (more ≡ 0 → later ≡ rest) → AreFlags after later (keys_of left) test

  pub with_new : (w : ℕ) (x : Bytes) (es all left : List Entry) → all ≡ add_in es (x, w)
      → more ≡ loss_of room all → left ≡ left_of room all → Distinct es → length flags ≤ length es → Keeps all left (lost == 0)
      → (t : TallyView)
      → t ≡ view_of room total lost flags es
      → view_of room (total + w) (lost + more) after left ≡ tally_with t (x, w)
  with_new w x es all left is loss are distinct few keeps t view =
      let was : TallyView = view_of room total lost flags es in
      let rest = lost == 0 in
      let own : AreFlags flags rest (keys_of all) (is_sure was) =
      subst (λ (ds : List Entry). AreFlags flags rest (keys_of ds) (is_sure was)) (sym is)
      (flags-add_in flags rest (is_sure was) es (x, w) few (λ none. sure_new was x none) (own_flags was flags distinct few refl)) in
      let same : more ≡ 0 → lost + more ≡ lost = λ none. omega (arith, none) in
      let later : more ≡ 0 → (lost + more == 0) ≡ rest = λ none. ap (λ n. n == 0) (same none) in
      let lost_is : lost + more ≡ lost + loss_of room (add_in es (x, w)) =
      ap (λ n. lost + n) (loss ∙ ap (loss_of room) is) in
      let left_is : left ≡ left_of room (add_in es (x, w)) = are ∙ ap (left_of room) is in
      let sure : filled after (lost + more == 0) (length left) ≡ map (is_sure was) (keys_of (left_of room (add_in es (x, w)))) =
      ap (filled after (lost + more == 0)) (sym (length-keys_of left))
      ∙ keeps (is_sure was) own (lost + more == 0) later
      ∙ ap (λ (ds : List Entry). map (is_sure was) (keys_of ds)) left_is in
      (λ i. record { room = room; total = total + w; lost = lost_is i; counters = left_is i; sure = sure i })
      ∙ ap (λ (d : TallyView). tally_with d (x, w)) (sym view)

-- what the items of another tally leave: `both` are the flags of all keys, `after` those of the keys that are left
pub with_merged : (room : Room) (total total' lost lost' more : ℕ) (flags both after : List Bool) (es all left : List Entry)
    (t u : TallyView) → t ≡ view_of room total lost flags es
    → total' ≡ u.total → lost' ≡ u.lost → all ≡ fold add_in es u.counters → more ≡ loss_of room all → left ≡ left_of room all
    → Distinct es → length flags ≤ length es
    → ((test : Bytes → Bool) → AreFlags flags (lost == 0) (keys_of all) test
    → both ≡ map (and_sure test u) (keys_of all))
    → Keeps room total (lost + lost') more both after all left (lost + lost' == 0)
    → view_of room (total + total') (lost + lost' + more) after left ≡ merged_tally t u
with_merged room total total' lost lost' more flags both after es all left t u view total_is lost_is is loss are distinct few
    says keeps =
    let was : TallyView = view_of room total lost flags es in
    let test : Bytes → Bool = and_sure (is_sure was) u in
    let sum : List Entry = fold add_in es u.counters in
    let own : AreFlags flags (lost == 0) (keys_of all) (is_sure was) =
    subst (λ (ds : List Entry). AreFlags flags (lost == 0) (keys_of ds) (is_sure was)) (sym is)
    (flags-add_all flags (lost == 0) (is_sure was) es u.counters few (λ x none. sure_new was x none)
    (own_flags was flags distinct few refl)) in
    let pair : both ≡ map test (keys_of all) = says (is_sure was) own in
    let full : AreFlags both (lost + lost' == 0) (keys_of all) test =
    filled_all both (lost + lost' == 0) (length (keys_of all)) (ap length pair ∙ length-map (keys_of all) test) ∙ pair in
    let same : more ≡ 0 → lost + lost' + more ≡ lost + lost' = λ none. omega (arith, none) in
    let left_is : left ≡ left_of room sum = are ∙ ap (left_of room) is in
    let lost_all : lost + lost' + more ≡ lost + u.lost + loss_of room sum =
    omega (arith, lost_is, loss, ap (loss_of room) is) in
    let sure : filled after (lost + lost' + more == 0) (length left) ≡ map test (keys_of (left_of room sum)) =
    ap (filled after (lost + lost' + more == 0)) (sym (length-keys_of left))
    ∙ keeps test full (lost + lost' + more == 0) (λ none. ap (λ n. n == 0) (same none))
    ∙ ap (λ (ds : List Entry). map test (keys_of ds)) left_is in
    (λ i. record { room = room; total = total + total_is i; lost = lost_all i; counters = left_is i; sure = sure i })
    ∙ ap (λ (d : TallyView). merged_tally d u) (sym view)
