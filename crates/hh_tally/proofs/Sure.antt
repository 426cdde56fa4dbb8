-- Flags of keys, and the keys of which a tally is sure.
use Rattle.std.proofs.Common.{◌≡◌, ℕ, ◌+◌, ◌-◌, ◌<◌, ◌≤◌, ◌⊎◌, inl, inr, ⊎_elim, Bool, true, false, cond, List, [], ◌∷◌, ◌++◌, length, get_or, map, replicate, Option, Some, None, position, slice_get, refl, sym, ap, ◌∙◌, subst, append_assoc, append-nil, arith, fold, zip}
use Rattle.std.specs.Prelude.{◌==◌, unwrap_or}
use Rattle.std.specs.List.{AllByRecursion, IsDistinct}
use Rattle.std.specs.Map.{keys_of, lookup, values_of}
use Rattle.std.proofs.lemmas.Grind.{replicate_next}
use Rattle.std.proofs.lemmas.List.{length-append, length-replicate, map-append, get_or-map}
use Rattle.std.proofs.lemmas.Map.Entries.{length-keys_of}
use Rattle.std.proofs.lemmas.Map.Made.{keys_of-zip}
use Rattle.std.proofs.lemmas.Option.{get_or_from_slice_get, slice_get-get_or, slice_get_within}
use Rattle.indexmap.proofs.MapLemmas.{Found-position}
use Rattle.hh_stream.specs.Weights.{Bytes, Entry, same_key, weight_of}
use Rattle.hh_summaries.proofs.Weights.{Distinct, at_here, same_exact, same_self, same_sym, weight_of-cons}
use Rattle.hh_tally.specs.Tallies.{AreFlags, TallyView, add_in, filled, is_sure}
use Rattle.hh_tally.proofs.Raising.{by_add_in}

-- ---- flags
-- one for each key needs no filling up
pub filled_all : (flags : List Bool) (rest : Bool) (n : ℕ) → length flags ≡ n → filled flags rest n ≡ flags
filled_all flags rest n is =
    let none : n - length flags ≡ 0 = omega (arith, is) in
    ap (λ m. flags ++ replicate m rest) none ∙ append-nil flags

-- filled up, there are as many as keys
pub length-filled : (flags : List Bool) (rest : Bool) (n : ℕ) → length flags ≤ n → length (filled flags rest n) ≡ n
length-filled flags rest n few =
    length-append flags (replicate (n - length flags) rest)
    ∙ ap (λ m. length flags + m) (length-replicate (n - length flags) rest)
    ∙ omega (arith, few)

-- one key more has the flag of the rest
pub flags_more : (flags : List Bool) (rest : Bool) (ks : List Bytes) (test : Bytes → Bool) (k : Bytes)
    → length flags ≤ length ks → test k ≡ rest → AreFlags flags rest ks test → AreFlags flags rest (ks ++ k ∷ []) test
flags_more flags rest ks test k few same are =
    let n = length ks - length flags in
    let more : length (ks ++ k ∷ []) - length flags ≡ n + 1 = omega (arith, length-append ks (k ∷ []), few) in
    ap (λ m. flags ++ replicate m rest) more
    ∙ ap (λ (bs : List Bool). flags ++ bs) (replicate_next n rest)
    ∙ sym (append_assoc flags (replicate n rest) (rest ∷ []))
    ∙ (λ i. are i ++ sym same i ∷ [])
    ∙ sym (map-append test ks (k ∷ []))

-- the flag at a place is what the test says of the key there
flag_says : (flags : List Bool) (rest : Bool) (ks : List Bytes) (test : Bytes → Bool) (i : ℕ)
    → AreFlags flags rest ks test → i < length ks
    → get_or (filled flags rest (length ks)) i false ≡ test (get_or ks i [])
flag_says flags rest ks test i are l = ap (λ (bs : List Bool). get_or bs i false) are ∙ get_or-map test ks i [] false l

-- and so of the key of an entry
pub flag_of_entry : (flags : List Bool) (rest : Bool) (es : List Entry) (test : Bytes → Bool) (i : ℕ) (e : Entry)
    → AreFlags flags rest (keys_of es) test → Some e ≡ slice_get es i
    → get_or (filled flags rest (length es)) i false ≡ test e.0
flag_of_entry flags rest es test i e are is =
    let l : i < length es = slice_get_within es i e (sym is) in
    ap (λ n. get_or (filled flags rest n) i false) (sym (length-keys_of es))
    ∙ flag_says flags rest (keys_of es) test i are (omega (arith, l, length-keys_of es))
    ∙ ap test (get_or-map (λ (d : Entry). d.0) es i e [] l ∙ ap (λ (d : Entry). d.0) (get_or_from_slice_get es i e e (sym is)))

-- ---- entries added
-- an entry adds its key behind the others, or none
keys-add_in : (es : List Entry) (e : Entry) → (keys_of (add_in es e) ≡ keys_of es)
    ⊎ ((lookup (same_key e.0) es ≡ None) × (keys_of (add_in es e) ≡ keys_of es ++ e.0 ∷ []))
keys-add_in [] e = inr (refl, refl)
keys-add_in (d ∷ es) e = by_add_in (λ b. (keys_of b ≡ keys_of (d ∷ es))
    ⊎ ((lookup (same_key e.0) (d ∷ es) ≡ None) × (keys_of b ≡ keys_of (d ∷ es) ++ e.0 ∷ []))) d es e
    (λ _. inl refl)
    (λ s. ⊎_elim (λ k. inl (ap (λ (ks : List Bytes). d.0 ∷ ks) k))
    (λ n. inr (ap (λ b. cond b (Some d.1) (lookup (same_key e.0) es)) s ∙ n.0, ap (λ (ks : List Bytes). d.0 ∷ ks) n.1))
    (keys-add_in es e))

-- there are no fewer
pub longer-add_in : (es : List Entry) (e : Entry) → length es ≤ length (add_in es e)
longer-add_in [] e = omega arith
longer-add_in (d ∷ es) e = by_add_in (λ b. length (d ∷ es) ≤ length b) d es e
    (λ _. omega arith) (λ _. omega (arith, longer-add_in es e))

-- and no key goes
absent-add_in : (x : Bytes) (es : List Entry) (e : Entry) → lookup (same_key x) (add_in es e) ≡ None
    → lookup (same_key x) es ≡ None
absent-add_in x [] e h = refl
absent-add_in x (d ∷ es) e h =
    by_add_in (λ b. lookup (same_key x) b ≡ None → lookup (same_key x) (d ∷ es) ≡ None) d es e
    (λ _. first (same_key x d.0)) (λ _. later (same_key x d.0) (absent-add_in x es e)) h
  where
    first : (b : Bool) → cond b (Some (d.1 + e.1)) (lookup (same_key x) es) ≡ None
        → cond b (Some d.1) (lookup (same_key x) es) ≡ None
    first true h = absurd (cc)
    first false h = h

    later : (b : Bool) → (lookup (same_key x) (add_in es e) ≡ None → lookup (same_key x) es ≡ None)
        → cond b (Some d.1) (lookup (same_key x) (add_in es e)) ≡ None → cond b (Some d.1) (lookup (same_key x) es) ≡ None
    later true rest h = absurd (cc)
    later false rest h = rest h

module _ (flags : List Bool) (rest : Bool) (test : Bytes → Bool) where
  -- flags stay right where an entry is added, if what they say of a new key is right
  pub flags-add_in : (es : List Entry) (e : Entry) → length flags ≤ length es
      → (lookup (same_key e.0) es ≡ None → test e.0 ≡ rest) → AreFlags flags rest (keys_of es) test
      → AreFlags flags rest (keys_of (add_in es e)) test
  flags-add_in es e few new are = ⊎_elim
      (λ k. subst (λ (ks : List Bytes). AreFlags flags rest ks test) (sym k) are)
      (λ n. subst (λ (ks : List Bytes). AreFlags flags rest ks test) (sym n.1)
      (flags_more flags rest (keys_of es) test e.0 (omega (arith, few, length-keys_of es)) (new n.0) are))
      (keys-add_in es e)

  -- and where all of some entries are
  pub flags-add_all : (es fs : List Entry) → length flags ≤ length es
      → ((x : Bytes) → lookup (same_key x) es ≡ None → test x ≡ rest) → AreFlags flags rest (keys_of es) test
      → AreFlags flags rest (keys_of (fold add_in es fs)) test
  flags-add_all es [] few new are = are
  flags-add_all es (f ∷ fs) few new are =
      flags-add_all (add_in es f) fs (omega (arith, few, longer-add_in es f))
      (λ x none. new x (absent-add_in x es f none)) (flags-add_in es f few (new f.0) are)

-- ---- what a tally says of a key
-- two functions that agree on some keys give the same of them
map_alike : (f g : Bytes → Bool) (ks : List Bytes) → AllByRecursion (λ k. f k ≡ g k) ks → map f ks ≡ map g ks
map_alike f g [] h = refl
map_alike f g (k ∷ ks) h = λ i. h.0 i ∷ map_alike f g ks h.1 i

-- looked up, each of some distinct keys has its own flag
looked_up : (d : Bool) (ks : List Bytes) (bs : List Bool) → IsDistinct same_key ks → length bs ≡ length ks
    → map (λ x. unwrap_or (lookup (same_key x) (zip ks bs)) d) ks ≡ bs
unfolding IsDistinct
looked_up d [] [] h l = refl
looked_up d [] (b ∷ bs) h l = absurd (omega (arith, l))
looked_up d (k ∷ ks) [] h l = absurd (omega (arith, l))
looked_up d (k ∷ ks) (b ∷ bs) h l =
    let look : Bytes → Option Bool = λ x. lookup (same_key x) (zip ks bs) in
    let first : unwrap_or (cond (same_key k k) (Some b) (look k)) d ≡ b =
    ap (λ c. unwrap_or (cond c (Some b) (look k)) d) (same_self k) in
    let others : map (λ x. unwrap_or (cond (same_key x k) (Some b) (look x)) d) ks ≡ bs =
    map_alike _ _ ks (apart ks h.0) ∙ looked_up d ks bs h.1 (omega (arith, l)) in
    λ i. first i ∷ others i
  where
    apart : (ys : List Bytes) → AllByRecursion (λ y. same_key k y ≡ false) ys
        → AllByRecursion (λ y. unwrap_or (cond (same_key y k) (Some b) (lookup (same_key y) (zip ks bs))) d
        ≡ unwrap_or (lookup (same_key y) (zip ks bs)) d) ys
    apart [] f = tt
    apart (y ∷ ys) f =
        (ap (λ c. unwrap_or (cond c (Some b) (lookup (same_key y) (zip ks bs))) d) (same_sym y k ∙ f.0), apart ys f.1)

-- so a tally's flags say of which keys it is sure
pub own_flags : (t : TallyView) (flags : List Bool) → Distinct t.counters → length flags ≤ length t.counters
    → t.sure ≡ filled flags (t.lost == 0) (length t.counters) → AreFlags flags (t.lost == 0) (keys_of t.counters) (is_sure t)
own_flags t flags h few is =
    let rest = t.lost == 0 in
    let ks = keys_of t.counters in
    let long : length t.sure ≡ length ks =
    ap length is ∙ length-filled flags rest (length t.counters) few ∙ sym (length-keys_of t.counters) in
    ap (filled flags rest) (length-keys_of t.counters) ∙ sym is ∙ sym (looked_up rest ks t.sure h long)

-- it is sure of a new key while nothing is lost
look_none : (x : Bytes) (es : List Entry) (bs : List Bool) → lookup (same_key x) es ≡ None
    → lookup (same_key x) (zip (keys_of es) bs) ≡ None
look_none x [] bs h = refl
look_none x (e ∷ es) [] h = refl
look_none x (e ∷ es) (b ∷ bs) h = step (same_key x e.0) (look_none x es bs) h
  where
    step : (c : Bool) → (lookup (same_key x) es ≡ None → lookup (same_key x) (zip (keys_of es) bs) ≡ None)
        → cond c (Some e.1) (lookup (same_key x) es) ≡ None
        → cond c (Some b) (lookup (same_key x) (zip (keys_of es) bs)) ≡ None
    step true rest f = absurd (cc)
    step false rest f = rest f

pub sure_new : (t : TallyView) (x : Bytes) → lookup (same_key x) t.counters ≡ None → is_sure t x ≡ (t.lost == 0)
sure_new t x none = ap (λ o. unwrap_or o (t.lost == 0)) (look_none x t.counters t.sure none)

-- and of a key at a place as its flag says
values_of-zip : (ks : List Bytes) (bs : List Bool) → length bs ≡ length ks → values_of (zip ks bs) ≡ bs
values_of-zip [] [] l = refl
values_of-zip [] (b ∷ bs) l = absurd (omega (arith, l))
values_of-zip (k ∷ ks) [] l = absurd (omega (arith, l))
values_of-zip (k ∷ ks) (b ∷ bs) l = ap (λ (cs : List Bool). b ∷ cs) (values_of-zip ks bs (omega (arith, l)))

pub sure_at : (t : TallyView) (x : Bytes) (i : ℕ) → position (same_key x) (keys_of t.counters) ≡ Some i
    → length t.sure ≡ length t.counters → is_sure t x ≡ get_or t.sure i false
sure_at t x i at long =
    let ks = keys_of t.counters in
    let same : length t.sure ≡ length ks = omega (arith, long, length-keys_of t.counters) in
    let place : position (same_key x) (keys_of (zip ks t.sure)) ≡ Some i =
    ap (position (same_key x)) (keys_of-zip ks t.sure same) ∙ at in
    let found = Found-position (same_key x) (zip ks t.sure) i place in
    let within : i < length t.sure = omega (
      arith,
      same,
      long,
      (Found-position (same_key x) t.counters i at).within,
    ) in
    ap (λ o. unwrap_or o (t.lost == 0))
    (found.value ∙ ap (λ (bs : List Bool). slice_get bs i) (values_of-zip ks t.sure same) ∙ slice_get-get_or t.sure i false within)

-- a key that is found among entries has a counter there, and the flag that the test gives; one that isn't has the other flag
pub found_sure : (test : Bytes → Bool) (d : Bool) (x : Bytes) (es : List Entry)
    → unwrap_or (lookup (same_key x) (zip (keys_of es) (map test (keys_of es)))) d ≡ true
    → ((test x ≡ true) × (AllByRecursion (λ (e : Entry). 0 < e.1) es → 0 < weight_of x es)) ⊎ (d ≡ true)
found_sure test d x [] h = inr h
found_sure test d x (e ∷ es) h = step (same_key x e.0) refl (found_sure test d x es) h
  where
    look : Option Bool
    look = lookup (same_key x) (zip (keys_of es) (map test (keys_of es)))

    step : (c : Bool) → same_key x e.0 ≡ c
        → (unwrap_or look d ≡ true → ((test x ≡ true) × (AllByRecursion (λ (e : Entry). 0 < e.1) es → 0 < weight_of x es)) ⊎ (d ≡ true))
        → unwrap_or (cond c (Some (test e.0)) look) d ≡ true
        → ((test x ≡ true) × (AllByRecursion (λ (e : Entry). 0 < e.1) (e ∷ es) → 0 < weight_of x (e ∷ es))) ⊎ (d ≡ true)
    step true s rest f = inl (
      ap test (same_exact x e.0 s) ∙ f,
      λ some. omega (arith, some.0, at_here x e s, weight_of-cons x e es),
    )
    step false s rest f = ⊎_elim (λ g. inl (g.0, λ some. omega (arith, g.1 some.1, weight_of-cons x e es))) (λ n. inr n) (rest f)
