-- Entries and summaries: what is read is spelled so, and what is spelled so is read.
use Rattle.std.proofs.Common.{◌≡◌, ℕ, zero, suc, ◌-◌, ◌^◌, ◌<◌, ◌≤◌, true, ltb, leb, List, [], ◌∷◌, ◌++◌, length, Ok, Ordering, Less, Equal, Greater, refl, sym, ap, subst, ◌∙◌, append_assoc, arith}
use Rattle.std.specs.List.{flat_map, AllByRecursion}
use Rattle.std.specs.List.Sorted.{IsStrictlySortedBy}
use Rattle.std.specs.Map.{keys_of}
use Rattle.std.specs.Ordering.{is_lt}
use Rattle.std.specs.Cmp.Lexicographic.{nat_list_cmp_total}
use Rattle.std.specs.Int.{w16, w64, to_be_bytes}
use Rattle.std.proofs.lemmas.Bool.Decides.{nat_tests}
use Rattle.std.proofs.lemmas.List.Concat.{flat_map-cons}
use Rattle.std.proofs.lemmas.List.Sums.{sum_by-cons}
use Rattle.hh_stream.specs.Weights.{Bytes, Entry, key_cmp, max_key_len, total_of}
use Rattle.hh_stream.specs.Ranges.{in_range}
use Rattle.hh_summaries.specs.Counters.{SummaryView, Fits}
use Rattle.hh_saved.specs.declared.format.Version.{Version}
use Rattle.hh_saved.specs.declared.format.Version.TheVariants.{One, Two}
use Rattle.hh_faults.specs.declared.saved.SavedFault.TheVariants as faults
use Rattle.hh_saved.specs.Spelling.{IsSavedKey, entry_bytes, len_width, max_len, sketch_bytes}
use Rattle.hh_saved.specs.Reading.{total_at, key_at, entry_at, entries_at, sketch_at}
use Rattle.hh_saved.proofs.Fields.{IsBytes, bind_ok, passed, ok_is, Takes, Takes-then, Decides-bounds, wide16, wide64, len_limit, wide_len, where_takes, where_again, bytes_take, bytes_again}

-- what is_lt tells
is_less : (o : Ordering) → is_lt o ≡ true → o ≡ Less
is_less Less e = refl
is_less Equal e = absurd cc
is_less Greater e = absurd cc

-- ---- keys

-- no version has longer keys than a key can be, and each can tell the length of its own
few_bytes : (version : Version) → (max_len version ≤ max_key_len) × (max_len version < len_limit version)
few_bytes One = (omega arith, omega arith)
few_bytes Two = (omega arith, omega arith)

-- a key that is read is spelled so, and stands above the one before
key_takes : (version : Version) (before bytes : List ℕ) (x : Bytes × List ℕ) → IsBytes bytes
    → key_at version before bytes ≡ Ok x
    → Takes bytes (to_be_bytes (len_width version) (length x.0) ++ x.0) x.1 × IsSavedKey version x.0
    × (key_cmp before x.0 ≡ Less)
unfolding key_at
key_takes version before bytes x fits e =
    let w = len_width version in
    let a = bind_ok _ _ x e in
    let b = bind_ok _ _ x a.2 in
    let g = passed _ _ _ x b.2 in
    let first = where_takes _ _ (wide_len version) _ _ _ _ fits a.1 in
    let second = bytes_take _ _ _ first.0.rest_fits b.1 in
    let len = (Decides-bounds 1 (max_len version) a.0.0).0 first.2 in
    let key : IsSavedKey version b.0.0 = record {
      key =
          record {
            some = omega (arith, second.1);
            few = omega (arith, second.1, (few_bytes version).0);
            bytes = λ i lt. second.2 i;
          };
      few = omega (arith, second.1);
    } in
    let spelled = Takes-then _ _ _ _ _ first.0 second.0 in
    rw (← g.1) (rw second.1 spelled, key, is_less (key_cmp before b.0.0) g.0)

-- and a key that is spelled so is read
key_again : (version : Version) (before key rest : List ℕ) → IsSavedKey version key → key_cmp before key ≡ Less
    → key_at version before (to_be_bytes (len_width version) (length key) ++ (key ++ rest)) ≡ Ok (key, rest)
unfolding key_at
key_again version before key rest is above =
    let pass = (Decides-bounds 1 (max_len version) (length key)).1 (is.key.some, is.few) in
    let small : length key < len_limit version = omega (arith, is.few, (few_bytes version).1) in
    rw (
      where_again _ _ (wide_len version) (λ n. in_range n (max_len version)) faults.BadKey (length key)
          (key ++ rest) small pass,
      bytes_again (length key) key rest refl,
      above,
    ) refl

-- ---- entries

-- an entry that may follow a key, where so much is left of the total
pub record IsEntry (version : Version) (before : Bytes) (left : ℕ) (e : Entry) : Type 0 where
  pub key : IsSavedKey version e.0
  pub above : key_cmp before e.0 ≡ Less
  pub some : 0 < e.1
  pub small : e.1 < 2 ^ 64
  pub within : e.1 ≤ left

-- an entry that is read is spelled so
entry_takes : (version : Version) (before : Bytes) (left : ℕ) (bytes : List ℕ) (x : Entry × List ℕ) → IsBytes bytes
    → entry_at version before left bytes ≡ Ok x
    → Takes bytes (entry_bytes version x.0) x.1 × IsEntry version before left x.0
unfolding entry_at
entry_takes version before left bytes x fits e =
    let w = len_width version in
    let a = bind_ok _ _ x e in
    let key = a.0 in
    let b = bind_ok _ _ x a.2 in
    let counter = b.0 in
    let g = passed _ _ _ x b.2 in
    let first = key_takes _ _ _ _ fits a.1 in
    let second = where_takes _ _ wide64 _ _ _ _ first.0.rest_fits b.1 in
    let both = Takes-then _ _ _ _ _ first.0 second.0 in
    let spelled = rw (append_assoc (to_be_bytes w (length key.0)) key.0 (to_be_bytes w64 counter.0)) at both in
    let some : 0 < counter.0 = grind (arith, nat_tests, second.2) in
    let within : counter.0 ≤ left = grind (arith, nat_tests, g.0) in
    rw (← g.1)
    (spelled, record { key = first.1; above = first.2; some = some; small = second.1; within = within })

-- and an entry that is spelled so is read
entry_again : (version : Version) (before : Bytes) (left : ℕ) (e : Entry) (rest : List ℕ)
    → IsEntry version before left e → entry_at version before left (entry_bytes version e ++ rest) ≡ Ok (e, rest)
unfolding entry_at
entry_again version before left e rest is =
    let w = len_width version in
    let regrouped : entry_bytes version e ++ rest ≡ to_be_bytes w (length e.0)
    ++ (e.0 ++ (to_be_bytes w64 e.1 ++ rest)) = simp append_assoc in
    let some : ltb 0 e.1 ≡ true = grind (arith, nat_tests, is.some) in
    let within : leb e.1 left ≡ true = grind (arith, nat_tests, is.within) in
    ap (entry_at version before left) regrouped
    ∙ rw (
      key_again version before e.0 (to_be_bytes w64 e.1 ++ rest) is.key is.above,
      where_again _ _ wide64 (λ n. ltb 0 n) faults.BadCounter e.1 rest is.small some,
      within,
    ) refl

-- entries that may follow one another
abbrev pub AreEntries : Version → Bytes → ℕ → List Entry → Type 0
AreEntries version before left [] = Unit {0}
AreEntries version before left (e ∷ es) = IsEntry version before left e × AreEntries version e.0 (left - e.1) es

-- entries that are read are spelled so
pub entries_take : (version : Version) (n : ℕ) (before : Bytes) (left : ℕ) (bytes : List ℕ) (x : List Entry × List ℕ)
    → IsBytes bytes → entries_at version n before left bytes ≡ Ok x
    → Takes bytes (flat_map (entry_bytes version) x.0) x.1 × (length x.0 ≡ n) × AreEntries version before left x.0
unfolding entries_at
entries_take version zero before left bytes x fits e =
    rw (← ok_is ([], bytes) x e) (record { parts = refl; rest_fits = fits }, refl, tt)
entries_take version (suc n) before left bytes x fits e =
    let a = bind_ok _ _ x e in
    let first = a.0 in
    let b = bind_ok _ _ x a.2 in
    let one = entry_takes _ _ _ _ _ fits a.1 in
    let more = entries_take _ n _ _ _ _ one.0.rest_fits b.1 in
    let both = Takes-then _ _ _ _ _ one.0 more.0 in
    let made : List Entry × List ℕ = (first.0 ∷ b.0.0, b.0.1) in
    rw (← ok_is made x b.2)
    (rw flat_map-cons both, ap suc more.1, (one.1, more.2))

-- and entries that are spelled so are read
pub entries_again : (version : Version) (es : List Entry) (before : Bytes) (left : ℕ) (rest : List ℕ)
    → AreEntries version before left es
    → entries_at version (length es) before left (flat_map (entry_bytes version) es ++ rest) ≡ Ok (es, rest)
unfolding entries_at
entries_again version [] before left rest are = refl
entries_again version (e ∷ es) before left rest are =
    let regrouped : flat_map (entry_bytes version) (e ∷ es) ++ rest ≡ entry_bytes version e
    ++ (flat_map (entry_bytes version) es ++ rest) =
    simp (flat_map-cons, append_assoc) in
    ap (entries_at version (suc (length es)) before left) regrouped
    ∙ rw (
      entry_again version before left e (flat_map (entry_bytes version) es ++ rest) are.0,
      entries_again version es e.0 (left - e.1) rest are.1,
    ) refl

-- ---- entries and counters

-- a key below another is below all that stand above it
above_all : (a b : Bytes) (ks : List Bytes) → key_cmp a b ≡ Less → AllByRecursion (λ y. key_cmp b y ≡ Less) ks
    → AllByRecursion (λ y. key_cmp a y ≡ Less) ks
above_all a b [] lt all = tt
above_all a b (k ∷ ks) lt all = (nat_list_cmp_total.trans a b k lt all.0, above_all a b ks lt all.1)

-- the keys of such entries rise
rising : (version : Version) (es : List Entry) (before : Bytes) (left : ℕ) → AreEntries version before left es
    → AllByRecursion (λ y. key_cmp before y ≡ Less) (keys_of es) × IsStrictlySortedBy key_cmp (keys_of es)
unfolding IsStrictlySortedBy
rising version [] before left are = (tt, tt)
rising version (e ∷ es) before left are =
    let rest = rising version es e.0 (left - e.1) are.1 in
    ((are.0.above, above_all before e.0 (keys_of es) are.0.above rest.0), (rest.0, rest.1))

-- their counters are positive
positive : (version : Version) (es : List Entry) (before : Bytes) (left : ℕ) → AreEntries version before left es
    → AllByRecursion (λ e. 0 < e.1) es
positive version [] before left are = tt
positive version (e ∷ es) before left are = (are.0.some, positive version es e.0 (left - e.1) are.1)

-- their keys are keys that the version can spell
pub keys : (version : Version) (es : List Entry) (before : Bytes) (left : ℕ) → AreEntries version before left es
    → AllByRecursion (λ e. IsSavedKey version e.0) es
keys version [] before left are = tt
keys version (e ∷ es) before left are = (are.0.key, keys version es e.0 (left - e.1) are.1)

-- and they add up to at most what was left
within : (version : Version) (es : List Entry) (before : Bytes) (left : ℕ) → AreEntries version before left es
    → total_of es ≤ left
within version [] before left are = omega arith
within version (e ∷ es) before left are =
    omega (arith, are.0.within, within version es e.0 (left - e.1) are.1, sum_by-cons (λ d. d.1) e es)

-- such entries are the counters of a summary
pub entries_fit : (version : Version) (k total : ℕ) (es : List Entry) → 1 ≤ k → k ≤ 65535 → total < 2 ^ 63
    → length es ≤ k → AreEntries version [] total es → Fits k total es
entries_fit version k total es some bounded small few are = record {
  some = some;
  bounded_k = bounded;
  bounded_total = small;
  few = few;
  entries = record { rising = (rising version es [] total are).1; positive = positive version es [] total are };
  within = within version es [] total are;
}

-- a key stands above no bytes
below_key : (version : Version) (y : Bytes) → IsSavedKey version y → key_cmp [] y ≡ Less
below_key version [] is = absurd (omega (arith, is.key.some))
below_key version (b ∷ bs) is = refl

-- and so do all keys
below_keys : (version : Version) (es : List Entry) → AllByRecursion (λ e. IsSavedKey version e.0) es
    → AllByRecursion (λ y. key_cmp [] y ≡ Less) (keys_of es)
below_keys version [] are = tt
below_keys version (e ∷ es) are = (below_key version e.0 are.0, below_keys version es are.1)

-- rising keys with positive counters may follow one another
entries_from : (version : Version) (es : List Entry) (before : Bytes) (left : ℕ)
    → AllByRecursion (λ y. key_cmp before y ≡ Less) (keys_of es) → IsStrictlySortedBy key_cmp (keys_of es)
    → AllByRecursion (λ e. 0 < e.1) es → AllByRecursion (λ e. IsSavedKey version e.0) es → total_of es ≤ left
    → left < 2 ^ 64 → AreEntries version before left es
unfolding IsStrictlySortedBy
entries_from version [] before left above sorted some are most small = tt
entries_from version (e ∷ es) before left above sorted some are most small =
    let sum = sum_by-cons (λ d. d.1) e es in (
      record { key = are.0; above = above.0; some = some.0; small = omega arith; within = omega arith },
      entries_from version es e.0 (left - e.1) sorted.0 sorted.1 some.1 are.1 (omega arith) (omega arith),
    )

-- the counters of a summary are such entries
pub entries_of_fits : (version : Version) (k total : ℕ) (es : List Entry) → Fits k total es
    → AllByRecursion (λ e. IsSavedKey version e.0) es → AreEntries version [] total es
entries_of_fits version k total es fits are =
    entries_from version es [] total (below_keys version es are) fits.entries.rising fits.entries.positive are
    fits.within (omega (arith, fits.bounded_total))

-- ---- summaries

-- a total that is read is spelled so
pub total_takes : (bytes : List ℕ) (x : ℕ × List ℕ) → IsBytes bytes → total_at bytes ≡ Ok x
    → Takes bytes (to_be_bytes w64 x.0) x.1 × (x.0 < 2 ^ 63)
total_takes bytes x fits e =
    let t = where_takes _ _ wide64 _ _ _ _ fits e in
    (t.0, grind (arith, nat_tests, t.2))

-- and a total that is spelled so is read
pub total_again : (n : ℕ) (rest : List ℕ) → n < 2 ^ 63 → total_at (to_be_bytes w64 n ++ rest) ≡ Ok (n, rest)
total_again n rest small =
    let pass : ltb n (2 ^ 63) ≡ true = grind (arith, nat_tests) in
    where_again _ _ wide64 (λ n. ltb n (2 ^ 63)) faults.TotalTooLarge n rest (omega arith) pass

-- a summary that is read is spelled so
pub sketch_takes : (version : Version) (bytes : List ℕ) (x : SummaryView × List ℕ) → IsBytes bytes
    → sketch_at version bytes ≡ Ok x
    → Takes bytes (sketch_bytes version x.0) x.1 × Fits x.0.k x.0.total x.0.counters
    × AllByRecursion (λ e. IsSavedKey version e.0) x.0.counters
unfolding sketch_at
sketch_takes version bytes x fits e =
    let a = bind_ok _ _ x e in
    let k = a.0 in
    let b = bind_ok _ _ x a.2 in
    let total = b.0 in
    let d = bind_ok _ _ x b.2 in
    let count = d.0 in
    let f = bind_ok _ _ x d.2 in
    let entries = f.0 in
    let t0 = where_takes _ _ wide16 _ _ _ _ fits a.1 in
    let t1 = total_takes _ _ t0.0.rest_fits b.1 in
    let t2 = where_takes _ _ wide16 _ _ _ _ t1.0.rest_fits d.1 in
    let t3 = entries_take _ _ _ _ _ _ t2.0.rest_fits f.1 in
    let some : 1 ≤ k.0 = grind (arith, nat_tests, t0.2) in
    let few : count.0 ≤ k.0 = grind (arith, nat_tests, t2.2) in
    let e23 =
    subst (λ (n : ℕ). Takes total.1 (to_be_bytes w16 n ++ flat_map (entry_bytes version) entries.0) entries.1)
    (sym t3.1) (Takes-then _ _ _ _ _ t2.0 t3.0) in
    let e13 = Takes-then _ _ _ _ _ t1.0 e23 in
    let e03 = Takes-then _ _ _ _ _ t0.0 e13 in
    let made : SummaryView × List ℕ = (record { k = k.0; total = total.0; counters = entries.0 }, entries.1) in
    rw (← ok_is made x f.2) (
      e03,
      entries_fit version k.0 total.0 entries.0 some (omega (arith, t0.1)) t1.1 (omega (arith, t3.1, few)) t3.2,
      keys version entries.0 [] total.0 t3.2,
    )

-- and a summary that is spelled so is read
pub sketch_again : (version : Version) (s : SummaryView) (rest : List ℕ) → Fits s.k s.total s.counters
    → AllByRecursion (λ e. IsSavedKey version e.0) s.counters
    → sketch_at version (sketch_bytes version s ++ rest) ≡ Ok (s, rest)
unfolding sketch_at
sketch_again version s rest fits are =
    let entries = flat_map (entry_bytes version) s.counters in
    let count = to_be_bytes w16 (length s.counters) in
    let total = to_be_bytes w64 s.total in
    let regrouped : sketch_bytes version s ++ rest ≡ to_be_bytes w16 s.k ++ (total ++ (count ++ (entries ++ rest))) =
    simp append_assoc in
    let some : ltb 0 s.k ≡ true = grind (arith, nat_tests, fits.some) in
    let few : leb (length s.counters) s.k ≡ true = grind (arith, nat_tests, fits.few) in
    ap (sketch_at version) regrouped
    ∙ rw (
      where_again _ _ wide16 (λ n. ltb 0 n) faults.BadK s.k (total ++ (count ++ (entries ++ rest)))
          (omega (arith, fits.bounded_k)) some,
      total_again s.total (count ++ (entries ++ rest)) fits.bounded_total,
      where_again _ _ wide16 (λ n. leb n s.k) faults.BadCount (length s.counters) (entries ++ rest)
          (omega (arith, fits.few, fits.bounded_k)) few,
      entries_again version s.counters [] s.total rest (entries_of_fits version s.k s.total s.counters fits are),
    ) refl
