-- Which keys are listed.
use Rattle.std.proofs.Common.{◌≡◌, ◌∙◌, ℕ, ◌+◌, ◌<◌, ◌≤◌, inl, inr, Bool, true, false, List, [], ◌∷◌, map, refl, ap, subst, sym, arith}
use Rattle.std.specs.Prelude.{Contains, IsTrue}
use Rattle.std.specs.List.Sorted.{IsStrictlySortedBy}
use Rattle.std.specs.Map.{keys_of}
use Rattle.std.proofs.lemmas.Bool.{cases_lt}
use Rattle.std.proofs.lemmas.Bool.Decides.{nat_tests}
use Rattle.hh_stream.specs.Weights.{Bytes, Entry, key_cmp, weight_of}
use Rattle.hh_summaries.specs.Counters.{Counters, IsCounters, plus}
use Rattle.hh_summaries.proofs.Weights.{counters-plus, in_from_number, number_from_in, positive_in, weight_of-plus}
use Rattle.hh_summaries.proofs.Reports.{filter_in, in_filter, rising-filter}
use Rattle.hh_commands.specs.Bounds.{bounds_of}
use Rattle.hh_changes.specs.Changes.{Pair, changes_in, is_listed, keys_in, listed, sure_change}
use Rattle.hh_changes.specs.Laws.{ChangesAreExact, IsChange, SureChangesAreListed}
use Rattle.hh_changes.proofs.ListFacts.{in_map, in_ranked, map_in, ranked_in_them}

keys_of_changes : (p : Pair) (ks : List Bytes) → keys_of (map (sure_change p) ks) ≡ ks
keys_of_changes p [] = refl
keys_of_changes p (x ∷ ks) = ap (λ (ys : List Bytes). x ∷ ys) (keys_of_changes p ks)

-- keys that are listed rise where all do
pub rising_listed : (all : Bool) (p : Pair) (ks : List Bytes) → IsStrictlySortedBy key_cmp ks
    → IsStrictlySortedBy key_cmp (keys_of (listed all p ks))
rising_listed all p ks h = rising-filter (is_listed all) (map (sure_change p) ks)
    (subst (IsStrictlySortedBy key_cmp) (sym (keys_of_changes p ks)) h)

-- the keys of counters are those with a number
key_in : (x : Bytes) (c : Counters) → IsCounters c → 0 < weight_of x c → Contains (keys_of c) x
key_in x c h some = in_map (λ (e : Entry). e.0) c (x, weight_of x c) (in_from_number x c h.rising some)

in_key : (x : Bytes) (c : Counters) → IsCounters c → Contains (keys_of c) x → 0 < weight_of x c
in_key x c h i =
    let (e, there, key) = map_in (λ (e : Entry). e.0) ([], 0) c x i in
    subst (λ y. 0 < weight_of y c) key (subst (λ n. 0 < n) (sym (number_from_in e c h.rising there)) (positive_in c e h there))

module _ (all : Bool) (p : Pair) (old : IsCounters p.old.counters) (new : IsCounters p.new.counters) where
  both : IsCounters (plus p.old.counters p.new.counters)
  both = counters-plus p.old.counters p.new.counters old new

  -- what is listed has a counter
  listed_has : (e : Entry) → Contains (changes_in all p) e
      → (e ≡ sure_change p e.0) × (0 < weight_of e.0 p.old.counters + weight_of e.0 p.new.counters)
      × IsTrue (is_listed all e)
  listed_has e i =
      let (there, passes) = in_filter (is_listed all) e (map (sure_change p) (keys_in p)) (ranked_in_them e _ i) in
      let (x, key, is) = map_in (sure_change p) [] (keys_in p) e there in
      let same : x ≡ e.0 = ap (λ (d : Entry). d.0) is in
      let some : 0 < weight_of x (plus p.old.counters p.new.counters) = in_key x _ both key in (
        sym is ∙ ap (sure_change p) same,
        subst (λ y. 0 < weight_of y p.old.counters + weight_of y p.new.counters) same
            (omega (arith, some, weight_of-plus x p.old.counters p.new.counters)),
        passes,
      )

  -- and what has a counter is listed, where its change passes
  has_listed : (x : Bytes) → 0 < weight_of x p.old.counters + weight_of x p.new.counters
      → is_listed all (sure_change p x) ≡ true → Contains (changes_in all p) (sure_change p x)
  has_listed x some passes =
      let key = key_in x (plus p.old.counters p.new.counters) both
      (omega (arith, some, weight_of-plus x p.old.counters p.new.counters)) in
      in_ranked _ _ (filter_in (is_listed all) (sure_change p x) (map (sure_change p) (keys_in p))
      (in_map (sure_change p) (keys_in p) x key) passes)

pub changes_are_exact : ChangesAreExact
changes_are_exact all p old new e = (
  listed_has all p old new e,
  λ h. subst (Contains (changes_in all p)) (sym h.0)
      (has_listed all p old new e.0 h.1 (subst (λ d. IsTrue (is_listed all d)) h.0 h.2)),
)

-- what is surely not 0 passes
sure_passes : (all : Bool) (e : Entry) → 0 < e.1 → is_listed all e ≡ true
sure_passes true e h = refl
sure_passes false e h = grind (arith, nat_tests, h)

pub sure_changes_are_listed : SureChangesAreListed
sure_changes_are_listed all p old new x = elim (cases_lt 0 (sure_change p x).1) [
  | inl some ↦ inr (has_listed all p old new x (has some) (sure_passes all (sure_change p x) some))
  | inr none ↦ inl (within none)
]
  where
    before : ℕ × ℕ
    before = bounds_of p.old x

    after : ℕ × ℕ
    after = bounds_of p.new x

    has : 0 < (sure_change p x).1 → 0 < weight_of x p.old.counters + weight_of x p.new.counters
    has some = omega (arith, some)

    within : (sure_change p x).1 ≤ 0 → IsChange p x (0, 0)
    within none = (omega (arith, none), omega (arith, none))
