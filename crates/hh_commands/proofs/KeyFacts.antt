-- Keys, tested one after the other.
use Rattle.std.proofs.Common.{◌≡◌, ℕ, zero, suc, ◌+◌, ◌-◌, ◌^◌, ◌<◌, ◌≤◌, ◌∙◌, List, [], ◌∷◌, length, map, drop, get_or, Option, Some, None, inl, inr, sym, refl, ap, arith, subst}
use Rattle.std.proofs.lemmas.Bool.Decides.{eqb_tells, leb_tells}
use Rattle.std.proofs.lemmas.List.{drop_all, get_or-map, length-map}
use Rattle.std.proofs.Math.Nat.{div-le_self}
use Rattle.hh_stream.specs.Weights.{Bytes, Entry, max_key_len, max_total, total_of, weight_of}
use Rattle.hh_summaries.specs.Counters.{slack}
use Rattle.hh_summaries.proofs.Weights.{weight_of-le-total_of}
use Rattle.hh_commands.proofs.FileFacts.{drop_contents}
use Rattle.hh_faults.specs.declared.error.ToolError.{ToolError}
use Rattle.hh_commands.specs.Ask.{bad_key, key_fault, or_else}

-- a counter and the slack are together at most the total
pub bounds-fit : (k n : ℕ) (c : List Entry) (x : Bytes) → total_of c ≤ n → n ≤ max_total
    → weight_of x c + slack c n k < 2 ^ 64
bounds-fit k n c x within bounded =
    omega (arith, within, bounded, weight_of-le-total_of x c, div-le_self (n - total_of c) (k + 1))

-- the length of a word that is a key
abbrev pub IsKeyLength : Bytes → Type 0
IsKeyLength x = (0 < length x) × (length x ≤ max_key_len)

key_fault-none : (n : ℕ) (x : Bytes) → key_fault n x ≡ None → IsKeyLength x
key_fault-none n x none = elim (eqb_tells (length x) 0) [
  | inl (e, _) ↦ absurd (cc (rw e at none))
  | inr (e, some) ↦ elim (leb_tells (length x) max_key_len) [
    | inl (f, le) ↦ (omega (arith, some), le)
    | inr (f, _) ↦ absurd (cc (rw (e, f) at none))
  ]
]

keys_pass : (n : ℕ) (xs : List Bytes) → bad_key n xs ≡ None → (i : ℕ) (d : Bytes) → i < length xs
    → IsKeyLength (get_or xs i d)
unfolding bad_key
keys_pass n [] none i d lt = absurd (omega (arith, lt))
keys_pass n (x ∷ xs) none i d lt = by (key_fault n x) refl none i lt (λ rest j. keys_pass (n + 1) xs rest j d)
  where
    by : (o : Option ToolError) → key_fault n x ≡ o → or_else o (bad_key (n + 1) xs) ≡ None → (i : ℕ)
        → i < length (x ∷ xs)
        → (bad_key (n + 1) xs ≡ None → (j : ℕ) → j < length xs → IsKeyLength (get_or xs j d))
        → IsKeyLength (get_or (x ∷ xs) i d)
    by (Some e) is none i lt rest = absurd (cc none)
    by None is none zero lt rest = key_fault-none n x is
    by None is none (suc i) lt rest = rest none i (omega (arith, lt))

-- each of words that pass is a key
pub word_passes : {X : Type 0} (f : X → List ℕ) (xs : List X) (i : ℕ) (d : X) → i < length xs
    → bad_key 1 (map f xs) ≡ None → IsKeyLength (f (get_or xs i d))
word_passes f xs i d lt none =
    subst IsKeyLength (get_or-map f xs i d [] lt) (keys_pass 1 (map f xs) none i [] (rw (length-map xs f) lt))

-- the i-th word, which has number i + 1
module _ {X : Type 0} (f : X → List ℕ) (xs : List X) (i : ℕ) (d : X) (word : List ℕ)
    (is : word ≡ f (get_or xs i d)) (lt : i < length xs) (whole : Option ToolError)
    (so_far : bad_key (i + 1) (drop i (map f xs)) ≡ whole) where
  keys_next : or_else (key_fault (i + 1) word) (bad_key (i + 1 + 1) (drop (i + 1) (map f xs))) ≡ whole
  unfolding bad_key
  keys_next = ap (bad_key (i + 1)) (sym (drop_contents f xs i d word is lt)) ∙ so_far

  -- it passed
  pub keys_go_on : key_fault (i + 1) word ≡ None → bad_key (i + 1 + 1) (drop (i + 1) (map f xs)) ≡ whole
  keys_go_on none = rw none at keys_next

  -- it failed
  pub keys_stop : {e : ToolError} → key_fault (i + 1) word ≡ Some e → whole ≡ Some e
  keys_stop bad = sym keys_next ∙ rw bad refl

-- no word is left
pub keys_end : {X : Type 0} (f : X → List ℕ) (xs : List X) (i n : ℕ) (whole : Option ToolError)
    → length xs ≤ i → bad_key n (drop i (map f xs)) ≡ whole → whole ≡ None
unfolding bad_key
keys_end f xs i n whole le so_far = sym so_far ∙ rw (drop_all i (map f xs) (rw (length-map xs f) le)) refl
