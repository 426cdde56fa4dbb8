-- Sources that are read from their starts.
use Rattle.std.proofs.Common.{◌≡◌, ◌<◌, ◌+◌, ◌++◌, ◌∙◌, ℕ, suc, Bool, true, false, List, [], ◌∷◌, drop, length, get_or, Option, Some, None, Result, Ok, Err, refl, sym, ap, add-one, arith, drop-cons}
use Rattle.std.specs.Prelude.{IfErr, IfOk, IfSome, IsOk, OnOk, option_map}
use Rattle.std.specs.Result.{is_err}
use Rattle.std.proofs.lemmas.Bool.{false≢true}
use Rattle.hh_stream.specs.Weights.{Entry}
use Rattle.hh_pieces.specs.Sources.{IsKnownStill}
use Rattle.hh_records.specs.Layouts.{TextsRefused, every, gathered, items_after, stream_with}
use Rattle.hh_records.specs.Streams.{Reading}
use Rattle.hh_records.specs.Taking.{TakesItems}
use Rattle.hh_records.specs.declared.layout.Layout.{Layout}
use Rattle.hh_pieces.specs.declared.read_at.FromPlace.{FromPlace}
use Rattle.hh_faults.specs.declared.records.TextError.{TextError}
use Rattle.hh_faults.specs.declared.records.TextError.TheVariants as text
use Rattle.hh_pieces.proofs.FileFacts.{every-at}
use Rattle.hh_pieces.proofs.KnownFacts.{KnownSoFar, known-first, known-more}

-- the bytes that what reads a source has left
abbrev pub reader_left : {S : Type 0} → (S → Option (List ℕ)) → FromPlace S → Option (List ℕ)
reader_left bytes r = option_map (drop r.at) (bytes r.source.now)

-- one element of a slice more is known
pub known-next : {A B C : Type 0} (f : A → Option C) (g : B → Option C) (all : List A) (i : ℕ) (x : A) (ys : List B) (y : B)
    → i < length all → x ≡ get_or all i x → KnownSoFar f g all (drop i all) ys → IsKnownStill (f x) (g y)
    → KnownSoFar f g all (drop (i + 1) all) (ys ++ y ∷ [])
known-next f g all i x ys y l e h k =
    let next : drop i all ≡ x ∷ drop (i + 1) all = rw (add-one, drop-cons all i x) (ap (λ z. z ∷ drop (suc i) all) (sym e)) in
    known-more f g all x (drop (i + 1) all) ys y (rw next at h) k

-- of sources whose bytes are all known none is found to be changed
is-no-error : {A E : Type 0} (r : Result A E) → IsOk r → is_err r ≡ true → ⊥
is-no-error (Ok x) ok bad = false≢true bad
is-no-error (Err e) ok bad = false≢true ok

pub where-no-error : {A E P : Type 0} (r : Result A E) → OnOk r P → is_err r ≡ false → P
where-no-error (Ok x) h none = h
where-no-error (Err e) h none = absurd (false≢true (sym none))

pub none-changed : {S A E : Type 0} (P : Type 0) (f : S → Option (List ℕ)) (all : List S) (i : ℕ) (x : S) (r : Result A E)
    → i < length all → x ≡ get_or all i x → IfSome (f x) (λ _. IsOk r) → is_err r ≡ true → IfSome (every f all) (λ _. P)
none-changed P f all i x r l is known bad = by (every f all) refl
  where
    by : (o : Option (List (List ℕ))) → every f all ≡ o → IfSome o (λ _. P)
    by None e = tt
    by (Some texts) e =
        let told : f x ≡ Some (get_or texts i []) = ap f is ∙ every-at f all texts i x [] e l in
        absurd (is-no-error r (rw told at known) bad)

-- no texts are no records
pub none-read : {S : Type 0} (f : S → Option (List ℕ)) (layout : Layout) (sources : List S) → length sources ≡ 0
    → IfSome (option_map (stream_with layout) (every f sources)) (λ s. s ≡ Some (Ok []))
unfolding every gathered items_after
none-read f layout [] e = refl
none-read f layout (x ∷ xs) e = absurd (omega (arith, e))

-- what some sources have is known of the readers of the first and of the others
pub readers-still : {A B C : Type 0} (f : A → Option C) (g : B → Option C) (all : List A) (x : A) (xs : List A) (y : B)
    (ys : List B) → all ≡ x ∷ xs → IsKnownStill (f x) (g y) → IsKnownStill (every f xs) (every g ys)
    → IsKnownStill (every f all) (every g (y ∷ ys))
readers-still f g all x xs y ys e h k = rw e (known-first f g x xs y ys h k)

module _ (layout : Layout) (o p : Option (List (List ℕ))) (still : IsKnownStill o p) where
  -- what texts read as that are known still is what they were
  pub reads-still : (r : Reading) → IfSome (option_map (stream_with layout) p) (λ s. s ≡ Some r)
      → IfSome (option_map (stream_with layout) o) (λ s. s ≡ Some r)
  reads-still r = by o still
    where
      by : (o : Option (List (List ℕ))) → IsKnownStill o p → IfSome (option_map (stream_with layout) p) (λ s. s ≡ Some r)
          → IfSome (option_map (stream_with layout) o) (λ s. s ≡ Some r)
      by None h k = tt
      by (Some texts) h k = rw h at k

  -- and so is what a refusal tells of them
  pub refused-still : (names : Bool) (e : TextError) → TextsRefused (record {
    names_columns = names;
    reading = option_map (stream_with layout) p;
  }) e → TextsRefused (record { names_columns = names; reading = option_map (stream_with layout) o }) e
  refused-still names text.ReadFault k = tt
  refused-still names text.Memory k = tt
  refused-still names (text.BadRecord n c) k = reads-still (Err (n, c)) k
  refused-still names text.NoColumn k = (k.0, by o still k.1)
    where
      by : (o : Option (List (List ℕ))) → IsKnownStill o p → IfSome (option_map (stream_with layout) p) (λ r. r ≡ None)
          → IfSome (option_map (stream_with layout) o) (λ r. r ≡ None)
      by None h k = tt
      by (Some texts) h k = rw h at k

  -- what was taken of the one was taken of the other
  pub taken-still : {A E : Type 0} (with_item : A → Entry → A) (names : Bool) (old : A) (r : Result A E)
      → IfOk r (TakesItems with_item (record { names_columns = names; reading = option_map (stream_with layout) p }) old)
      → IfOk r (TakesItems with_item (record { names_columns = names; reading = option_map (stream_with layout) o }) old)
  taken-still with_item names old (Ok x) t = record {
    xs = t.xs;
    reads = reads-still (Ok t.xs) t.reads;
    positive = t.positive;
    taken = t.taken;
  }
  taken-still with_item names old (Err e) t = tt

  pub told-still : {A : Type 0} (names : Bool) (r : Result A TextError)
      → IfErr r (TextsRefused (record { names_columns = names; reading = option_map (stream_with layout) p }))
      → IfErr r (TextsRefused (record { names_columns = names; reading = option_map (stream_with layout) o }))
  told-still names (Ok x) h = tt
  told-still names (Err e) h = refused-still names e h
