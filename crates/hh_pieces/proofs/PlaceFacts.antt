-- Places in a text and the states of csv's machine.
use Rattle.std.proofs.Common.{◌≡◌, ◌≤◌, ◌<◌, ◌+◌, ◌-◌, ◌∙◌, ◌==◌, ◌∷◌, ℕ, suc, zero, List, [], length, take, drop, get_or, Bool, true, false, Option, Some, None, refl, sym, ap, arith, length-drop, subst}
use Rattle.std.specs.Prelude.{◌||◌, ◌&&◌, fold, if◌then◌else◌, slice_range}
use Rattle.std.proofs.lemmas.Bool.{eq-eqb, eqb-true, false≢true}
use Rattle.std.proofs.lemmas.List.{drop_more, get_or-drop}
use native.Mathlib.Decide.{dec_lt}
use Rattle.memchr.specs.Find.{IsLast, IsLastByte, NoneAfter, Nowhere, is_byte}
use Rattle.csv.specs.Machine.{after_end, in_field, start_field, start_record, step}
use Rattle.csv.specs.Reading.{is_bom, strip_bom}
use Rattle.csv.specs.declared.parser.Config.{Config}
use Rattle.csv.specs.declared.parser.State.{State}
use Rattle.csv.specs.declared.parser.State.TheVariants as st
use Rattle.csv.specs.declared.parser.Action.{Action}
use Rattle.csv.specs.declared.parser.Action.TheVariants as act
use Rattle.csv.specs.declared.parser.Terminator.TheVariants as term
use Rattle.hh_pieces.specs.declared.cuts.QuoteState.{QuoteState}
use Rattle.hh_pieces.specs.declared.cuts.QuoteState.TheVariants as place
use Rattle.hh_records.specs.Layouts.{configured, delimited}
use Rattle.hh_pieces.specs.Pieces.{IsCutAt, begins_with_feed, ends_outside, is_outside, state_after}
use Rattle.hh_pieces.specs.Quotes.{IsFeedAt, is_open, mark_len, place_after, place_next, plain_after}
use Rattle.hh_pieces.proofs.QuoteFacts.{rest-all}

abbrev place_of : State → QuoteState
place_of st.StartRecord = place.Start
place_of st.StartField = place.Start
place_of st.InField = place.Field
place_of st.InQuoted = place.Quoted
place_of st.AfterQuote = place.Left
place_of st.InEscape = place.Quoted
place_of st.InComment = place.Quoted
place_of st.AfterCr = place.Start

-- the states that a text comes to where there are no escapes and no comments
abbrev is_usual : State → Bool
is_usual st.StartRecord = true
is_usual st.StartField = true
is_usual st.InField = true
is_usual st.InQuoted = true
is_usual st.AfterQuote = true
is_usual st.InEscape = false
is_usual st.InComment = false
is_usual st.AfterCr = true

-- the state is a usual one, of this place
At : QuoteState → State × Action → Type 0
At p q = (place_of q.0 ≡ p) × (is_usual q.0 ≡ true)

at-if : (b : Bool) (p1 p2 : QuoteState) (q1 q2 : State × Action) → At p1 q1 → At p2 q2
    → At (if b then p1 else p2) (if b then q1 else q2)
at-if true p1 p2 q1 q2 h k = h
at-if false p1 p2 q1 q2 h k = k

at-end : (c : ℕ) → At place.Start (after_end term.CRLF c, act.EndRecord)
unfolding At
at-end c = by (c == 13)
  where
    by : (b : Bool) → (place_of (if b then st.AfterCr else st.StartRecord) ≡ place.Start)
        × (is_usual (if b then st.AfterCr else st.StartRecord) ≡ true)
    by true = (refl, refl)
    by false = (refl, refl)

can-outside : (s : State) → is_outside s ≡ is_open (place_of s)
can-outside st.StartRecord = refl
can-outside st.StartField = refl
can-outside st.InField = refl
can-outside st.InQuoted = refl
can-outside st.AfterQuote = refl
can-outside st.InEscape = refl
can-outside st.InComment = refl
can-outside st.AfterCr = refl

module _ (d : ℕ) where
  at-in-field : (c : ℕ) → At (plain_after d c) (in_field (delimited d) c)
  unfolding At
  at-in-field c =
      at-if (c == d) place.Start _ (st.StartField, act.EndField) _ (refl, refl)
      (at-if ((c == 13) || (c == 10)) place.Start place.Field (after_end term.CRLF c, act.EndRecord) (st.InField, act.Copy)
      (at-end c) (refl, refl))

  at-start-field : (c : ℕ) → At (if c == 34 then place.Quoted else plain_after d c) (start_field (delimited d) c)
  unfolding At
  at-start-field c =
      at-if (c == 34) place.Quoted (plain_after d c) (st.InQuoted, act.Skip) (in_field (delimited d) c) (refl, refl)
      (at-in-field c)

  -- the end of a line is the start of a field
  end-start : (c : ℕ) → ((c == 13) || (c == 10)) ≡ true → place_next d place.Start c ≡ place.Start
  end-start c h = by (c == 13) refl
    where
      start : (b : Bool) → (if b then place.Start else place.Start) ≡ place.Start
      start true = refl
      start false = refl

      by : (b : Bool) → (c == 13) ≡ b → place_next d place.Start c ≡ place.Start
      by true e = ap (place_next d place.Start) (eqb-true c 13 e) ∙ start (13 == d)
      by false e = ap (place_next d place.Start) (eqb-true c 10 (rw e at h)) ∙ start (10 == d)

  at-start-record : (c : ℕ) → At (place_next d place.Start c) (start_record (delimited d) c)
  unfolding At
  at-start-record c = by ((c == 13) || (c == 10)) refl
    where
      by : (b : Bool) → ((c == 13) || (c == 10)) ≡ b
          → At (place_next d place.Start c) (if b then (st.StartRecord, act.Skip) else start_field (delimited d) c)
      by true e = (sym (end-start c e), refl)
      by false e = at-start-field c

  at-step : (s : State) (c : ℕ) → is_usual s ≡ true → At (place_next d (place_of s) c) (step (delimited d) s c)
  unfolding At
  at-step st.StartRecord c u = at-start-record c
  at-step st.StartField c u = at-start-field c
  at-step st.InField c u = at-in-field c
  at-step st.InQuoted c u =
      at-if (c == 34) place.Left place.Quoted (st.AfterQuote, act.Skip) (st.InQuoted, act.Copy) (refl, refl) (refl, refl)
  at-step st.AfterQuote c u =
      at-if (c == 34) place.Quoted (plain_after d c) (st.InQuoted, act.Copy) (in_field (delimited d) c) (refl, refl)
      (at-in-field c)
  at-step st.InEscape c u = absurd (false≢true u)
  at-step st.InComment c u = absurd (false≢true u)
  at-step st.AfterCr c u = by (c == 10) refl
    where
      either : (b : Bool) → (b || true) ≡ true
      either true = refl
      either false = refl

      by : (b : Bool) → (c == 10) ≡ b
          → At (place_next d place.Start c) (if b then (st.StartRecord, act.Skip) else start_record (delimited d) c)
      by true e = (sym (end-start c (rw e (either (c == 13)))), refl)
      by false e = at-start-record c

  at-run : (xs : List ℕ) (s : State) (p : QuoteState) → place_of s ≡ p → is_usual s ≡ true
      → (place_of (state_after (delimited d) s xs) ≡ fold (place_next d) p xs) × (is_usual (state_after (delimited d) s xs) ≡ true)
  unfolding At
  at-run [] s p e u = (e, u)
  at-run (c ∷ xs) s p e u =
      let h = at-step s c u in
      at-run xs (step (delimited d) s c).0 (place_next d p c) (h.0 ∙ ap (λ p. place_next d p c) e) h.1

  -- a text may be cut where the place after it is outside quotes
  pub cut-place : (xs : List ℕ) → is_outside (state_after (delimited d) st.StartRecord xs) ≡ is_open (place_after d xs)
  cut-place xs =
      can-outside (state_after (delimited d) st.StartRecord xs) ∙ ap is_open (at-run xs st.StartRecord place.Start refl refl).0

-- ---- the byte order mark
marked-take : (a b c : ℕ) (rest : List ℕ) (n at : ℕ) → n ≡ 3 + at → is_bom a b c ≡ true
    → strip_bom (take n (a ∷ b ∷ c ∷ rest)) ≡ take at rest
unfolding strip_bom
marked-take a b c rest n at e m =
    let same : n ≡ suc (suc (suc at)) = omega (arith, e) in
    rw (same, m) refl

plain-take : (text : List ℕ) (n : ℕ) → mark_len text ≡ 0 → strip_bom (take n text) ≡ take n text
unfolding strip_bom
plain-take text zero m = refl
plain-take [] (suc n) m = refl
plain-take (a ∷ []) (suc zero) m = refl
plain-take (a ∷ []) (suc (suc n)) m = refl
plain-take (a ∷ b ∷ rest) (suc zero) m = refl
plain-take (a ∷ b ∷ rest) (suc (suc zero)) m = refl
plain-take (a ∷ b ∷ []) (suc (suc (suc n))) m = refl
plain-take (a ∷ b ∷ c ∷ rest) (suc (suc (suc n))) m = by (is_bom a b c) m
  where
    by : (e : Bool) → ◌≡◌ {A = ℕ} (if e then 3 else 0) 0
        → (if e then take n rest else a ∷ b ∷ c ∷ take n rest) ≡ a ∷ b ∷ c ∷ take n rest
    by true m = absurd (omega (arith, m))
    by false m = refl

-- what is left of a part when the mark is taken off
pub strip-take : (text : List ℕ) (n at : ℕ) → n ≡ mark_len text + at
    → strip_bom (take n text) ≡ take at (drop (mark_len text) text)
strip-take [] n at e = let same : n ≡ at = omega (arith, e) in plain-take [] n refl ∙ ap (λ m. take m []) same
strip-take (a ∷ []) n at e =
    let same : n ≡ at = omega (arith, e) in plain-take (a ∷ []) n refl ∙ ap (λ m. take m (a ∷ [])) same
strip-take (a ∷ b ∷ []) n at e =
    let same : n ≡ at = omega (arith, e) in plain-take (a ∷ b ∷ []) n refl ∙ ap (λ m. take m (a ∷ b ∷ [])) same
strip-take (a ∷ b ∷ c ∷ rest) n at e = by (is_bom a b c) refl e
  where
    by : (m : Bool) → is_bom a b c ≡ m → n ≡ (if m then 3 else 0) + at
        → strip_bom (take n (a ∷ b ∷ c ∷ rest)) ≡ take at (drop (if m then 3 else 0) (a ∷ b ∷ c ∷ rest))
    by true m e = marked-take a b c rest n at e m
    by false m e =
        let same : n ≡ at = omega (arith, e) in
        plain-take (a ∷ b ∷ c ∷ rest) n (rw m refl) ∙ ap (λ k. take k (a ∷ b ∷ c ∷ rest)) same

-- no byte of the mark is a line feed
mark-bytes : (text : List ℕ) (k : ℕ) → k < mark_len text → get_or text k 0 ≡ 10 → ⊥
mark-bytes [] k l f = absurd (omega (arith, l))
mark-bytes (a ∷ []) k l f = absurd (omega (arith, l))
mark-bytes (a ∷ b ∷ []) k l f = absurd (omega (arith, l))
mark-bytes (a ∷ b ∷ c ∷ rest) k l f = by (a == 0xEF) (b == 0xBB) (c == 0xBF) refl refl refl l
  where
    at : (k : ℕ) → k < 3 → a ≡ 0xEF → b ≡ 0xBB → c ≡ 0xBF → get_or (a ∷ b ∷ c ∷ rest) k 0 ≡ 10 → ⊥
    at zero l p q r f = absurd (omega (arith, p, f))
    at (suc zero) l p q r f = absurd (omega (arith, q, f))
    at (suc (suc zero)) l p q r f = absurd (omega (arith, r, f))
    at (suc (suc (suc k))) l p q r f = absurd (omega (arith, l))

    by : (x y z : Bool) → (a == 0xEF) ≡ x → (b == 0xBB) ≡ y → (c == 0xBF) ≡ z → k < (if x && y && z then 3 else 0) → ⊥
    by true true true p q r l = at k l (eqb-true a 0xEF p) (eqb-true b 0xBB q) (eqb-true c 0xBF r) f
    by true true false p q r l = absurd (omega (arith, l))
    by true false z p q r l = absurd (omega (arith, l))
    by false y z p q r l = absurd (omega (arith, l))

pub strip-drop : (text : List ℕ) → strip_bom text ≡ drop (mark_len text) text
unfolding strip_bom
strip-drop [] = refl
strip-drop (a ∷ []) = refl
strip-drop (a ∷ b ∷ []) = refl
strip-drop (a ∷ b ∷ c ∷ rest) = by (is_bom a b c)
  where
    by : (m : Bool) → (if m then rest else a ∷ b ∷ c ∷ rest) ≡ drop (if m then 3 else 0) (a ∷ b ∷ c ∷ rest)
    by true = refl
    by false = refl

-- ---- cuts
pub line-drop : (text : List ℕ) (n : ℕ) → n < length text
    → begins_with_feed (drop n text) ≡ (get_or text n 0 == 10)
line-drop text n l = ap begins_with_feed (drop_more text n 0 l)

-- the cuts of a text are the line feeds outside quotes of what stands after the mark
module _ (d : ℕ) (other : (d == 10) ≡ false) (text : List ℕ) (mark : ℕ) (is : mark ≡ mark_len text) where
  body-at : (at : ℕ) → get_or (drop mark text) at 0 ≡ get_or text (mark + at) 0
  body-at at = get_or-drop mark text at 0

  cut-state : (at : ℕ) → is_outside (state_after (delimited d) st.StartRecord (strip_bom (take (mark + at) text)))
      ≡ is_open (place_after d (take at (drop mark text)))
  cut-state at =
      let sum : mark + at ≡ mark_len text + at = ap (λ m. m + at) is in
      ap (λ (xs : List ℕ). is_outside (state_after (delimited d) st.StartRecord xs)) (strip-take text (mark + at) at sum)
      ∙ cut-place d (take at (drop (mark_len text) text))
      ∙ ap (λ m. is_open (place_after d (take at (drop m text)))) (sym is)

  cut-from-line : (at : ℕ) → mark + at < length text → IsFeedAt d (drop mark text) at → IsCutAt (delimited d) text (mark + at)
  cut-from-line at l h = record {
    outside = rw other (cut-state at ∙ h.outside);
    feed = line-drop text (mark + at) l ∙ eq-eqb (get_or text (mark + at) 0) 10 (sym (body-at at) ∙ h.feed);
  }

  line-from-cut : (at : ℕ) → mark + at < length text → IsCutAt (delimited d) text (mark + at) → IsFeedAt d (drop mark text) at
  line-from-cut at l h = record {
    feed = body-at at ∙ eqb-true (get_or text (mark + at) 0) 10 (sym (line-drop text (mark + at) l) ∙ h.feed);
    outside = sym (cut-state at) ∙ (rw other at h.outside);
  }

  -- a cut stands after the mark
  cut-after : (k : ℕ) → k < length text → IsCutAt (delimited d) text k → mark ≤ k
  cut-after k l h =
      let feed = eqb-true (get_or text k 0) 10 (sym (line-drop text k l) ∙ h.feed) in
      elim (dec_lt k mark) [
        | yes below ↦ absurd (mark-bytes text k (omega (arith, below, is)) feed)
        | no above ↦ omega (arith, above)
      ]

  line-at-cut : (k : ℕ) → k < length text → IsCutAt (delimited d) text k
      → (at : ℕ) × (k ≡ mark + at) × IsFeedAt d (drop mark text) at
  line-at-cut k l h =
      let behind = cut-after k l h in
      let at : ℕ = k - mark in
      let same : k ≡ mark + at = omega (arith, behind) in
      (at, same, line-from-cut at (omega (arith, l, same)) (subst (IsCutAt (delimited d) text) same h))

  pub cut-none : Nowhere (IsFeedAt d (slice_range text mark (length text))) 0 (length (slice_range text mark (length text)))
      → Nowhere (IsCutAt (delimited d) text) 0 (length text)
  cut-none none k a b h =
      let g = rw (rest-all text mark) at none in
      let (at, same, line) = line-at-cut k b h in
      g at (omega arith) (omega (arith, b, same, length-drop mark text)) line

  pub cut-some : (at : ℕ)
      → NoneAfter (IsFeedAt d (slice_range text mark (length text))) 0 (length (slice_range text mark (length text))) at
      → IsFeedAt d (slice_range text mark (length text)) at
      → NoneAfter (IsCutAt (delimited d) text) 0 (length text) (mark + at) × IsCutAt (delimited d) text (mark + at)
  cut-some at none line =
      let g = rw (rest-all text mark) at none in
      let within : mark + at < length text = omega (arith, g.high, length-drop mark text) in (
        record {
          low = omega arith;
          high = within;
          after = λ k a b h.
              let (later, same, other) = line-at-cut k b h in
              g.after later (omega (arith, a, same)) (omega (arith, b, same, length-drop mark text)) other;
        },
        cut-from-line at within (rw (rest-all text mark) at line),
      )

  -- whether the text ends outside quotes, by the place after it
  pub ends-open : (p : QuoteState) → p ≡ place_after d (slice_range text mark (length text)) → is_open p ≡ ends_outside (delimited d) text
  ends-open p h =
      ap is_open (h ∙ ap (place_after d) (rest-all text mark ∙ ap (λ m. drop m text) is ∙ sym (strip-drop text)))
      ∙ sym (cut-place d (strip_bom text))
      ∙ rw other refl

-- where fields are cut at line feeds, there is no cut
pub no-cut : (config : Config) (text : List ℕ) → config.delimiter ≡ 10 → Nowhere (IsCutAt config text) 0 (length text)
no-cut config text e k a b h = absurd (false≢true (rw e at h.outside))

pub not-outside-feed : (config : Config) (text : List ℕ) → config.delimiter ≡ 10 → false ≡ ends_outside config text
not-outside-feed config text e = rw e refl

-- ---- where a quote is a byte as any other
outside-if : (b : Bool) (p q : State × Action) → is_outside p.0 ≡ true → is_outside q.0 ≡ true
    → is_outside (if b then p else q).0 ≡ true
outside-if true p q h k = h
outside-if false p q h k = k

module _ (d : ℕ) where
  abbrev plain : Config
  plain = configured false d

  outside-in-field : (c : ℕ) → is_outside (in_field plain c).0 ≡ true
  outside-in-field c =
      outside-if (c == d) (st.StartField, act.EndField) _ refl
      (outside-if ((c == 13) || (c == 10)) (after_end term.CRLF c, act.EndRecord) (st.InField, act.Copy) (by (c == 13)) refl)
    where
      by : (b : Bool) → is_outside (if b then st.AfterCr else st.StartRecord) ≡ true
      by true = refl
      by false = refl

  outside-start-record : (c : ℕ) → is_outside (start_record plain c).0 ≡ true
  outside-start-record c =
      outside-if ((c == 13) || (c == 10)) (st.StartRecord, act.Skip) (in_field plain c) refl (outside-in-field c)

  outside-step : (s : State) (c : ℕ) → is_outside s ≡ true → is_outside (step plain s c).0 ≡ true
  outside-step st.StartRecord c h = outside-start-record c
  outside-step st.StartField c h = outside-in-field c
  outside-step st.InField c h = outside-in-field c
  outside-step st.AfterQuote c h = outside-in-field c
  outside-step st.AfterCr c h =
      outside-if (c == 10) (st.StartRecord, act.Skip) (start_record plain c) refl (outside-start-record c)
  outside-step st.InQuoted c h = absurd (false≢true h)
  outside-step st.InEscape c h = absurd (false≢true h)
  outside-step st.InComment c h = absurd (false≢true h)

  outside-all : (xs : List ℕ) (s : State) → is_outside s ≡ true → is_outside (state_after plain s xs) ≡ true
  outside-all [] s h = h
  outside-all (c ∷ xs) s h = outside-all xs (step plain s c).0 (outside-step s c h)

  pub plain-outside : (d == 10) ≡ false → (text : List ℕ) → ends_outside plain text ≡ true
  plain-outside other text = rw other (outside-all (strip_bom text) st.StartRecord refl)

  -- each line feed is a cut
  pub plain-cuts : (d == 10) ≡ false → (text : List ℕ) (last : Option ℕ)
      → IsLastByte (is_byte 10) text last → IsLast (IsCutAt plain text) 0 (length text) last
  plain-cuts other text None none = λ k a b cut. none k a b (sym (line-drop text k b) ∙ cut.feed)
  plain-cuts other text (Some at) (none, here) = (
    record {
      low = none.low;
      high = none.high;
      after = λ k a b cut. none.after k a b (sym (line-drop text k b) ∙ cut.feed);
    },
    record { outside = plain-outside other (take at text); feed = line-drop text at none.high ∙ here },
  )
