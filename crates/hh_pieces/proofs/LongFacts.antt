-- What is kept of a record that is read byte by byte.
use Rattle.std.proofs.Common.{◌≡◌, ◌≤◌, ◌<◌, ◌+◌, ◌∷◌, ◌++◌, ◌∙◌, ℕ, suc, zero, List, [], drop, length, take, Bool, true, false, Option, Some, None, refl, sym, ap, arith, append_assoc, append-nil}
use Rattle.std.specs.Bool.{MatchBool}
use Rattle.std.specs.Prelude.{◌==◌, ◌&&◌, ◌||◌, ⊤, not, get_or, if◌then◌else◌, option_map}
use Rattle.std.specs.Io.KnownBytes.{Consumes, IsAtEnd, Keeps, prepend_known}
use Rattle.std.proofs.lemmas.Bool.{eqb-true, false≢true}
use Rattle.std.proofs.lemmas.Grind.{fold-append}
use Rattle.std.proofs.lemmas.List.{take_more}
use Rattle.csv.specs.Machine.{Feeds, Read, ends_at_end, field_after, fields_after, is_end, line_feed, next_record, step}
use Rattle.csv.specs.Reading.{NextIs, ReadsNext, is_bom, records, records_from, records_next, strip_bom}
use Rattle.csv.specs.declared.parser.Config.{Config}
use Rattle.csv.specs.declared.parser.State.{State}
use Rattle.csv.specs.declared.parser.State.TheVariants as st
use Rattle.csv.proofs.ReadFacts.{Tracks, feeds-push, keeps-read, prepend-nil, tracks-fed, tracks-keep, tracks-last, tracks-none, tracks-start}
use Rattle.hh_records.specs.Layouts.{configured}
use Rattle.hh_records.specs.Streams.{Fields}
use Rattle.hh_pieces.proofs.CutFacts.{no-records, runs, runs-all, runs-next}
use Rattle.hh_pieces.proofs.PlaceFacts.{strip-drop}
use Rattle.hh_pieces.specs.Lines.{is_line_end}
use Rattle.hh_pieces.specs.Pieces.{is_outside, state_after}
use Rattle.hh_pieces.specs.Quotes.{mark_len}
use Rattle.hh_pieces.specs.LongRecords.{Holds, IsFed, IsFresh, LeavesOutside, LeavesRecords, filled, first_ones, kept_of, state_of}
use Rattle.hh_pieces.specs.declared.long_record.Limits.{Limits}
use Rattle.hh_pieces.specs.declared.long_record.LongRecord.{LongRecord}

-- of no fields nothing is kept
ones-none : {A : Type 0} (most : Option ℕ) → first_ones {A = A} most [] ≡ []
ones-none None = refl
ones-none (Some zero) = refl
ones-none (Some (suc n)) = refl

filled-none : (squeezes : Bool) → filled squeezes [] ≡ []
filled-none false = refl
filled-none true = refl

pub fresh-holds : (limits : Limits) (rec : LongRecord) → IsFresh rec → Holds limits rec [] []
fresh-holds limits rec fresh = (
  fresh.0 ∙ sym (ap (first_ones limits.fields) (filled-none limits.squeezes) ∙ ones-none limits.fields),
  fresh.1,
  fresh.2 ∙ sym (ones-none limits.bytes),
)

pub fresh-tracks : (cfg : Config) (p : Option (List ℕ)) (rec : LongRecord) → IsFresh rec
    → Tracks cfg st.StartRecord p (state_of rec.spot) [] [] p
fresh-tracks cfg p rec fresh = rw fresh.3 (tracks-start cfg st.StartRecord p)

-- one byte more of a record
pub fed-more : (cfg : Config) (limits : Limits) (old mid new : LongRecord) (text : List ℕ) (i : ℕ) (ended : Bool)
    → i < length text → IsFed cfg limits old (take i text) mid false
    → ended ≡ is_end (step cfg (state_of mid.spot) (get_or text i 0)).1
    → state_of new.spot ≡ (step cfg (state_of mid.spot) (get_or text i 0)).0
    → ((fs : Fields) (f : List ℕ) → Holds limits mid fs f
    → Holds limits new (fields_after (step cfg (state_of mid.spot) (get_or text i 0)).1 fs f)
    (field_after (step cfg (state_of mid.spot) (get_or text i 0)).1 (get_or text i 0) f))
    → IsFed cfg limits old (take (i + 1) text) new ended
fed-more cfg limits old mid new text i ended within fed is_ended is_spot holds fs f h =
    let (gs, g, held, feeds) = fed fs f h in
    let c : ℕ = get_or text i 0 in
    let a = (step cfg (state_of mid.spot) c).1 in (
      fields_after a gs g,
      field_after a c g,
      holds gs g held,
      rw (is_ended, is_spot, take_more text i 0 within)
          (feeds-push cfg (state_of old.spot) (state_of mid.spot) fs gs f g (take i text) c feeds),
    )

-- ---- the records that are left
-- those of a text without a mark
abbrev pub LeavesRows : Config → Limits → Option (List ℕ) → Option (List ℕ) → Bool → Fields → Type 0
LeavesRows config limits None after found row = ⊤
LeavesRows config limits (Some xs) None found row = ⊥
LeavesRows config limits (Some xs) (Some ys) true row =
    (fs : Fields) × (row ≡ kept_of limits fs) × (records config xs ≡ fs ∷ records config ys) × (strip_bom ys ≡ ys)
LeavesRows config limits (Some xs) (Some ys) false row = (records config xs ≡ []) × (ys ≡ [])

-- those of a text whose mark was removed
pub leaves-marked : (config : Config) (limits : Limits) (p0 p q : Option (List ℕ)) (found : Bool) (row : Fields)
    → Keeps (option_map strip_bom p0) p → LeavesRows config limits p q found row → LeavesRecords config limits p0 q found row
unfolding strip_bom
leaves-marked config limits None p q found row k h = tt
leaves-marked config limits (Some xs) None q found row k h = absurd k
leaves-marked config limits (Some xs) (Some zs) None found row k h = h
leaves-marked config limits (Some xs) (Some zs) (Some ys) true row k (fs, kept, all, none) =
    (fs, kept, rw (← k, none) all)
leaves-marked config limits (Some xs) (Some zs) (Some ys) false row k h =
    (rw (← k) h.0, ap (λ t. records config (strip_bom t)) h.1 ∙ no-records config)

-- a mark at the front of what is held
marked-front : (held rest : List ℕ) → 3 ≤ length held → strip_bom (held ++ rest) ≡ drop (mark_len held) held ++ rest
unfolding strip_bom
marked-front [] rest l = absurd (omega (arith, l))
marked-front (a ∷ []) rest l = absurd (omega (arith, l))
marked-front (a ∷ b ∷ []) rest l = absurd (omega (arith, l))
marked-front (a ∷ b ∷ c ∷ held) rest l = by (is_bom a b c)
  where
    by : (m : Bool) → (if m then held ++ rest else a ∷ b ∷ c ∷ held ++ rest)
        ≡ drop (if m then 3 else 0) (a ∷ b ∷ c ∷ held) ++ rest
    by true = refl
    by false = refl

pub mark-removed : (p0 k : Option (List ℕ)) (held : List ℕ) → Keeps p0 (prepend_known held k) → 3 ≤ length held
    → Keeps (option_map strip_bom p0) (prepend_known (drop (mark_len held) held) k)
mark-removed None k held h l = tt
mark-removed (Some xs) None held h l = h
mark-removed (Some xs) (Some rest) held h l = sym (marked-front held rest l) ∙ ap strip_bom h

pub mark-removed-last : (p0 k : Option (List ℕ)) (held : List ℕ) → Keeps p0 (prepend_known held k) → IsAtEnd k
    → Keeps (option_map strip_bom p0) (prepend_known (drop (mark_len held) held) k)
mark-removed-last None k held h end = tt
mark-removed-last (Some xs) None held h end = h
mark-removed-last (Some xs) (Some rest) held h end =
    let all : held ≡ xs = sym (append-nil held) ∙ ap (λ r. held ++ r) (sym end) ∙ h in
    rw end (append-nil (drop (mark_len held) held) ∙ sym (strip-drop held) ∙ ap strip_bom all)

-- more bytes are held
pub keeps-more : (p0 k k2 : Option (List ℕ)) (held more : List ℕ) → Keeps p0 (prepend_known held k) → Consumes k k2 more
    → Keeps p0 (prepend_known (held ++ more) k2)
keeps-more None k k2 held more h c = tt
keeps-more (Some xs) None k2 held more h c = absurd h
keeps-more (Some xs) (Some rest) None held more h c = absurd c
keeps-more (Some xs) (Some rest) (Some left) held more h c =
    append_assoc held more left ∙ ap (λ r. held ++ r) (sym c) ∙ h

module _ (cfg : Config) where
  -- those from the next one on
  next-runs : (s s2 : State) (f fs : Fields) (p xs ys : List ℕ) → next_record cfg s f p xs ≡ Some (fs, s2, ys)
      → runs cfg s f p xs ≡ fs ∷ runs cfg s2 [] [] ys
  unfolding records_from
  next-runs s s2 f fs p xs ys e =
      let m : ℕ = length xs + length ys in
      sym (runs-next cfg s f p xs (suc m) (omega arith))
      ∙ ap (records_next (records_from cfg (suc m))) e
      ∙ ap (λ (rs : List Fields). fs ∷ rs) (runs-next cfg s2 [] [] ys m (omega arith))

  -- where there is none
  none-runs : (s : State) (f : Fields) (p xs : List ℕ) → next_record cfg s f p xs ≡ None → runs cfg s f p xs ≡ []
  none-runs s f p xs e =
      sym (runs-next cfg s f p xs (length xs) (omega arith)) ∙ ap (records_next (records_from cfg (length xs))) e

module _ (quoting : Bool) (d : ℕ) where
  abbrev cfg : Config
  cfg = configured quoting d

  -- a line feed behind a carriage return is blank, as it is at the start of a record
  after-return : (ys : List ℕ) → runs cfg st.AfterCr [] [] ys ≡ runs cfg st.StartRecord [] [] ys
  unfolding runs
  after-return [] = refl
  after-return (c ∷ rest) = by (c == 10) refl
    where
      by : (b : Bool) → (c == 10) ≡ b → runs cfg st.AfterCr [] [] (c ∷ rest) ≡ runs cfg st.StartRecord [] [] (c ∷ rest)
      by true e = rw (eqb-true c 10 e) refl
      by false e = rw e refl

  -- between two records
  pub settled : (s : State) (ys : List ℕ) → ends_at_end s ≡ false → runs cfg s [] [] ys ≡ runs cfg st.StartRecord [] [] ys
  settled st.StartRecord ys e = refl
  settled st.AfterCr ys e = after-return ys
  settled st.StartField ys e = absurd (false≢true (sym e))
  settled st.InField ys e = absurd (false≢true (sym e))
  settled st.InQuoted ys e = absurd (false≢true (sym e))
  settled st.AfterQuote ys e = absurd (false≢true (sym e))
  settled st.InEscape ys e = absurd (false≢true (sym e))
  settled st.InComment ys e = absurd (false≢true (sym e))

  -- the byte that ended a record is blank before the next one
  line-end-blank : (c : ℕ) (ys : List ℕ) → is_line_end c ≡ true
      → runs cfg st.StartRecord [] [] (c ∷ ys) ≡ runs cfg st.StartRecord [] [] ys
  unfolding runs
  line-end-blank c ys e = rw e refl

  -- and no byte of a mark
  line-end-first : (c : ℕ) (ys : List ℕ) → is_line_end c ≡ true → strip_bom (c ∷ ys) ≡ c ∷ ys
  unfolding strip_bom
  line-end-first c [] e = refl
  line-end-first c (x ∷ []) e = refl
  line-end-first c (x ∷ y ∷ ys) e = by (c == 13) (c == 10) refl refl e
    where
      by : (a b : Bool) → (c == 13) ≡ a → (c == 10) ≡ b → (a || b) ≡ true
          → (if is_bom c x y then ys else c ∷ x ∷ y ∷ ys) ≡ c ∷ x ∷ y ∷ ys
      by true b e f h = rw (eqb-true c 13 e) refl
      by false true e f h = rw (eqb-true c 10 f) refl
      by false false e f h = absurd (false≢true h)

  -- a record was found that a line's end ends
  pub leaves-found : (limits : Limits) (p k : Option (List ℕ)) (c : ℕ) (rest : List ℕ) (fs row : Fields) (s : State)
      → ReadsNext cfg st.StartRecord p (prepend_known rest k) true fs s → row ≡ kept_of limits fs
      → is_line_end c ≡ true → ends_at_end s ≡ false
      → LeavesRows cfg limits p (prepend_known (c ∷ rest) k) true row
  leaves-found limits None k c rest fs row s h kept line between = tt
  leaves-found limits (Some xs) None c rest fs row s h kept line between = h
  leaves-found limits (Some xs) (Some ys) c rest fs row s h kept line between =
      (fs, kept, by (next_record cfg st.StartRecord [] [] xs) refl h, line-end-first c (rest ++ ys) line)
    where
      by : (o : Option Read) → next_record cfg st.StartRecord [] [] xs ≡ o → NextIs o true fs s (rest ++ ys)
          → records cfg xs ≡ fs ∷ records cfg (c ∷ rest ++ ys)
      by None e h = absurd (false≢true (sym h))
      by (Some q) e h =
          runs-all cfg xs
          ∙ next-runs cfg st.StartRecord s [] fs [] xs (rest ++ ys) (rw (h.1, h.2, h.3) e)
          ∙ ap (λ (rs : List Fields). fs ∷ rs) (settled s (rest ++ ys) between
          ∙ sym (line-end-blank c (rest ++ ys) line) ∙ sym (runs-all cfg (c ∷ rest ++ ys)))

  -- one that the end of the text ends, or none
  pub leaves-last : (limits : Limits) (p k : Option (List ℕ)) (fs row : Fields) (s : State)
      → ReadsNext cfg st.StartRecord p (prepend_known [] k) true fs s → ends_at_end s ≡ false → IsAtEnd k
      → row ≡ kept_of limits fs → LeavesRows cfg limits p (prepend_known [] k) true row
  unfolding strip_bom
  leaves-last limits None k fs row s h between end kept = tt
  leaves-last limits (Some xs) None fs row s h between end kept = h
  leaves-last limits (Some xs) (Some ys) fs row s h between end kept =
      (fs, kept, by (next_record cfg st.StartRecord [] [] xs) refl h, rw end refl)
    where
      by : (o : Option Read) → next_record cfg st.StartRecord [] [] xs ≡ o → NextIs o true fs s ys
          → records cfg xs ≡ fs ∷ records cfg ys
      by None e h = absurd (false≢true (sym h))
      by (Some q) e h =
          runs-all cfg xs ∙ next-runs cfg st.StartRecord s [] fs [] xs ys (rw (h.1, h.2, h.3) e)
          ∙ ap (λ (rs : List Fields). fs ∷ rs) (settled s ys between ∙ sym (runs-all cfg ys))

  pub leaves-none : (limits : Limits) (p k : Option (List ℕ)) (fs row : Fields) (s : State)
      → ReadsNext cfg st.StartRecord p (prepend_known [] k) false fs s → IsAtEnd k
      → LeavesRows cfg limits p (prepend_known [] k) false row
  leaves-none limits None k fs row s h end = tt
  leaves-none limits (Some xs) None fs row s h end = h
  leaves-none limits (Some xs) (Some ys) fs row s h end = (by (next_record cfg st.StartRecord [] [] xs) refl h, end)
    where
      by : (o : Option Read) → next_record cfg st.StartRecord [] [] xs ≡ o → NextIs o false fs s ys → records cfg xs ≡ []
      by None e h = runs-all cfg xs ∙ none-runs cfg st.StartRecord [] [] xs e
      by (Some q) e h = absurd (false≢true h.0)

  -- either, by the state there
  pub finished : (limits : Limits) (p k : Option (List ℕ)) (fs : Fields) (f : List ℕ) (s : State) (found : Bool) (row : Fields)
      → found ≡ ends_at_end s → Tracks cfg st.StartRecord p s fs f (prepend_known [] k) → IsAtEnd k
      → (found ≡ true → row ≡ kept_of limits (fs ++ f ∷ []))
      → LeavesRows cfg limits p (prepend_known [] k) found row
  finished limits p k fs f s true row is t end kept =
      leaves-last limits p k (fs ++ f ∷ []) row st.StartRecord
      (tracks-last cfg st.StartRecord s fs f p k (sym is) end t) refl end (kept refl)
  finished limits p k fs f s false row is t end kept =
      leaves-none limits p k fs row s (tracks-none cfg st.StartRecord s s fs fs f p k (sym is) end t) end

-- ---- where the machine stands
-- behind the bytes that a record was fed
fed-state : (cfg : Config) (s s2 : State) (f f2 : Fields) (p p2 x : List ℕ) (ended : Bool) → Feeds cfg s f p x s2 f2 p2 ended
    → state_after cfg s x ≡ s2
unfolding Feeds
fed-state cfg s s2 f f2 p p2 [] ended h = sym h.0
fed-state cfg s s2 f f2 p p2 (c ∷ x) ended h =
    by (is_end (step cfg s c).1) refl h (fed-state cfg (step cfg s c).0 s2 _ f2 _ p2 x ended)
  where
    by : (b : Bool) → is_end (step cfg s c).1 ≡ b
        → MatchBool (is_end (step cfg s c).1)
        ((x ≡ []) × (s2 ≡ (step cfg s c).0) × (f2 ≡ fields_after (step cfg s c).1 f p) × (p2 ≡ field_after (step cfg s c).1 c p) × (ended ≡ true))
        (Feeds cfg (step cfg s c).0 (fields_after (step cfg s c).1 f p) (field_after (step cfg s c).1 c p) x s2 f2 p2 ended)
        → (Feeds cfg (step cfg s c).0 (fields_after (step cfg s c).1 f p) (field_after (step cfg s c).1 c p) x s2 f2 p2 ended
        → state_after cfg (step cfg s c).0 x ≡ s2)
        → state_after cfg s (c ∷ x) ≡ s2
    by true e q more = let d = rw e at q in rw d.0 (sym d.1)
    by false e q more = more (rw e at q)

-- from the start of these bytes on it comes to the state that it comes to from here
abbrev pub StandsAt : Config → Option (List ℕ) → State → Option (List ℕ) → Type 0
StandsAt cfg None s q = ⊤
StandsAt cfg (Some xs) s None = ⊥
StandsAt cfg (Some xs) s (Some ys) = state_after cfg st.StartRecord xs ≡ state_after cfg s ys

pub stands-start : (cfg : Config) (p : Option (List ℕ)) (rec : LongRecord) → IsFresh rec → StandsAt cfg p (state_of rec.spot) p
stands-start cfg None rec fresh = tt
stands-start cfg (Some xs) rec fresh = rw fresh.3 refl

pub stands-fed : (cfg : Config) (p k : Option (List ℕ)) (s s2 : State) (fs gs : Fields) (f g bytes rest : List ℕ) (ended : Bool)
    → StandsAt cfg p s (prepend_known (bytes ++ rest) k) → Feeds cfg s fs f bytes s2 gs g ended
    → StandsAt cfg p s2 (prepend_known rest k)
stands-fed cfg None k s s2 fs gs f g bytes rest ended h feeds = tt
stands-fed cfg (Some xs) None s s2 fs gs f g bytes rest ended h feeds = h
stands-fed cfg (Some xs) (Some ys) s s2 fs gs f g bytes rest ended h feeds =
    h ∙ ap (state_after cfg s) (append_assoc bytes rest ys)
    ∙ fold-append (λ s c. (step cfg s c).0) s bytes (rest ++ ys)
    ∙ ap (λ s. state_after cfg s (rest ++ ys)) (fed-state cfg s s2 fs gs f g bytes ended feeds)

pub stands-on : (cfg : Config) (p k k2 : Option (List ℕ)) (s s2 : State) (fs gs : Fields) (f g bytes more : List ℕ)
    → StandsAt cfg p s (prepend_known bytes k) → Feeds cfg s fs f bytes s2 gs g false → Consumes k k2 more
    → StandsAt cfg p s2 (prepend_known more k2)
stands-on cfg p k k2 s s2 fs gs f g bytes more h feeds consumed =
    let all : StandsAt cfg p s (prepend_known (bytes ++ []) k) = rw (append-nil bytes) h in
    by p k k2 (stands-fed cfg p k s s2 fs gs f g bytes [] false all feeds) consumed
  where
    by : (p k k2 : Option (List ℕ)) → StandsAt cfg p s2 (prepend_known [] k) → Consumes k k2 more
        → StandsAt cfg p s2 (prepend_known more k2)
    by None k k2 h c = tt
    by (Some xs) None k2 h c = absurd h
    by (Some xs) (Some ys) None h c = absurd c
    by (Some xs) (Some ys) (Some zs) h c = h ∙ ap (state_after cfg s2) c

module _ (quoting : Bool) (d : ℕ) where
  abbrev its : Config
  its = configured quoting d

  -- a state between two records is as good as the start of one
  between-outside : (s : State) (ys : List ℕ) → ends_at_end s ≡ false
      → is_outside (state_after its s ys) ≡ is_outside (state_after its st.StartRecord ys)
  between-outside st.StartRecord ys e = refl
  between-outside st.AfterCr [] e = refl
  between-outside st.AfterCr (c ∷ ys) e = by (c == 10) refl
    where
      by : (b : Bool) → (c == 10) ≡ b
          → is_outside (state_after its st.AfterCr (c ∷ ys)) ≡ is_outside (state_after its st.StartRecord (c ∷ ys))
      by true e = rw (eqb-true c 10 e) refl
      by false e = rw e refl
  between-outside st.StartField ys e = absurd (false≢true (sym e))
  between-outside st.InField ys e = absurd (false≢true (sym e))
  between-outside st.InQuoted ys e = absurd (false≢true (sym e))
  between-outside st.AfterQuote ys e = absurd (false≢true (sym e))
  between-outside st.InEscape ys e = absurd (false≢true (sym e))
  between-outside st.InComment ys e = absurd (false≢true (sym e))

  line-end-state : (c : ℕ) (ys : List ℕ) → is_line_end c ≡ true
      → state_after its st.StartRecord (c ∷ ys) ≡ state_after its st.StartRecord ys
  line-end-state c ys e = rw e refl

  -- behind a record that a line's end ends
  pub outside-found : (p0 p k : Option (List ℕ)) (c : ℕ) (rest : List ℕ) (s : State)
      → Keeps (option_map strip_bom p0) p → StandsAt its p s (prepend_known rest k) → is_line_end c ≡ true
      → ends_at_end s ≡ false → LeavesOutside its p0 (prepend_known (c ∷ rest) k)
  outside-found None p k c rest s kept h line between = tt
  outside-found (Some xs) None k c rest s kept h line between = absurd kept
  outside-found (Some xs) (Some zs) None c rest s kept h line between = h
  outside-found (Some xs) (Some zs) (Some ys) c rest s kept h line between = λ outside.
      let behind : is_outside (state_after its st.StartRecord (strip_bom (c ∷ rest ++ ys)))
      ≡ is_outside (state_after its st.StartRecord (strip_bom xs)) =
      ap (λ t. is_outside (state_after its st.StartRecord t)) (line-end-first quoting d c (rest ++ ys) line)
      ∙ ap is_outside (line-end-state c (rest ++ ys) line)
      ∙ sym (between-outside s (rest ++ ys) between) ∙ ap is_outside (sym h)
      ∙ ap (λ t. is_outside (state_after its st.StartRecord t)) kept in
      ap (λ b. not (d == line_feed) && b) (sym behind) ∙ outside

  -- at the end of the text
  pub outside-last : (p0 p k : Option (List ℕ)) (s : State) → Keeps (option_map strip_bom p0) p
      → StandsAt its p s (prepend_known [] k) → IsAtEnd k → is_outside s ≡ true
      → LeavesOutside its p0 (prepend_known [] k)
  unfolding strip_bom
  outside-last None p k s kept h end is = tt
  outside-last (Some xs) None k s kept h end is = absurd kept
  outside-last (Some xs) (Some zs) None s kept h end is = h
  outside-last (Some xs) (Some zs) (Some ys) s kept h end is = λ outside.
      let behind : is_outside (state_after its st.StartRecord (strip_bom xs)) ≡ true =
      ap (λ t. is_outside (state_after its st.StartRecord t)) (sym kept) ∙ ap is_outside h
      ∙ ap (λ t. is_outside (state_after its s t)) end ∙ is in
      ap (λ b. not (d == line_feed) && b) behind ∙ (rw end at outside)

-- bytes of a record, and others behind them that were read since
pub tracks-on : (cfg : Config) (p : Option (List ℕ)) (s s2 : State) (fs gs : Fields) (f g bytes more : List ℕ)
    (k k2 : Option (List ℕ)) → Tracks cfg st.StartRecord p s fs f (prepend_known bytes k)
    → Feeds cfg s fs f bytes s2 gs g false → Consumes k k2 more
    → Tracks cfg st.StartRecord p s2 gs g (prepend_known more k2)
tracks-on cfg p s s2 fs gs f g bytes more k k2 t feeds consumed =
    let all : Tracks cfg st.StartRecord p s fs f (prepend_known (bytes ++ []) k) = rw (append-nil bytes) t in
    let fed = tracks-fed cfg st.StartRecord s s2 fs gs f g bytes [] p k all feeds in
    tracks-keep cfg st.StartRecord s2 gs g p k (prepend_known more k2) (rw (prepend-nil k) at fed)
    (keeps-read k k2 more consumed)
