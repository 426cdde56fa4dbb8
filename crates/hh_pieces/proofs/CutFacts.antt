-- Records of a text that is cut before line feeds.
use Rattle.std.proofs.Common.{◌≡◌, ◌≤◌, ◌+◌, ◌∷◌, ◌++◌, ◌∙◌, ℕ, suc, zero, List, [], length, length-take, take, drop, Bool, true, false, Option, Some, None, refl, sym, ap, arith, append-nil}
use Rattle.std.specs.Prelude.{◌==◌, ◌&&◌, IfSome, not, if◌then◌else◌}
use Rattle.std.proofs.lemmas.Bool.{eqb-false, eqb-true, false≢true, ne_eqb}
use Rattle.std.proofs.lemmas.Grind.{fold-append}
use Rattle.std.proofs.lemmas.List.{drop-append-le, take-append-drop, take-append-le}
use Rattle.memchr.specs.Find.{IsLast}
use Rattle.csv.specs.Machine.{Read, after_end, ends_at_end, ends_with, field_after, fields_after, in_field, is_byte, is_end, next_record, start_field, start_record, step}
use Rattle.csv.specs.Reading.{is_bom, records, records_from, records_next, strip_bom}
use Rattle.csv.specs.declared.parser.Config.{Config}
use Rattle.csv.specs.declared.parser.State.{State}
use Rattle.csv.specs.declared.parser.State.TheVariants as st
use Rattle.csv.specs.declared.parser.Action.{Action}
use Rattle.csv.specs.declared.parser.Action.TheVariants as act
use Rattle.hh_records.specs.Streams.{Fields}
use Rattle.hh_stream.specs.Cuttings.{whole_of}
use Rattle.hh_records.specs.Layouts.{configured}
use Rattle.hh_pieces.specs.Laws.{FeedsOutsideQuotesAreCuts, PiecesHaveTheRecords}
use Rattle.hh_pieces.specs.Pieces.{IsCut, IsCutAt, begins_with_feed, ends_outside, is_outside, state_after}

-- ---- all records of a text, with no bound on their number
unfoldable pub runs : Config → State → Fields → List ℕ → List ℕ → List Fields
runs cfg s f p [] = if ends_at_end s then (f ++ (p ∷ [])) ∷ [] else []
runs cfg s f p (c ∷ rest) =
    if is_end (step cfg s c).1 then fields_after (step cfg s c).1 f p ∷ runs cfg (step cfg s c).0 [] [] rest
    else runs cfg (step cfg s c).0 (fields_after (step cfg s c).1 f p) (field_after (step cfg s c).1 c p) rest

at_end : (cfg : Config) (n : ℕ) → records_from cfg n st.StartRecord [] ≡ []
unfolding records_from next_record
at_end cfg zero = refl
at_end cfg (suc n) = refl

-- as many records as there are bytes after the first one are all
pub runs-next : (cfg : Config) (s : State) (f : Fields) (p xs : List ℕ) (n : ℕ) → length xs ≤ n
    → records_next (records_from cfg n) (next_record cfg s f p xs) ≡ runs cfg s f p xs
unfolding next_record records_from runs
runs-next cfg s f p [] n l = by (ends_at_end s)
  where
    by : (b : Bool)
        → records_next (records_from cfg n) (if b then Some (f ++ (p ∷ []), st.StartRecord, []) else None)
        ≡ (if b then (f ++ (p ∷ [])) ∷ [] else [])
    by true = ap (λ (rs : List Fields). (f ++ (p ∷ [])) ∷ rs) (at_end cfg n)
    by false = refl
runs-next cfg s f p (c ∷ rest) zero l = absurd (omega (arith, l))
runs-next cfg s f p (c ∷ rest) (suc n) l =
    by (is_end (step cfg s c).1) _ _ _ (runs-next cfg (step cfg s c).0 [] [] rest n (omega (arith, l)))
    (runs-next cfg (step cfg s c).0 _ _ rest (suc n) (omega (arith, l)))
  where
    by : (b : Bool) (g : Fields) (next : Option Read) (more : List Fields)
        → records_from cfg (suc n) (step cfg s c).0 rest ≡ runs cfg (step cfg s c).0 [] [] rest
        → records_next (records_from cfg (suc n)) next ≡ more
        → records_next (records_from cfg (suc n)) (if b then Some (g, (step cfg s c).0, rest) else next)
        ≡ (if b then g ∷ runs cfg (step cfg s c).0 [] [] rest else more)
    by true g next more new on = ap (λ (rs : List Fields). g ∷ rs) new
    by false g next more new on = on

pub runs-all : (cfg : Config) (xs : List ℕ) → records cfg xs ≡ runs cfg st.StartRecord [] [] xs
unfolding records_from
runs-all cfg xs =
    let one : length xs + 1 ≡ suc (length xs) = omega arith in
    ap (λ n. records_from cfg n st.StartRecord xs) one ∙ runs-next cfg st.StartRecord [] [] xs (length xs) (omega arith)

-- ---- between two records there is no field at hand
abbrev is_between : State → Bool
is_between st.StartRecord = true
is_between st.AfterCr = true
is_between st.InComment = true
is_between st.StartField = false
is_between st.InField = false
is_between st.InQuoted = false
is_between st.AfterQuote = false
is_between st.InEscape = false

-- a byte that ends no record comes to stand between two records only from there, and adds nothing
Stays : State → State × Action → Type 0
Stays s p = is_end p.1 ≡ false → is_between p.0 ≡ true → (is_between s ≡ true) × (p.1 ≡ act.Skip)

stays-if : (s : State) (b : Bool) (p q : State × Action) → Stays s p → Stays s q → Stays s (if b then p else q)
unfolding Stays
stays-if s true p q h k = h
stays-if s false p q h k = k

stays-end : (s t : State) → Stays s (t, act.EndRecord)
unfolding Stays
stays-end s t e h = absurd (false≢true (sym e))

stays-inside : (s t : State) (a : Action) → is_between t ≡ false → Stays s (t, a)
unfolding Stays
stays-inside s t a n e h = absurd (false≢true (sym n ∙ h))

stays-skip : (s t : State) → is_between s ≡ true → Stays s (t, act.Skip)
unfolding Stays
stays-skip s t b e h = (b, refl)

stays-in-field : (cfg : Config) (s : State) (c : ℕ) → Stays s (in_field cfg c)
stays-in-field cfg s c =
    stays-if s (c == cfg.delimiter) _ _ (stays-inside s st.StartField act.EndField refl)
    (stays-if s (ends_with cfg.terminator c) _ _ (stays-end s (after_end cfg.terminator c))
    (stays-inside s st.InField act.Copy refl))

stays-start-field : (cfg : Config) (s : State) (c : ℕ) → Stays s (start_field cfg c)
stays-start-field cfg s c =
    stays-if s (cfg.quoting && (c == cfg.quote)) _ _ (stays-inside s st.InQuoted act.Skip refl) (stays-in-field cfg s c)

stays-start-record : (cfg : Config) (s : State) (c : ℕ) → is_between s ≡ true → Stays s (start_record cfg c)
stays-start-record cfg s c b =
    stays-if s (ends_with cfg.terminator c) _ _ (stays-skip s st.StartRecord b)
    (stays-if s (is_byte cfg.comment c) _ _ (stays-skip s st.InComment b) (stays-start-field cfg s c))

stays-step : (cfg : Config) (s : State) (c : ℕ) → Stays s (step cfg s c)
stays-step cfg st.StartRecord c = stays-start-record cfg st.StartRecord c refl
stays-step cfg st.StartField c = stays-start-field cfg st.StartField c
stays-step cfg st.InField c = stays-in-field cfg st.InField c
stays-step cfg st.InQuoted c =
    stays-if st.InQuoted (cfg.quoting && (c == cfg.quote)) _ _ (stays-inside st.InQuoted st.AfterQuote act.Skip refl)
    (stays-if st.InQuoted (cfg.quoting && is_byte cfg.escape c) _ _ (stays-inside st.InQuoted st.InEscape act.Skip refl)
    (stays-inside st.InQuoted st.InQuoted act.Copy refl))
stays-step cfg st.InEscape c = stays-inside st.InEscape st.InQuoted act.Copy refl
stays-step cfg st.AfterQuote c =
    stays-if st.AfterQuote (cfg.quoting && cfg.double_quote && (c == cfg.quote)) _ _
    (stays-inside st.AfterQuote st.InQuoted act.Copy refl) (stays-in-field cfg st.AfterQuote c)
stays-step cfg st.InComment c =
    stays-if st.InComment (c == 10) _ _ (stays-skip st.InComment st.StartRecord refl)
    (stays-skip st.InComment st.InComment refl)
stays-step cfg st.AfterCr c =
    stays-if st.AfterCr (c == 10) _ _ (stays-skip st.AfterCr st.StartRecord refl)
    (stays-start-record cfg st.AfterCr c refl)

Fresh : State → Fields → List ℕ → Type 0
Fresh s f p = is_between s ≡ true → (f ≡ []) × (p ≡ [])

fresh-next : (s : State) (f : Fields) (p : List ℕ) (c : ℕ) (q : State × Action) → Stays s q → is_end q.1 ≡ false
    → Fresh s f p → Fresh q.0 (fields_after q.1 f p) (field_after q.1 c p)
unfolding Fresh Stays
fresh-next s f p c q stays e fresh b =
    let (was, skip) = stays e b in
    rw skip (fresh was)

-- ---- the cut
one-end : (e : Bool) (g : Fields) (a1 a2 b1 b2 more : List Fields) → a1 ≡ b1 ++ more → (e ≡ false → a2 ≡ b2 ++ more)
    → (if e then g ∷ a1 else a2) ≡ (if e then g ∷ b1 else b2) ++ more
one-end true g a1 a2 b1 b2 more new on = ap (λ (rs : List Fields). g ∷ rs) new
one-end false g a1 a2 b1 b2 more new on = on refl

-- a line feed is no quote, whether quotes are looked for or not
no-quote : (quoting : Bool) → (quoting && (10 == 34)) ≡ false
no-quote true = refl
no-quote false = refl

no-second-quote : (quoting : Bool) → (quoting && true && (10 == 34)) ≡ false
no-second-quote true = refl
no-second-quote false = refl

module _ (quoting : Bool) (d : ℕ) where
  abbrev cfg : Config
  cfg = configured quoting d

  -- a line feed outside quotes ends the record at hand, or is skipped
  feed-step : (s : State) → (10 == d) ≡ false → is_outside s ≡ true
      → step cfg s 10 ≡ (st.StartRecord, if ends_at_end s then act.EndRecord else act.Skip)
  feed-step st.StartRecord other h = refl
  feed-step st.AfterCr other h = refl
  feed-step st.StartField other h = rw (no-quote quoting, other) refl
  feed-step st.InField other h = rw other refl
  feed-step st.AfterQuote other h = rw (no-second-quote quoting, other) refl
  feed-step st.InQuoted other h = absurd (false≢true h)
  feed-step st.InEscape other h = absurd (false≢true h)
  feed-step st.InComment other h = absurd (false≢true h)

  -- the text from a line feed on, where the machine is not in quotes
  cut-here : (10 == d) ≡ false → (s : State) (f : Fields) (p b : List ℕ) → Fresh s f p → is_outside s ≡ true
      → runs cfg s f p (10 ∷ b) ≡ runs cfg s f p [] ++ runs cfg st.StartRecord [] [] (10 ∷ b)
  unfolding runs Fresh
  cut-here other st.StartRecord f p b fresh h = let (a, c) = fresh refl in rw (a, c) refl
  cut-here other st.AfterCr f p b fresh h = let (a, c) = fresh refl in rw (a, c) refl
  cut-here other st.StartField f p b fresh h = rw (no-quote quoting, other) refl
  cut-here other st.InField f p b fresh h = rw other refl
  cut-here other st.AfterQuote f p b fresh h = rw (no-second-quote quoting, other) refl
  cut-here other st.InQuoted f p b fresh h = absurd (false≢true h)
  cut-here other st.InEscape f p b fresh h = absurd (false≢true h)
  cut-here other st.InComment f p b fresh h = absurd (false≢true h)

  runs-cut : (10 == d) ≡ false → (s : State) (f : Fields) (p a b : List ℕ) → Fresh s f p → is_outside (state_after cfg s a) ≡ true
      → runs cfg s f p (a ++ (10 ∷ b)) ≡ runs cfg s f p a ++ runs cfg st.StartRecord [] [] (10 ∷ b)
  unfolding runs Fresh
  runs-cut other s f p [] b fresh h = cut-here other s f p b fresh h
  runs-cut other s f p (c ∷ a) b fresh h =
      let q = step cfg s c in
      one-end (is_end q.1) (fields_after q.1 f p) _ _ _ _ _ (runs-cut other q.0 [] [] a b (λ t. (refl, refl)) h)
      (λ e. runs-cut other q.0 _ _ a b (fresh-next s f p c q (stays-step cfg s c) e fresh) h)

  records-cut : (10 == d) ≡ false → (a b : List ℕ) → is_outside (state_after cfg st.StartRecord a) ≡ true
      → records cfg (a ++ (10 ∷ b)) ≡ records cfg a ++ records cfg (10 ∷ b)
  unfolding Fresh
  records-cut other a b h =
      runs-all cfg (a ++ (10 ∷ b))
      ∙ runs-cut other st.StartRecord [] [] a b (λ t. (refl, refl)) h
      ∙ ap (λ (rs : List Fields). rs ++ runs cfg st.StartRecord [] [] (10 ∷ b)) (sym (runs-all cfg a))
      ∙ ap (λ (rs : List Fields). records cfg a ++ rs) (sym (runs-all cfg (10 ∷ b)))

-- ---- the byte order mark
strip-line : (b : List ℕ) → strip_bom (10 ∷ b) ≡ 10 ∷ b
unfolding strip_bom
strip-line [] = refl
strip-line (x ∷ []) = refl
strip-line (x ∷ y ∷ b) = refl

-- a line feed is no byte of the mark
strip-cut : (a b : List ℕ) → strip_bom (a ++ (10 ∷ b)) ≡ strip_bom a ++ (10 ∷ b)
unfolding strip_bom
strip-cut [] b = strip-line b
strip-cut (x ∷ []) [] = refl
strip-cut (x ∷ []) (y ∷ b) = by (x == 0xEF)
  where
    by : (e : Bool) → (if e && false && (y == 0xBF) then b else x ∷ 10 ∷ y ∷ b) ≡ x ∷ 10 ∷ y ∷ b
    by true = refl
    by false = refl
strip-cut (x ∷ y ∷ []) b = by (x == 0xEF) (y == 0xBB)
  where
    by : (e f : Bool) → (if e && f && false then b else x ∷ y ∷ 10 ∷ b) ≡ x ∷ y ∷ 10 ∷ b
    by true true = refl
    by true false = refl
    by false f = refl
strip-cut (x ∷ y ∷ z ∷ a) b = by (is_bom x y z)
  where
    by : (e : Bool) → (if e then a ++ (10 ∷ b) else x ∷ y ∷ z ∷ (a ++ (10 ∷ b)))
        ≡ (if e then a else x ∷ y ∷ z ∷ a) ++ (10 ∷ b)
    by true = refl
    by false = refl

-- ---- pieces
-- what begins with a line feed, as the line feed and the rest
feed-rest : (b : List ℕ) → begins_with_feed b ≡ true → (rest : List ℕ) × (b ≡ 10 ∷ rest)
feed-rest [] h = absurd (false≢true h)
feed-rest (c ∷ rest) h = (rest, ap (λ x. x ∷ rest) (eqb-true c 10 h))

pub feed-append : (b c : List ℕ) → begins_with_feed b ≡ true → begins_with_feed (b ++ c) ≡ true
feed-append [] c h = absurd (false≢true h)
feed-append (x ∷ b) c h = h

module _ (quoting : Bool) (d : ℕ) where
  abbrev cut_cfg : Config
  cut_cfg = configured quoting d

  -- a text that ends outside quotes has another byte than a line feed between its fields
  outside-both : (bytes : List ℕ) → ends_outside cut_cfg bytes ≡ true
      → ((10 == d) ≡ false) × (is_outside (state_after cut_cfg st.StartRecord (strip_bom bytes)) ≡ true)
  outside-both bytes h = by (d == 10) refl h
    where
      by : (e : Bool) → (d == 10) ≡ e
          → not e && is_outside (state_after cut_cfg st.StartRecord (strip_bom bytes)) ≡ true
          → ((10 == d) ≡ false) × (is_outside (state_after cut_cfg st.StartRecord (strip_bom bytes)) ≡ true)
      by true e h = absurd (false≢true h)
      by false e h = (ne_eqb 10 d (λ same. eqb-false d 10 e (sym same)), h)

  -- the records of two parts of a text that is cut there
  pub parts-records : (a b : List ℕ) → IsCut cut_cfg a b
      → records cut_cfg (strip_bom (a ++ b)) ≡ records cut_cfg (strip_bom a) ++ records cut_cfg (strip_bom b)
  parts-records a b cut =
      let (other, outside) = outside-both a cut.outside in
      let (rest, is) = feed-rest b cut.feed in
      ap (λ (u : List ℕ). records cut_cfg (strip_bom (a ++ u))) is
      ∙ ap (records cut_cfg) (strip-cut a rest)
      ∙ records-cut quoting d other (strip_bom a) rest outside
      ∙ ap (λ (u : List ℕ). records cut_cfg (strip_bom a) ++ records cut_cfg u) (sym (ap strip_bom is ∙ strip-line rest))

  -- a text that is cut ends outside quotes where its last part does
  pub outside-more : (a b : List ℕ) → IsCut cut_cfg a b → ends_outside cut_cfg b ≡ true → ends_outside cut_cfg (a ++ b) ≡ true
  outside-more a b cut h =
      let (other, outside) = outside-both a cut.outside in
      let (rest, is) = feed-rest b cut.feed in
      let ended : State = state_after cut_cfg st.StartRecord (strip_bom a) in
      let start : (step cut_cfg ended 10).0 ≡ st.StartRecord = ap (λ q. q.0) (feed-step quoting d ended other outside) in
      let behind : state_after cut_cfg st.StartRecord (strip_bom (a ++ b)) ≡ state_after cut_cfg st.StartRecord rest =
      ap (λ (u : List ℕ). state_after cut_cfg st.StartRecord (strip_bom (a ++ u))) is
      ∙ ap (state_after cut_cfg st.StartRecord) (strip-cut a rest)
      ∙ fold-append (λ s c. (step cut_cfg s c).0) st.StartRecord (strip_bom a) (10 ∷ rest)
      ∙ ap (λ s. state_after cut_cfg s rest) start in
      let alone : state_after cut_cfg st.StartRecord (strip_bom b) ≡ state_after cut_cfg st.StartRecord rest =
      ap (λ (u : List ℕ). state_after cut_cfg st.StartRecord (strip_bom u)) is
      ∙ ap (state_after cut_cfg st.StartRecord) (strip-line rest) in
      ap (λ s. not (d == 10) && is_outside s) (behind ∙ sym alone) ∙ h

pub no-records : (cfg : Config) → records cfg (strip_bom []) ≡ []
unfolding strip_bom
no-records cfg = at_end cfg 1

pub pieces-records : PiecesHaveTheRecords
pieces-records quoting d [] cut = no-records (configured quoting d)
pieces-records quoting d (a ∷ []) cut =
    let one = records (configured quoting d) (strip_bom a) in
    ap (λ (u : List ℕ). records (configured quoting d) (strip_bom u)) (append-nil a) ∙ sym (append-nil one)
pieces-records quoting d (a ∷ b ∷ rest) cut =
    let behind : IsCut (configured quoting d) a (whole_of (b ∷ rest)) =
    record { outside = cut.0.outside; feed = feed-append b (whole_of rest) cut.0.feed } in
    parts-records quoting d a (whole_of (b ∷ rest)) behind
    ∙ ap (λ (rs : List Fields). records (configured quoting d) (strip_bom a) ++ rs) (pieces-records quoting d (b ∷ rest) cut.1)

pub feeds-cut : FeedsOutsideQuotesAreCuts
feeds-cut config [] later outside = tt
feeds-cut config (a ∷ []) later outside = tt
feeds-cut config (a ∷ b ∷ rest) later outside =
    (record { outside = outside.0; feed = later.0 }, feeds-cut config (b ∷ rest) later.1 outside.1)

-- a place where the front of a text may be cut is one where the text may be
cut-front : (config : Config) (text : List ℕ) (n at : ℕ) → at ≤ length (take n text)
    → IsCutAt config (take n text) at → IsCutAt config text at
cut-front config text n at within cut =
    let all = sym (take-append-drop n text) in
    let front : take at text ≡ take at (take n text) = ap (take at) all ∙ take-append-le at (take n text) (drop n text) within in
    let rest : drop at text ≡ drop at (take n text) ++ drop n text = ap (drop at) all ∙ drop-append-le at (take n text) (drop n text) within in
    record {
      outside = ap (ends_outside config) front ∙ cut.outside;
      feed = ap begins_with_feed rest ∙ feed-append (drop at (take n text)) (drop n text) cut.feed;
    }

-- the last place where a text may be cut
pub last-cut : (config : Config) (text : List ℕ) (last : Option ℕ) → IsLast (IsCutAt config text) 0 (length text) last
    → IfSome last (λ at. (at ≤ length text) × IsCutAt config text at)
last-cut config text None h = tt
last-cut config text (Some at) h = (omega (arith, h.0.high), h.1)

-- the last one where the front of a text may be
pub last-front : (config : Config) (text : List ℕ) (n : ℕ) (last : Option ℕ)
    → IsLast (IsCutAt config (take n text)) 0 (length (take n text)) last
    → IfSome last (λ at. (at ≤ length text) × IsCutAt config text at)
last-front config text n None h = tt
last-front config text n (Some at) h =
    let size = length-take n text in
    (omega (arith, h.0.high, size), cut-front config text n at (omega (arith, h.0.high)) h.1)
