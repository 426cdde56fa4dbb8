-- Texts in pieces, each of which is read by itself.
use Rattle.std.proofs.Common.{◌≡◌, ◌∷◌, ◌++◌, ◌-◌, ◌∙◌, ℕ, zero, suc, List, [], length, map, replicate, Bool, true, false, Option, Some, None, Ok, Err, refl, sym, ap, append-nil}
use Rattle.std.specs.Prelude.{if◌then◌else◌}
use Rattle.std.specs.List.{AllByRecursion}
use Rattle.std.proofs.lemmas.List.{map-append}
use Rattle.std.proofs.lemmas.Grind.{flat_map-append}
use Rattle.hh_stream.specs.Cuttings.{whole_of}
use Rattle.hh_stream.specs.Weights.{Entry}
use Rattle.hh_pieces.specs.CutTexts.{AreReadByPieces, Begins, Piece, items_of, padded, piece_items}
use Rattle.hh_pieces.specs.Laws.{FeedsOutsideQuotesAreCuts, PiecesAreRead}
use Rattle.hh_records.specs.Layouts.{Columns, config_of}
use Rattle.hh_pieces.specs.Pieces.{InPieces, IsInPieces, all_pieces, ends_outside, piece_reading, text_of, with_columns}
use Rattle.hh_records.specs.Streams.{Reading}
use Rattle.hh_records.specs.declared.layout.Layout.{Layout}
use Rattle.hh_records.proofs.OpenFacts.{some-is}

-- ---- lists of what may be missing
abbrev pub head_or : {A : Type 0} → A → List A → A
head_or d [] = d
head_or d (x ∷ xs) = x

abbrev pub tail_of : {A : Type 0} → List A → List A
tail_of [] = []
tail_of (x ∷ xs) = xs

-- what is there in two lists, one after the other, is there in each
pub somes-split : {A : Type 0} (xs ys : List (Option A)) (parts : List A) → xs ++ ys ≡ map Some parts
    → (ps : List A) × (qs : List A) × (parts ≡ ps ++ qs) × (xs ≡ map Some ps) × (ys ≡ map Some qs)
somes-split [] ys parts e = ([], parts, refl, refl, e)
somes-split (x ∷ xs) ys [] e = cc e
somes-split (x ∷ xs) ys (p ∷ parts) e =
    let first : x ≡ Some p = ap (head_or x) e in
    let (ps, qs, both, left, right) = somes-split xs ys parts (ap tail_of e) in
    (p ∷ ps, qs, ap (λ l. p ∷ l) both, cc (first, left), right)

-- pieces of no items add nothing
pub whole-empty : (n : ℕ) (parts : List (List Entry)) → replicate n (Some []) ≡ map Some parts → whole_of parts ≡ []
whole-empty n [] e = refl
whole-empty zero (p ∷ parts) e = cc e
whole-empty (suc n) (p ∷ parts) e =
    let none : p ≡ [] = some-is (sym (ap (head_or None) e)) in
    rw (none, whole-empty n parts (ap tail_of e)) refl

-- what all of two lists are, those of each are
pub all-split : {A : Type 0} (P : A → Type 0) (xs ys : List A) → AllByRecursion P (xs ++ ys)
    → AllByRecursion P xs × AllByRecursion P ys
all-split P [] ys h = (tt, h)
all-split P (x ∷ xs) ys h = let (front, back) = all-split P xs ys h.1 in ((h.0, front), back)

-- what all of two lists are, those of both are
pub all-append : {A : Type 0} (P : A → Type 0) (xs ys : List A) → AllByRecursion P xs → AllByRecursion P ys
    → AllByRecursion P (xs ++ ys)
all-append P [] ys h k = k
all-append P (x ∷ xs) ys h k = (h.0, all-append P xs ys h.1 k)

-- ---- texts by their pieces
module _ (layout : Layout) where
  -- a piece with items ends outside quotes and reads as them
  pub piece-reads : (piece : Piece) (xs : List Entry) → piece_items layout piece ≡ Some xs
      → (ends_outside (config_of layout) piece.1 ≡ true) × (piece_reading layout piece.0 piece.1 ≡ Some (Ok xs))
  piece-reads piece xs e = by (ends_outside (config_of layout) piece.1) (piece_reading layout piece.0 piece.1) e
    where
      by : (outside : Bool) (r : Option Reading) → (if outside then items_of r else None) ≡ Some xs
          → (outside ≡ true) × (r ≡ Some (Ok xs))
      by false r e = cc e
      by true None e = cc e
      by true (Some (Err f)) e = cc e
      by true (Some (Ok ys)) e = (refl, ap (λ zs. Some (Ok zs)) (some-is e))

  abbrev pub reading_of : Piece → Option Reading
  reading_of piece = piece_reading layout piece.0 piece.1

  abbrev pub IsOutside : Piece → Type 0
  IsOutside piece = ends_outside (config_of layout) piece.1 ≡ true

  pub pieces-read : (pieces : List Piece) (parts : List (List Entry)) → map (piece_items layout) pieces ≡ map Some parts
      → (map reading_of pieces ≡ map (λ part. Some (Ok part)) parts) × AllByRecursion IsOutside pieces
  pieces-read [] [] e = (refl, tt)
  pieces-read [] (p ∷ parts) e = cc e
  pieces-read (q ∷ pieces) [] e = cc e
  pieces-read (q ∷ pieces) (p ∷ parts) e =
      let (outside, reads) = piece-reads q p (ap (head_or None) e) in
      let (all, others) = pieces-read pieces parts (ap tail_of e) in
      (cc (reads, all), (outside, others))

  -- the pieces of a text end outside quotes where they do with their columns
  pub bytes-outside : (columns : Columns) (pieces : List (List ℕ))
      → AllByRecursion IsOutside (map (λ q. (Some columns, q)) pieces)
      → AllByRecursion (λ piece. ends_outside (config_of layout) piece ≡ true) pieces
  bytes-outside columns [] h = tt
  bytes-outside columns (q ∷ qs) h = (h.0, bytes-outside columns qs h.1)

  pub text-outside : (columns : Columns) (pieces : List (List ℕ)) → AllByRecursion IsOutside (with_columns columns pieces)
      → AllByRecursion (λ piece. ends_outside (config_of layout) piece ≡ true) pieces
  text-outside columns [] h = tt
  text-outside columns (q ∷ qs) h = (h.0, bytes-outside columns qs h.1)

  -- texts that begin with their columns, whose pieces end outside quotes, are in pieces
  pub texts-cut : FeedsOutsideQuotesAreCuts → (texts : List InPieces) → AllByRecursion (Begins layout) texts
      → AllByRecursion IsOutside (all_pieces texts) → AllByRecursion (IsInPieces layout) texts
  texts-cut law [] h outside = tt
  texts-cut law (t ∷ texts) h outside =
      let (here, later) = all-split IsOutside (with_columns t.columns t.pieces) (all_pieces texts) outside in (
        record {
          cut = law (config_of layout) t.pieces h.0.feeds (text-outside t.columns t.pieces here);
          columns = h.0.columns;
        },
        texts-cut law texts h.1 later,
      )

  -- these are the pieces of texts that begin with their columns
  abbrev pub ArePiecesOf : List (List ℕ) → List Piece → Type 0
  ArePiecesOf texts pieces =
      (ts : List InPieces) × AllByRecursion (Begins layout) ts × (map text_of ts ≡ texts) × (pieces ≡ all_pieces ts)

  pub one-text-more : (texts : List (List ℕ)) (pieces : List Piece) (text : List ℕ) (t : InPieces)
      → ArePiecesOf texts pieces → Begins layout t → text_of t ≡ text
      → ArePiecesOf (texts ++ text ∷ []) (pieces ++ with_columns t.columns t.pieces)
  one-text-more texts pieces text t (ts, begin, are, all) begins is = (
    ts ++ t ∷ [],
    all-append (Begins layout) ts (t ∷ []) begin (begins, tt),
    map-append text_of ts (t ∷ []) ∙ cc (are, is),
    ap (λ l. l ++ with_columns t.columns t.pieces) all
        ∙ ap (λ l. all_pieces ts ++ l) (sym (append-nil (with_columns t.columns t.pieces)))
        ∙ sym (flat_map-append (λ t. with_columns t.columns t.pieces) ts (t ∷ [])),
  )

  -- such texts are read by their pieces
  pub read-by-pieces : FeedsOutsideQuotesAreCuts → PiecesAreRead → (texts : List (List ℕ)) (pieces : List Piece)
      → ArePiecesOf texts pieces → AreReadByPieces layout texts (map (piece_items layout) pieces)
  read-by-pieces law reads texts pieces (ts, begin, are, is) parts e few =
      let (all, outside) = pieces-read (all_pieces ts) parts (rw is at e) in
      rw (← are) (reads layout ts parts (texts-cut law ts begin outside) all few)

  -- and by these with pieces of no items after them
  pub read-padded : (bytes : List (List ℕ)) (pieces : List (Option (List Entry))) (count : ℕ)
      → AreReadByPieces layout bytes pieces → AreReadByPieces layout bytes (padded count pieces)
  read-padded bytes pieces count h parts e few =
      let (ps, qs, both, left, right) = somes-split pieces (replicate (count - length pieces) (Some [])) parts e in
      let none = whole-empty _ qs right in
      let same : whole_of parts ≡ whole_of ps =
      ap whole_of both ∙ flat_map-append (λ part. part) ps qs ∙ ap (λ l. whole_of ps ++ l) none
      ∙ append-nil (whole_of ps) in
      rw same (h ps left (rw same at few))
