-- What pieces of texts read as, one after the other.
use Rattle.std.proofs.Common.{◌≡◌, ◌≤◌, ◌+◌, ◌∷◌, ◌++◌, ◌∙◌, ℕ, List, [], length, map, Bool, true, false, Option, Some, None, Result, Ok, Err, refl, sym, ap, arith}
use Rattle.std.specs.Prelude.{nat_le, option_map, option_and_then, if◌then◌else◌}
use Rattle.std.specs.List.{AllByRecursion, flat_map}
use Rattle.std.proofs.lemmas.Bool.Decides.{nat_tests}
use Rattle.std.proofs.lemmas.List.{map-append}
use Rattle.std.proofs.lemmas.List.Sums.{sum_by-append}
use Rattle.hh_stream.specs.Cuttings.{whole_of}
use Rattle.hh_stream.specs.Weights.{Entry, max_total, total_of}
use Rattle.hh_records.specs.declared.layout.Layout.{Layout}
use Rattle.hh_faults.specs.declared.records.BadRecordCause.{BadRecordCause}
use Rattle.hh_faults.specs.declared.records.BadRecordCause.TheVariants as cause
use Rattle.hh_pieces.specs.Laws.{PiecesAreRead}
use Rattle.hh_records.specs.Formats.{byte_between, has_quotes}
use Rattle.hh_records.specs.Layouts.{Columns, added_after, adding_next, adds, adds_alone, gathered, headed_parts, items_after, joined, parts_at, columns_in, text_parts, texts_parts}
use Rattle.hh_pieces.specs.Pieces.{InPieces, IsInPieces, all_pieces, first_piece, piece_parts, piece_reading, text_of, with_columns}
use Rattle.hh_records.specs.Layouts.{columns_of, first_of, rows_in}
use Rattle.hh_records.specs.Streams.{Fields, Parts, Reading}
use Rattle.hh_pieces.proofs.CutFacts.{pieces-records}
use Rattle.hh_records.proofs.OpenFacts.{map-nothing, map-twice}
use Rattle.hh_records.proofs.ReadFacts.{items-more, ok-eq}

-- ---- records after another total
abbrev weight_in : Entry → ℕ
weight_in e = e.1

-- what is added after one total is added after another, where it fits
added-moves : (t u : ℕ) (r : Result (List Entry) BadRecordCause) (es : List Entry) → added_after t r ≡ Ok es
    → u + total_of es ≤ max_total → added_after u r ≡ Ok es
added-moves t u (Err c) es e l = cc e
added-moves t u (Ok xs) es e l = by (nat_le (t + total_of xs) max_total) e
  where
    by : (fits : Bool) → (if fits then Ok xs else Err cause.TotalTooLarge) ≡ Ok es
        → (if nat_le (u + total_of xs) max_total then Ok xs else Err cause.TotalTooLarge) ≡ Ok es
    by false e = cc e
    by true e =
        let same : xs ≡ es = cc e in
        let room : nat_le (u + total_of xs) max_total ≡ true = rw same (grind (arith, nat_tests, l)) in
        rw room e

-- so it is with what records add, whatever their numbers
pub items-move : (layout : Layout) (n m t u : ℕ) (ps : List Parts) (xs : List Entry) → items_after layout n t ps ≡ Ok xs
    → u + total_of xs ≤ max_total → items_after layout m u ps ≡ Ok xs
unfolding items_after
items-move layout n m t u [] xs e l = e
items-move layout n m t u (p ∷ ps) xs e l =
    by (adds layout t p) refl e
    (λ es ys f fits. items-move layout (n + 1) (m + 1) (t + total_of es) (u + total_of es) ps ys f fits)
  where
    Later : Type 0
    Later = (es ys : List Entry) → items_after layout (n + 1) (t + total_of es) ps ≡ Ok ys
        → u + total_of es + total_of ys ≤ max_total → items_after layout (m + 1) (u + total_of es) ps ≡ Ok ys

    go : (es : List Entry) (r : Reading) → items_after layout (n + 1) (t + total_of es) ps ≡ r → joined es r ≡ Ok xs
        → adds layout t p ≡ Ok es → Later
        → adding_next (adds layout u p) m (λ es. items_after layout (m + 1) (u + total_of es) ps) ≡ Ok xs
    go es (Err x) f e is later = cc e
    go es (Ok ys) f e is later =
        let both : es ++ ys ≡ xs = ok-eq (es ++ ys) xs e in
        let sum = sum_by-append weight_in es ys in
        let fits : u + (total_of es + total_of ys) ≤ max_total = omega (arith, l, sum, ap total_of both) in
        let now = added-moves t u (adds_alone layout p) es is (omega (arith, fits)) in
        let rest = later es ys f (omega (arith, fits)) in
        rw (now, rest) e

    by : (o : Result (List Entry) BadRecordCause) → adds layout t p ≡ o
        → adding_next o n (λ es. items_after layout (n + 1) (t + total_of es) ps) ≡ Ok xs → Later
        → adding_next (adds layout u p) m (λ es. items_after layout (m + 1) (u + total_of es) ps) ≡ Ok xs
    by (Ok es) is e later = go es (items_after layout (n + 1) (t + total_of es) ps) refl e is later
    by (Err x) is e later = cc e

-- ---- the records of pieces
module _ {A B : Type 0} (f : A → Option (List B)) where
  gathered-append : (xs ys : List A)
      → gathered f (xs ++ ys)
      ≡ option_and_then (λ (ps : List B). option_map (λ qs. ps ++ qs) (gathered f ys)) (gathered f xs)
  unfolding gathered
  gathered-append [] ys = sym (map-nothing (gathered f ys))
  gathered-append (x ∷ xs) ys = rw (gathered-append xs ys) (by (f x) (gathered f xs))
    where
      by : (o p : Option (List B))
          → option_and_then (λ (zs : List B). option_map (λ qs. zs ++ qs)
          (option_and_then (λ (ps : List B). option_map (λ qs. ps ++ qs) (gathered f ys)) p)) o
          ≡ option_and_then (λ (ps : List B). option_map (λ qs. ps ++ qs) (gathered f ys))
          (option_and_then (λ (zs : List B). option_map (λ qs. zs ++ qs) p) o)
      by None p = refl
      by (Some zs) None = refl
      by (Some zs) (Some ps) = map-twice zs ps (gathered f ys)

module _ (layout : Layout) where
  -- the records of a text, of which some were the header
  parts_in : List Fields → Option (List Parts)
  parts_in rows =
      if layout.has_header then headed_parts layout rows
      else option_map (λ at. map (parts_at layout at) rows) (columns_in layout [])

  -- records after those that have the header are read by its columns
  rows-more : (rows : List Fields) (at : Columns) → columns_of layout rows ≡ Some at
      → (ps : List Parts) × (parts_in rows ≡ Some ps)
      × ((more : List Fields) → parts_in (rows ++ more) ≡ Some (ps ++ map (parts_at layout at) more))
  unfolding parts_in
  rows-more rows at e = by layout.has_header rows e
    where
      by : (b : Bool) (rows : List Fields)
          → option_and_then (columns_in layout) (if b then first_of rows else Some []) ≡ Some at
          → (ps : List Parts)
          × ((if b then headed_parts layout rows else option_map (λ at. map (parts_at layout at) rows) (columns_in layout [])) ≡ Some ps)
          × ((more : List Fields)
          → (if b then headed_parts layout (rows ++ more) else option_map (λ at. map (parts_at layout at) (rows ++ more)) (columns_in layout []))
          ≡ Some (ps ++ map (parts_at layout at) more))
      by true [] e = cc e
      by true (h ∷ rows) e = (
        map (parts_at layout at) rows,
        rw e refl,
        λ more. rw (e, map-append (parts_at layout at) rows more) refl,
      )
      by false rows e = (
        map (parts_at layout at) rows,
        rw e refl,
        λ more. rw (e, map-append (parts_at layout at) rows more) refl,
      )

  no-parts : (at : Columns) → columns_of layout [] ≡ Some at → parts_in [] ≡ Some []
  unfolding parts_in
  no-parts at e = by layout.has_header e
    where
      by : (b : Bool) → option_and_then (columns_in layout) (if b then first_of [] else Some []) ≡ Some at
          → (if b then headed_parts layout [] else option_map (λ at. map (parts_at layout at) []) (columns_in layout [])) ≡ Some []
      by true e = refl
      by false e = rw e refl

  parts_of_piece : Option Columns × List ℕ → Option (List Parts)
  parts_of_piece piece = piece_parts layout piece.0 piece.1

  later-parts : (at : Columns) (pieces : List (List ℕ))
      → gathered parts_of_piece (map (λ q. (Some at, q)) pieces)
      ≡ Some (map (parts_at layout at) (flat_map (rows_in layout) pieces))
  unfolding gathered parts_of_piece
  later-parts at [] = refl
  later-parts at (q ∷ pieces) =
      rw (later-parts at pieces, map-append (parts_at layout at) (rows_in layout q) (flat_map (rows_in layout) pieces)) refl

  -- the records of a text are those of its pieces
  text-pieces : (t : InPieces) → IsInPieces layout t
      → text_parts layout (text_of t) ≡ gathered parts_of_piece (with_columns t.columns t.pieces)
  unfolding gathered parts_of_piece parts_in
  text-pieces t is = by t.pieces (pieces-records (has_quotes layout.format) (byte_between layout.format layout.delimiter) t.pieces is.cut) is.columns
    where
      by : (pieces : List (List ℕ)) → rows_in layout (whole_of pieces) ≡ flat_map (rows_in layout) pieces
          → columns_of layout (rows_in layout (first_piece pieces)) ≡ Some t.columns
          → parts_in (rows_in layout (whole_of pieces)) ≡ gathered parts_of_piece (with_columns t.columns pieces)
      by [] rows columns =
          let none : rows_in layout [] ≡ [] = rows in
          ap parts_in none ∙ no-parts t.columns (rw none at columns)
      by (a ∷ rest) rows columns =
          let (ps, first, more) = rows-more (rows_in layout a) t.columns columns in
          ap parts_in rows
          ∙ more (flat_map (rows_in layout) rest)
          ∙ rw (first, later-parts t.columns rest) refl

  -- so are those of all texts
  texts-pieces : (texts : List InPieces) → AllByRecursion (IsInPieces layout) texts
      → texts_parts layout (map text_of texts) ≡ gathered parts_of_piece (all_pieces texts)
  unfolding gathered
  texts-pieces [] are = refl
  texts-pieces (t ∷ texts) are =
      rw (text-pieces t are.0, texts-pieces texts are.1)
      (sym (gathered-append parts_of_piece (with_columns t.columns t.pieces) (all_pieces texts)))

  reading_of : Option Columns × List ℕ → Option Reading
  reading_of piece = piece_reading layout piece.0 piece.1

  abbrev read_as : List Entry → Option Reading
  read_as xs = Some (Ok xs)

  -- pieces that are read by themselves are read one after the other
  pieces-read : (n t : ℕ) (pieces : List (Option Columns × List ℕ)) (parts : List (List Entry))
      → map (λ piece. piece_reading layout piece.0 piece.1) pieces ≡ map read_as parts
      → t + total_of (whole_of parts) ≤ max_total
      → (ps : List Parts) × (gathered parts_of_piece pieces ≡ Some ps)
      × (items_after layout n t ps ≡ Ok (whole_of parts))
  unfolding gathered items_after parts_of_piece
  pieces-read n t [] [] e l = ([], refl, refl)
  pieces-read n t [] (xs ∷ parts) e l = cc e
  pieces-read n t (p ∷ pieces) [] e l = cc e
  pieces-read n t (p ∷ pieces) (xs ∷ parts) e l =
      let head : piece_reading layout p.0 p.1 ≡ read_as xs = cc e in
      let tail : map (λ piece. piece_reading layout piece.0 piece.1) pieces ≡ map read_as parts = cc e in
      let sum = sum_by-append weight_in xs (whole_of parts) in
      by (piece_parts layout p.0 p.1) refl head
      (λ qs. pieces-read (n + length qs) (t + total_of xs) pieces parts tail (omega (arith, l, sum)))
    where
      by : (o : Option (List Parts)) → piece_parts layout p.0 p.1 ≡ o
          → option_map (items_after layout 1 0) o ≡ read_as xs
          → ((qs : List Parts) → (ps : List Parts) × (gathered parts_of_piece pieces ≡ Some ps)
          × (items_after layout (n + length qs) (t + total_of xs) ps ≡ Ok (whole_of parts)))
          → (ps : List Parts) × (gathered parts_of_piece (p ∷ pieces) ≡ Some ps)
          × (items_after layout n t ps ≡ Ok (whole_of (xs ∷ parts)))
      by None is head later = cc head
      by (Some qs) is head later =
          let alone : items_after layout 1 0 qs ≡ Ok xs = cc head in
          let sum = sum_by-append weight_in xs (whole_of parts) in
          let here = items-move layout 1 n 0 t qs xs alone (omega (arith, l, sum)) in
          let (ps, are, rest) = later qs in (
            qs ++ ps,
            rw (is, are) refl,
            items-more layout n t xs qs ps here ∙ ap (joined xs) rest,
          )

pub pieces-are-read : PiecesAreRead
pieces-are-read layout texts parts are e l =
    let (ps, gives, items) = pieces-read layout 1 0 (all_pieces texts) parts e (omega (arith, l)) in
    rw (texts-pieces layout texts are, gives) (ap Some items)
