-- Files in pieces, each of which is read by itself.
use Rattle.std.proofs.Common.{◌≡◌, ◌≤◌, ◌<◌, ◌+◌, ◌∷◌, ◌++◌, ◌∙◌, ℕ, zero, suc, List, [], length, map, take, get_or, Option, Some, None, refl, sym, ap, arith, append_assoc}
use Rattle.std.specs.Prelude.{IfSome, option_map}
use Rattle.std.proofs.lemmas.List.{get_or-map, get_or_append_left, length-map, map-append, take_all, take_more}
use Rattle.std.proofs.lemmas.Simd.{map-map}
use Rattle.hh_stream.specs.Weights.{Entry}
use Rattle.hh_pieces.specs.CutFiles.{AddsSpans, CutsBytes, file_piece, span_bytes}
use Rattle.hh_pieces.specs.CutTexts.{AreReadByPieces, Piece, padded, piece_items}
use Rattle.hh_pieces.specs.Laws.{FeedsOutsideQuotesAreCuts, PiecesAreRead}
use Rattle.hh_records.specs.Layouts.{Columns, every}
use Rattle.hh_records.specs.Layouts.{FindsColumns, rows_in}
use Rattle.hh_pieces.specs.declared.cut_files.FilePiece.{FilePiece}
use Rattle.hh_pieces.specs.declared.cut_files.Span.{Span}
use Rattle.hh_records.specs.declared.layout.Layout.{Layout}
use Rattle.hh_pieces.proofs.CutTextFacts.{ArePiecesOf, one-text-more, read-by-pieces, read-padded}
use Rattle.hh_records.proofs.LayoutFacts.{every-length}
use Rattle.hh_records.proofs.OpenFacts.{every-first}

-- what f gives of one of all
pub every-at : {A B : Type 0} (f : A → Option B) (xs : List A) (ys : List B) (i : ℕ) (x : A) (d : B)
    → every f xs ≡ Some ys → i < length xs → f (get_or xs i x) ≡ Some (get_or ys i d)
every-at f [] ys i x d e l = absurd (omega (arith, l))
every-at f (z ∷ xs) ys zero x d e l =
    let (c, later, one, others, all) = every-first f z xs ys e in one ∙ ap Some (sym (ap (λ l. get_or l 0 d) all))
every-at f (z ∷ xs) ys (suc i) x d e l =
    let (c, later, one, others, all) = every-first f z xs ys e in
    every-at f xs later i x d others (omega (arith, l)) ∙ ap Some (sym (ap (λ l. get_or l (suc i) d) all))

module _ (layout : Layout) where
  -- the pieces of a source are added, the first one before the later ones
  pub source-added : (bytes : Option (List ℕ)) (number : ℕ) (old mid new : List FilePiece) (columns : Columns)
      (piece : FilePiece) (first : Span) (later spans : List Span) → spans ≡ first ∷ later
      → IfSome bytes (λ bytes. CutsBytes bytes spans)
      → IfSome (option_map (λ bytes. span_bytes bytes first) bytes)
      (λ bytes. FindsColumns layout (rows_in layout bytes) (Some columns))
      → mid ≡ old ++ piece ∷ []
      → ((texts : List (List ℕ)) → file_piece texts piece ≡ (None, span_bytes (get_or texts number []) first))
      → ((texts : List (List ℕ)) → map (file_piece texts) new
      ≡ map (file_piece texts) mid ++ map (λ span. (Some columns, span_bytes (get_or texts number []) span)) later)
      → IfSome bytes (λ text. AddsSpans layout number text old new)
  source-added None number old mid new columns piece first later spans are cuts chosen more is added = tt
  source-added (Some text) number old mid new columns piece first later spans are cuts chosen more is added = record {
    t = record { pieces = map (span_bytes text) spans; columns = columns };
    begins = record { feeds = cuts.feeds; columns = rw are chosen };
    is = cuts.whole;
    added = λ texts here.
        added texts
        ∙ ap (λ l. map (file_piece texts) l ++ map (λ span. (Some columns, span_bytes (get_or texts number []) span)) later) more
        ∙ ap (λ l. l ++ map (λ span. (Some columns, span_bytes (get_or texts number []) span)) later)
        (map-append (file_piece texts) old (piece ∷ []))
        ∙ append_assoc (map (file_piece texts) old) (file_piece texts piece ∷ [])
        (map (λ span. (Some columns, span_bytes (get_or texts number []) span)) later)
        ∙ ap (λ (q : Piece). map (file_piece texts) old
        ++ q ∷ map (λ span. (Some columns, span_bytes (get_or texts number []) span)) later) (is texts)
        ∙ rw (here, are)
        (ap (λ (l : List Piece). map (file_piece texts) old ++ (None, span_bytes text first) ∷ l) (sym (map-map _ _ later)));
  }

  -- the pieces of one source more
  pub files-more : {S : Type 0} (f : S → Option (List ℕ)) (sources : List S) (number : ℕ) (source : S)
      (old new : List FilePiece) → number < length sources → source ≡ get_or sources number source
      → IfSome (f source) (λ text. AddsSpans layout number text old new)
      → IfSome (every f sources) (λ texts. ArePiecesOf layout (take number texts) (map (file_piece texts) old))
      → IfSome (every f sources) (λ texts. ArePiecesOf layout (take (number + 1) texts) (map (file_piece texts) new))
  files-more f sources number source old new l at added h = by (every f sources) refl h
    where
      by : (o : Option (List (List ℕ))) → every f sources ≡ o
          → IfSome o (λ texts. ArePiecesOf layout (take number texts) (map (file_piece texts) old))
          → IfSome o (λ texts. ArePiecesOf layout (take (number + 1) texts) (map (file_piece texts) new))
      by None e h = tt
      by (Some texts) e h =
          let told : f source ≡ Some (get_or texts number []) = ap f at ∙ every-at f sources texts number source [] e l in
          let adds : AddsSpans layout number (get_or texts number []) old new = rw told at added in
          let long = every-length f sources texts e in
          rw (take_more texts number [] (omega (arith, l, long)), adds.added texts refl)
          (one-text-more layout (take number texts) (map (file_piece texts) old) (get_or texts number []) adds.t h adds.begins
          adds.is)

  -- files that were gone through are read by their pieces
  pub files-read : FeedsOutsideQuotesAreCuts → PiecesAreRead → {S : Type 0} (f : S → Option (List ℕ)) (sources : List S)
      (number : ℕ) (pieces : List FilePiece) → length sources ≤ number
      → IfSome (every f sources) (λ texts. ArePiecesOf layout (take number texts) (map (file_piece texts) pieces))
      → IfSome (every f sources) (λ texts. AreReadByPieces layout texts
      (map (λ piece. piece_items layout (file_piece texts piece)) pieces))
  files-read law reads f sources number pieces l h = by (every f sources) refl h
    where
      by : (o : Option (List (List ℕ))) → every f sources ≡ o
          → IfSome o (λ texts. ArePiecesOf layout (take number texts) (map (file_piece texts) pieces))
          → IfSome o (λ texts. AreReadByPieces layout texts
          (map (λ piece. piece_items layout (file_piece texts piece)) pieces))
      by None e h = tt
      by (Some texts) e h = λ parts is few.
          let long = every-length f sources texts e in
          read-by-pieces layout law reads texts (map (file_piece texts) pieces)
          (rw (take_all number texts (omega (arith, l, long))) at h) parts
          (map-map (piece_items layout) (file_piece texts) pieces ∙ is) few

  -- and by these with pieces of no items after them
  pub files-padded : (o : Option (List (List ℕ))) (count : ℕ) (pieces : List FilePiece)
      → IfSome o (λ texts. AreReadByPieces layout texts (map (λ piece. piece_items layout (file_piece texts piece)) pieces))
      → IfSome o (λ texts. (all : List (Option (List Entry)))
      × (option_map (λ texts. padded count (map (λ piece. piece_items layout (file_piece texts piece)) pieces)) o ≡ Some all)
      × AreReadByPieces layout texts all)
  files-padded None count pieces h = tt
  files-padded (Some texts) count pieces h = (
    padded count (map (λ piece. piece_items layout (file_piece texts piece)) pieces),
    refl,
    read-padded layout texts _ count h,
  )

  -- what a piece has whose bytes have these items
  pub piece-fed : {S : Type 0} (f : S → Option (List ℕ)) (sources : List S) (pieces : List FilePiece) (count piece : ℕ)
      (part : FilePiece) (source : S) (xs : List Entry) → piece < length pieces → part ≡ get_or pieces piece part
      → part.source < length sources → source ≡ get_or sources part.source source
      → IfSome (option_map (λ bytes. span_bytes bytes part.span) (f source))
      (λ bytes. piece_items layout (part.columns, bytes) ≡ Some xs)
      → IfSome (option_map (λ texts. padded count
      (map (λ piece. piece_items layout (file_piece texts piece)) pieces)) (every f sources))
      (λ all. get_or all piece None ≡ Some xs)
  piece-fed f sources pieces count piece part source xs l at within here has = by (every f sources) refl
    where
      by : (o : Option (List (List ℕ))) → every f sources ≡ o
          → IfSome (option_map (λ texts. padded count
          (map (λ piece. piece_items layout (file_piece texts piece)) pieces)) o)
          (λ all. get_or all piece None ≡ Some xs)
      by None e = tt
      by (Some texts) e =
          let told : f source ≡ Some (get_or texts part.source []) =
          ap f here ∙ every-at f sources texts part.source source [] e within in
          let F : FilePiece → Option (List Entry) = λ piece. piece_items layout (file_piece texts piece) in
          let items : F part ≡ Some xs = rw told at has in
          get_or_append_left (map F pieces) _ None piece (rw (length-map pieces F) l)
          ∙ get_or-map F pieces piece part None l
          ∙ ap F (sym at)
          ∙ items

-- one later piece more of the file with this number
pub pieces-more : (texts : List (List ℕ)) (number : ℕ) (columns copy : Columns) (later : List Span) (i : ℕ) (d : Span)
    (old now new : List FilePiece) (one : FilePiece) → i < length later → copy ≡ columns
    → file_piece texts one ≡ (Some copy, span_bytes (get_or texts number []) (get_or later i d))
    → new ≡ now ++ one ∷ []
    → map (file_piece texts) now
    ≡ map (file_piece texts) old ++ map (λ span. (Some columns, span_bytes (get_or texts number []) span)) (take i later)
    → map (file_piece texts) new
    ≡ map (file_piece texts) old ++ map (λ span. (Some columns, span_bytes (get_or texts number []) span)) (take (i + 1) later)
pieces-more texts number columns copy later i d old now new one less same it is so_far =
    let piece : Span → Piece = λ span. (Some columns, span_bytes (get_or texts number []) span) in
    let before : List Piece = map (file_piece texts) old in
    let taken : map piece (take (i + 1) later) ≡ map piece (take i later) ++ piece (get_or later i d) ∷ [] =
    ap (map piece) (take_more later i d less) ∙ map-append piece (take i later) (get_or later i d ∷ []) in
    ap (map (file_piece texts)) is ∙ map-append (file_piece texts) now _
    ∙ rw (it, same, so_far) (append_assoc before (map piece (take i later)) (piece (get_or later i d) ∷ []))
    ∙ ap (λ ps. before ++ ps) (sym taken)
