-- Texts that are cut piece by piece.
use Rattle.std.proofs.Common.{◌≡◌, ◌≤◌, ◌<◌, ◌+◌, ◌-◌, ◌++◌, ◌∷◌, ◌∙◌, ℕ, suc, zero, List, [], length, map, take, drop, true, Option, Some, None, refl, ap, arith, append_assoc, append-nil, length-drop}
use Rattle.std.specs.Prelude.{IfSome}
use Rattle.std.specs.List.{AllByRecursion}
use Rattle.std.proofs.lemmas.Bool.{false≢true}
use Rattle.std.proofs.lemmas.Grind.{flat_map-append}
use Rattle.std.proofs.lemmas.List.{drop-drop, map-append, take-append-drop, take_all}
use Rattle.hh_stream.specs.Cuttings.{whole_of}
use Rattle.hh_pieces.specs.CutFiles.{CutsBytes, span_bytes}
use Rattle.hh_pieces.specs.declared.cut_files.Span.{Span}
use Rattle.hh_pieces.specs.Pieces.{LaterBeginWithFeed, begins_with_feed}

-- the pieces so far, and the rest as the last of them
pub whole-end : (pieces : List (List ℕ)) (rest : List ℕ) → whole_of (pieces ++ rest ∷ []) ≡ whole_of pieces ++ rest
whole-end pieces rest =
    flat_map-append (λ (xs : List ℕ). xs) pieces (rest ∷ [])
    ∙ ap (λ (xs : List ℕ). whole_of pieces ++ xs) (append-nil rest)

-- the pieces so far and the rest, of which one piece more is cut off
pub whole-cut : (pieces : List (List ℕ)) (rest : List ℕ) (k : ℕ)
    → whole_of (pieces ++ take k rest ∷ []) ++ drop k rest ≡ whole_of pieces ++ rest
whole-cut pieces rest k =
    ap (λ (xs : List ℕ). xs ++ drop k rest) (whole-end pieces (take k rest))
    ∙ append_assoc (whole_of pieces) (take k rest) (drop k rest)
    ∙ ap (λ (xs : List ℕ). whole_of pieces ++ xs) (take-append-drop k rest)

abbrev pub Begins : List ℕ → Type 0
Begins p = begins_with_feed p ≡ true

take-begins : (rest : List ℕ) (k : ℕ) → 0 < k → Begins rest → Begins (take k rest)
take-begins [] k some h = absurd (false≢true h)
take-begins (c ∷ rest) zero some h = absurd (omega (arith, some))
take-begins (c ∷ rest) (suc k) some h = h

all-cut : (pieces : List (List ℕ)) (rest : List ℕ) (k : ℕ) → 0 < k → Begins (drop k rest)
    → AllByRecursion Begins (pieces ++ rest ∷ [])
    → AllByRecursion Begins ((pieces ++ take k rest ∷ []) ++ drop k rest ∷ [])
all-cut [] rest k some here h = (take-begins rest k some h.0, (here, tt))
all-cut (p ∷ pieces) rest k some here h = (h.0, all-cut pieces rest k some here h.1)

pub later-cut : (pieces : List (List ℕ)) (rest : List ℕ) (k : ℕ) → 0 < k → Begins (drop k rest)
    → LaterBeginWithFeed (pieces ++ rest ∷ []) → LaterBeginWithFeed ((pieces ++ take k rest ∷ []) ++ drop k rest ∷ [])
later-cut [] rest k some here h = (here, tt)
later-cut (p ∷ pieces) rest k some here h = all-cut pieces rest k some here h

-- ---- spans of a source
-- a source is cut into these spans, and the rest from a place on
pub record IsCutSoFar (bytes : List ℕ) (from : ℕ) (spans : List Span) : Type 0 where
  pub within : from ≤ length bytes
  pub whole : whole_of (map (span_bytes bytes) spans) ++ drop from bytes ≡ bytes
  pub feeds : LaterBeginWithFeed (map (span_bytes bytes) spans ++ drop from bytes ∷ [])

-- a place where a line feed stands is within the bytes
feed-within : (bytes : List ℕ) (at : ℕ) → Begins (drop at bytes) → at < length bytes
feed-within bytes at h = by (drop at bytes) refl h
  where
    by : (rest : List ℕ) → drop at bytes ≡ rest → Begins rest → at < length bytes
    by [] e b = absurd (false≢true b)
    by (c ∷ rest) e b = let long = ap length e in omega (arith, long, length-drop at bytes)

-- one more span
pub one-span-more : (bytes : List ℕ) (spans : List Span) (span : Span) → span.from < span.to
    → Begins (drop span.to bytes) → IsCutSoFar bytes span.from spans
    → IsCutSoFar bytes span.to (spans ++ span ∷ [])
one-span-more bytes spans span some feed h =
    let at = feed-within bytes span.to feed in
    let k : ℕ = span.to - span.from in
    let later : drop k (drop span.from bytes) ≡ drop span.to bytes =
    drop-drop k span.from bytes ∙ ap (λ n. drop n bytes) (let sum : span.from + k ≡ span.to = omega (arith, some) in sum) in
    let more : map (span_bytes bytes) (spans ++ span ∷ []) ≡ map (span_bytes bytes) spans ++ span_bytes bytes span ∷ [] =
    map-append (span_bytes bytes) spans (span ∷ []) in
    record {
      within = omega (arith, at);
      whole = rw (more, ← later) (whole-cut (map (span_bytes bytes) spans) (drop span.from bytes) k ∙ h.whole);
      feeds = rw (more, ← later)
          (later-cut (map (span_bytes bytes) spans) (drop span.from bytes) k (omega (arith, some)) (rw later feed) h.feeds);
    }

-- the same where the bytes may be known
pub known-span-more : (bytes : Option (List ℕ)) (spans : List Span) (span : Span) → span.from < span.to
    → IfSome bytes (λ bytes. Begins (drop span.to bytes)) → IfSome bytes (λ bytes. IsCutSoFar bytes span.from spans)
    → IfSome bytes (λ bytes. IsCutSoFar bytes span.to (spans ++ span ∷ []))
known-span-more None spans span some feed h = tt
known-span-more (Some bytes) spans span some feed h = one-span-more bytes spans span some feed h

-- and with the rest as the last span, which may end after the bytes
pub known-spans-end : (bytes : Option (List ℕ)) (spans : List Span) (from len to : ℕ) → len ≤ to
    → IfSome bytes (λ bytes. len ≡ length bytes) → IfSome bytes (λ bytes. IsCutSoFar bytes from spans)
    → IfSome bytes (λ bytes. CutsBytes bytes (spans ++ record { from = from; to = to } ∷ []))
known-spans-end None spans from len to enough size h = tt
known-spans-end (Some bytes) spans from len to enough size h =
    let rest : List ℕ = drop from bytes in
    let last : take (to - from) rest ≡ rest =
    take_all (to - from) rest (omega (arith, enough, size, length-drop from bytes)) in
    let span : Span = record { from = from; to = to } in
    let more : map (span_bytes bytes) (spans ++ span ∷ []) ≡ map (span_bytes bytes) spans ++ rest ∷ [] =
    map-append (span_bytes bytes) spans (span ∷ [])
    ∙ ap (λ (p : List ℕ). map (span_bytes bytes) spans ++ p ∷ []) last in
    record {
      whole = rw more (whole-end (map (span_bytes bytes) spans) rest ∙ h.whole);
      feeds = rw more h.feeds;
    }
