-- Entries of which some are counted: those of whose keys a tally isn't sure.
use Rattle.std.proofs.Common.{◌≡◌, ℕ, ◌+◌, ◌<◌, true, false, cond, not, List, [], ◌∷◌, ◌++◌, length, get_or, map, Some, take, drop, slice_get, sym, ap, ◌∙◌, append_assoc, append-nil, arith}
use Rattle.std.specs.Map.{keys_of}
use Rattle.std.proofs.Math.Seq.{get_or-append_seam}
use Rattle.std.proofs.lemmas.List.{length-append, length-map, map-append, take-append-drop}
use Rattle.std.proofs.lemmas.List.Elements.{filter-append}
use Rattle.std.proofs.lemmas.Map.Entries.{length-keys_of}
use Rattle.std.proofs.lemmas.Option.{slice_get-get_or}
use Rattle.hh_stream.specs.Weights.{Entry, weight_of}
use Rattle.hh_summaries.specs.Report.{weights_at}
use Rattle.hh_tally.specs.Tallies.{TallyView, is_sure, is_unsure, unsure_of}
use Rattle.hh_summaries.proofs.Level.{entry_at, passes_more}

-- the weights of the keys of some entries and of others
weights-append : (xs ds es : List Entry) → weights_at (keys_of (ds ++ es)) xs ≡ weights_at (keys_of ds) xs ++ weights_at (keys_of es) xs
weights-append xs ds es =
    ap (map (λ x. weight_of x xs)) (map-append (λ (e : Entry). e.0) ds es)
    ∙ map-append (λ x. weight_of x xs) (keys_of ds) (keys_of es)

module _ (t : TallyView) (es : List Entry) (i : ℕ) (e : Entry) (l : i < length es) (is : e ≡ get_or es i e) where
  found : Some e ≡ slice_get es i
  found = ap Some is ∙ sym (slice_get-get_or es i e l)

  -- one entry more has one weight more
  pub weights_more : (xs : List Entry)
      → weights_at (keys_of (take (i + 1) es)) xs ≡ weights_at (keys_of (take i es)) xs ++ weight_of e.0 xs ∷ []
  weights_more xs = ap (λ (ds : List Entry). weights_at (keys_of ds) xs) (entry_at es i e found) ∙ weights-append xs (take i es) (e ∷ [])

  -- one of a key of which the tally is sure isn't counted
  pub unsure_same : is_sure t e.0 ≡ true → unsure_of t (take (i + 1) es) ≡ unsure_of t (take i es)
  unsure_same sure = passes_more (is_unsure t) es i e found
      ∙ ap (λ b. unsure_of t (take i es) ++ cond (not b) (e ∷ []) []) sure
      ∙ append-nil (unsure_of t (take i es))

  module _ (other : is_sure t e.0 ≡ false) where
    -- another one is
    pub unsure_more : unsure_of t (take (i + 1) es) ≡ unsure_of t (take i es) ++ e ∷ []
    unsure_more = passes_more (is_unsure t) es i e found
        ∙ ap (λ b. unsure_of t (take i es) ++ cond (not b) (e ∷ []) []) other

    -- and stands behind those before it
    unsure_split : unsure_of t es ≡ unsure_of t (take i es) ++ e ∷ unsure_of t (drop (i + 1) es)
    unsure_split =
        let rest = drop (i + 1) es in
        ap (unsure_of t) (sym (take-append-drop (i + 1) es))
        ∙ filter-append (is_unsure t) (take (i + 1) es) rest
        ∙ ap (λ (ds : List Entry). ds ++ unsure_of t rest) unsure_more
        ∙ append_assoc (unsure_of t (take i es)) (e ∷ []) (unsure_of t rest)

    pub unsure_within : length (unsure_of t (take i es)) < length (unsure_of t es)
    unsure_within = omega (
      arith,
      ap length unsure_split,
      length-append (unsure_of t (take i es)) (e ∷ unsure_of t (drop (i + 1) es)),
    )

    -- so its weight is the next that was counted
    pub counted_next : (xs : List Entry) (counted : List ℕ) (d : ℕ) → counted ≡ weights_at (keys_of (unsure_of t es)) xs
        → get_or counted (length (unsure_of t (take i es))) d ≡ weight_of e.0 xs
    counted_next xs counted d are =
        let before = unsure_of t (take i es) in
        let after = unsure_of t (drop (i + 1) es) in
        let ws = weights_at (keys_of before) xs in
        let long : length before ≡ length ws = sym (length-map (keys_of before) (λ x. weight_of x xs) ∙ length-keys_of before) in
        ap (λ (ns : List ℕ). get_or ns (length before) d)
        (are ∙ ap (λ (ds : List Entry). weights_at (keys_of ds) xs) unsure_split ∙ weights-append xs before (e ∷ after))
        ∙ ap (λ n. get_or (ws ++ weight_of e.0 xs ∷ weights_at (keys_of after) xs) n d) long
        ∙ get_or-append_seam ws (weight_of e.0 xs) (weights_at (keys_of after) xs) d
