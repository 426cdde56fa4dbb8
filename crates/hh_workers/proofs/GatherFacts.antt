-- What sketches have of the items of pieces.
use Rattle.std.proofs.Common.{◌≡◌, ◌⊎◌, inr, ℕ, ◌+◌, ◌<◌, ◌≤◌, List, [], ◌∷◌, ◌++◌, length, refl, sym, ap, ◌∙◌, subst, arith, sum_by}
use Rattle.std.proofs.lemmas.List.Elements.{All-append}
use Rattle.std.proofs.lemmas.Grind.{flat_map-append}
use Rattle.hh_stream.specs.Weights.{Entry, max_total, total_of}
use Rattle.hh_stream.specs.Taking.{Takes}
use Rattle.hh_stream.proofs.TakingFacts.{follows}
use Rattle.hh_shared.specs.Numbers.{AreDisjoint, IsDistinctBelow}
use Rattle.hh_workers.specs.Gathered.{Gathers, GathersAll}
use Rattle.hh_workers.specs.Pieces.{MayRefuse, items_at, piece_of}
use Rattle.hh_workers.specs.Workers.{HasEach}
use Rattle.hh_workers.proofs.PieceSums.{distinct-joined, items_at-push, joined_total, more_total, next_refused, sum_by-all_items}

module _ {T : Type 0} (is_of : List Entry → T → Type 0) (known : Type 0) (pieces : List (List Entry)) where
  -- nobody has claimed a piece
  pub gathers_none : (t : T) → is_of [] t → Gathers is_of known pieces [] t
  gathers_none t made = record {
    xs = [];
    positive = λ k d within. absurd (omega (arith, within));
    made = made;
    theirs = λ _. record {
      distinct = record { once = λ j. omega arith; below = λ j some. absurd (omega arith) };
      items = refl;
    };
  }

  -- the items of a piece more were taken
  pub gathers_more : (add : T → Entry → T) (weight : T → ℕ)
      → ((t : T) (xs : List Entry) (e : Entry) → is_of xs t → is_of (xs ++ e ∷ []) (add t e))
      → (numbers : List ℕ) (n : ℕ) (was t : T) → Takes add weight was t (λ xs. known → xs ≡ piece_of pieces n)
      → IsDistinctBelow (length pieces) (numbers ++ n ∷ []) → Gathers is_of known pieces numbers was
      → Gathers is_of known pieces (numbers ++ n ∷ []) t
  gathers_more add weight more numbers n was t took distinct p = record {
    xs = p.xs ++ took.xs;
    positive = All-append (λ (e : Entry). 0 < e.1) p.xs took.xs p.positive took.positive;
    made = subst (is_of (p.xs ++ took.xs)) (sym took.taken) (follows is_of add more took.xs p.xs was p.made);
    theirs = λ now. record {
      distinct = distinct;
      items = (λ i. (p.theirs now).items i ++ (took.given now) i) ∙ sym (items_at-push pieces numbers n);
    };
  }

  -- the next piece is refused
  pub piece_refused : (refuses : ℕ → Type 0) (numbers : List ℕ) (n : ℕ) (was : T) (weight : ℕ) → n < length pieces
      → IsDistinctBelow (length pieces) (numbers ++ n ∷ []) → (p : Gathers is_of known pieces numbers was)
      → weight ≡ total_of p.xs → refuses n ⊎ (max_total < weight + total_of (piece_of pieces n)) → known
      → MayRefuse refuses pieces
  piece_refused refuses numbers n was weight low distinct p is refused now =
      next_refused refuses pieces n (total_of (items_at pieces numbers)) weight low
      (more_total pieces numbers n distinct) (omega (arith, is, ap total_of (p.theirs now).items)) refused

  module _ (one other : List ℕ) (t u : T) (apart : AreDisjoint one other) (p : Gathers is_of known pieces one t)
      (q : Gathers is_of known pieces other u) where
    -- the sketches of two workers are merged
    pub gathers_both : (both : T) → is_of (p.xs ++ q.xs) both → Gathers is_of known pieces (one ++ other) both
    gathers_both both made = record {
      xs = p.xs ++ q.xs;
      positive = All-append (λ (e : Entry). 0 < e.1) p.xs q.xs p.positive q.positive;
      made = made;
      theirs = λ now. record {
        distinct = distinct-joined (length pieces) one other (p.theirs now).distinct (q.theirs now).distinct apart;
        items = (λ i. (p.theirs now).items i ++ (q.theirs now).items i)
            ∙ sym (flat_map-append (piece_of pieces) one other);
      };
    }

    -- or have too much
    pub both_refused : (refuses : ℕ → Type 0) → max_total < total_of p.xs + total_of q.xs → known
        → MayRefuse refuses pieces
    both_refused refuses high now =
        inr (omega (
          arith,
          high,
          ap total_of (p.theirs now).items,
          ap total_of (q.theirs now).items,
          joined_total pieces one other (p.theirs now).distinct (q.theirs now).distinct apart,
        ))

  -- each piece was claimed
  pub gathers_all : (numbers : List ℕ) (t : T) → HasEach (length pieces) numbers
      → (p : Gathers is_of known pieces numbers t) → total_of p.xs ≤ max_total → GathersAll is_of known pieces t
  gathers_all numbers t each p few = record {
    xs = p.xs;
    positive = p.positive;
    made = p.made;
    few = few;
    whole = λ now f. ap (sum_by f) (p.theirs now).items ∙ sum_by-all_items f pieces numbers each.distinct each.all;
  }
