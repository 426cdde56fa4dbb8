-- What a taker is after some items.
use Rattle.std.proofs.Common.{◌≡◌, ◌∙◌, ◌++◌, ◌∷◌, List, [], Result, Ok, Err, IfOk, ap, refl, sym}
use Rattle.hh_stream.specs.Weights.{Entry}
use Rattle.hh_stream.proofs.TakingFacts.{follows}
use Rattle.hh_records.specs.Streams.{Known, ReadsAs}
use Rattle.hh_records.specs.Taking.{TakesItems}

-- where an item more makes the g of all of the g of those before, a taker that was the g of no
-- items is that of all that it has taken
pub taken_all : {A : Type 0} (f : A → Entry → A) (g : List Entry → A)
    → ((xs : List Entry) (e : Entry) → g (xs ++ e ∷ []) ≡ f (g xs) e) → {known : Known} {old new : A}
    → (t : TakesItems f known old new) → old ≡ g [] → new ≡ g t.xs
taken_all f g more t start =
    t.taken ∙ follows (λ xs a. a ≡ g xs) f (λ a xs e p. ap (λ b. f b e) p ∙ sym (more xs e)) t.xs [] _ start

-- a stream that was empty has all that it has taken
pub stream_taken : {E : Type 0} (known : Known) (start : List Entry) (r : Result (List Entry) E) → start ≡ []
    → IfOk r (λ s. TakesItems (λ xs e. xs ++ e ∷ []) known start s) → IfOk r (λ s. ReadsAs known (Ok s))
stream_taken known start (Ok s) empty t =
    rw (taken_all (λ (xs : List Entry) (e : Entry). xs ++ e ∷ []) (λ xs. xs) (λ xs e. refl) t empty) t.reads
stream_taken known start (Err e) empty t = tt
