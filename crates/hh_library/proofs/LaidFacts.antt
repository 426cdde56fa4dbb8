-- What is known of the records of one text in a layout.
use Rattle.std.proofs.Common.{◌≡◌, ◌∙◌, ◌∷◌, [], ℕ, List, Ok, Option, Some, refl, sym}
use Rattle.hh_records.specs.Layouts.{every, texts_known}
use Rattle.hh_stream.specs.Weights.{Entry}
use Rattle.hh_records.specs.Streams.{Reading}
use Rattle.hh_records.specs.declared.layout.Layout.{Layout}
use Rattle.hh_library.specs.LaidOut.{text_laid}

every-one : {A B : Type 0} (f : A → Option B) (x : A) (y : B) → f x ≡ Some y → every f (x ∷ []) ≡ Some (y ∷ [])
unfolding every
every-one f x y e = rw e refl

-- one reader of a text and no others
pub known-one : {R : Type 0} (f : R → Option (List ℕ)) (layout : Layout) (r : R) (others : List R) (text : List ℕ)
    → others ≡ [] → f r ≡ Some text → texts_known f layout (r ∷ others) ≡ text_laid layout text
known-one f layout r others text none is = rw (none, every-one f r text is) refl

same_stream : (xs ys : List Entry) → ◌≡◌ {A = Option Reading} (Some (Ok xs)) (Some (Ok ys)) → xs ≡ ys
same_stream xs ys e = cc

-- records that are read twice are one stream
pub read_once : (known : Option Reading) (xs ys : List Entry) → known ≡ Some (Ok xs) → known ≡ Some (Ok ys) → xs ≡ ys
read_once known xs ys first again = same_stream xs ys (sym first ∙ again)
