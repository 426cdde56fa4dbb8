-- Inputs that are opened in their order, and what is known of their bytes.
use Rattle.std.proofs.Common.{◌≡◌, ◌∙◌, refl, ℕ, ◌+◌, ◌<◌, ◌||◌, Bool, false, List, [], ◌∷◌, ◌++◌, Option, Some, None, IfSome, map, option_map, option_and_then, take, drop, length, slice_index_or, sym, ap, subst, arith}
use Rattle.std.specs.Prelude.{⊤}
use Rattle.std.proofs.lemmas.List.{append_assoc, append-nil, take_more, map-append}
use Rattle.hh_records.specs.Layouts.{every, stream_with, texts_known}
use Rattle.hh_records.specs.LayoutWords.{SaysLayout}
use Rattle.hh_records.specs.declared.layout.Layout.{Layout}
use Rattle.heavy_host.specs.Opening.{names_standard}
use Rattle.heavy_requests.specs.declared.request.RecordWords.{RecordWords}
use Rattle.heavy_answers.specs.Inputs.{Agree, AreInputs, AreRecords, input_names}

-- whether standard input was taken before or is by one of these names
abbrev pub takes : Bool → List (List ℕ) → Bool
takes taken [] = taken
takes taken (name ∷ names) = takes (taken || names_standard name) names

-- one name more
takes-push : (taken : Bool) (names : List (List ℕ)) (name : List ℕ)
    → takes taken (names ++ name ∷ []) ≡ (takes taken names || names_standard name)
takes-push taken [] name = refl
takes-push taken (n ∷ names) name = takes-push (taken || names_standard n) names name

-- one input more after those that are open
AreInputs-push : (opens : Bool → List ℕ → Option (List ℕ) → Type 0) (taken : Bool) (names : List (List ℕ)) (texts : List (Option (List ℕ)))
    (name : List ℕ) (text : Option (List ℕ)) → AreInputs opens taken names texts → opens (takes taken names) name text
    → AreInputs opens taken (names ++ name ∷ []) (texts ++ text ∷ [])
AreInputs-push opens taken [] [] name text are more = (more, tt)
AreInputs-push opens taken [] (t ∷ texts) name text are more = absurd are
AreInputs-push opens taken (n ∷ names) [] name text are more = absurd are
AreInputs-push opens taken (n ∷ names) (t ∷ texts) name text are more =
    (are.0, AreInputs-push opens (taken || names_standard n) names texts name text are.1 more)

-- the names so far, with the next one
names-next : {X : Type 0} (f : X → List ℕ) (xs : List X) (i : ℕ) (d : X) → i < length xs
    → map f (take (i + 1) xs) ≡ map f (take i xs) ++ f (slice_index_or xs i d) ∷ []
names-next f xs i d less = ap (map f) (take_more xs i d less) ∙ map-append f (take i xs) (slice_index_or xs i d ∷ [])

-- the next input is open
pub inputs_next : {X I : Type 0} (f : X → List ℕ) (text : I → Option (List ℕ)) (opens : Bool → List ℕ → Option (List ℕ) → Type 0)
    (xs : List X) (i : ℕ) (d : X) (inputs : List I) (input : I) → i < length xs
    → AreInputs opens false (map f (take i xs)) (map text inputs)
    → opens (takes false (map f (take i xs))) (f (slice_index_or xs i d)) (text input)
    → AreInputs opens false (map f (take (i + 1) xs)) (map text (inputs ++ input ∷ []))
inputs_next f text opens xs i d inputs input less are more =
    subst (λ names. AreInputs opens false names (map text (inputs ++ input ∷ []))) (sym (names-next f xs i d less))
    (subst (AreInputs opens false (map f (take i xs) ++ f (slice_index_or xs i d) ∷ [])) (sym (map-append text inputs (input ∷ [])))
    (AreInputs-push opens false (map f (take i xs)) (map text inputs) (f (slice_index_or xs i d)) (text input) are more))

-- whether standard input is taken by the names up to the next one
pub takes_next : {X : Type 0} (f : X → List ℕ) (xs : List X) (i : ℕ) (d : X) → i < length xs
    → takes false (map f (take (i + 1) xs)) ≡ (takes false (map f (take i xs)) || names_standard (f (slice_index_or xs i d)))
takes_next f xs i d less =
    ap (takes false) (names-next f xs i d less) ∙ takes-push false (map f (take i xs)) (f (slice_index_or xs i d))

-- all of what f gives is all of the list of what f gives
every-map : {A B : Type 0} (f : A → Option B) (xs : List A) → every (λ x. x) (map f xs) ≡ every f xs
unfolding every
every-map f [] = refl
every-map f (x ∷ xs) = ap (λ rest. option_and_then (λ y. option_map (λ ys. y ∷ ys) rest) (f x)) (every-map f xs)

-- nothing after what is known or not is nothing
nothing-after : {B : Type 0} (y : Option B) → option_and_then (λ z. option_map (λ ys. z ∷ ys) None) y ≡ None
nothing-after None = refl
nothing-after (Some y) = refl

-- with one of which nothing is known nothing is known of all
pub every_none : {A B : Type 0} (f : A → Option B) (xs : List A) (x : A) → f x ≡ None → every f (xs ++ x ∷ []) ≡ None
unfolding every
every_none f [] x none = ap (λ y. option_and_then (λ z. option_map (λ ys. z ∷ ys) (Some [])) y) none
every_none f (y ∷ xs) x none =
    ap (λ rest. option_and_then (λ z. option_map (λ ys. z ∷ ys) rest) (f y)) (every_none f xs x none) ∙ nothing-after (f y)

-- nothing agrees with all
agrees : (texts : Option (List (List ℕ))) → Agree texts None
agrees None = tt
agrees (Some all) = tt

-- what is not known agrees with all
pub agree_none : (texts others : Option (List (List ℕ))) → others ≡ None → Agree texts others
agree_none texts others none = subst (Agree texts) (sym none) (agrees texts)

-- each of these, where it is known, is that one, where that is known
abbrev pub Alike : List (Option (List ℕ)) → List (Option (List ℕ)) → Type 0
Alike [] [] = ⊤
Alike [] (other ∷ others) = ⊥
Alike (text ∷ texts) [] = ⊥
Alike (text ∷ texts) (other ∷ others) = IfSome text (λ bytes. IfSome other (λ known. known ≡ bytes)) × Alike texts others

-- one more before those that agree
agree-more : (text other : Option (List ℕ)) (texts others : Option (List (List ℕ)))
    → IfSome text (λ bytes. IfSome other (λ known. known ≡ bytes)) → Agree texts others
    → Agree (option_and_then (λ y. option_map (λ ys. y ∷ ys) texts) text) (option_and_then (λ y. option_map (λ ys. y ∷ ys) others) other)
agree-more None other texts others first rest = tt
agree-more (Some t) None None others first rest = tt
agree-more (Some t) None (Some ts) others first rest = tt
agree-more (Some t) (Some o) None others first rest = tt
agree-more (Some t) (Some o) (Some ts) None first rest = tt
agree-more (Some t) (Some o) (Some ts) (Some os) first rest = ap (λ one. one ∷ os) first ∙ ap (λ all. t ∷ all) rest

-- what is alike agrees
pub alike_agree : {A B : Type 0} (f : A → Option (List ℕ)) (g : B → Option (List ℕ)) (xs : List A) (ys : List B)
    → Alike (map f xs) (map g ys) → Agree (every f xs) (every g ys)
unfolding every
alike_agree f g [] [] alike = refl
alike_agree f g [] (y ∷ ys) alike = absurd alike
alike_agree f g (x ∷ xs) [] alike = absurd alike
alike_agree f g (x ∷ xs) (y ∷ ys) alike =
    agree-more (f x) (g y) (every f xs) (every g ys) alike.0 (alike_agree f g xs ys alike.1)

-- one more after those
alike-push : (texts others : List (Option (List ℕ))) (text other : Option (List ℕ)) → Alike texts others
    → IfSome text (λ bytes. IfSome other (λ known. known ≡ bytes)) → Alike (texts ++ text ∷ []) (others ++ other ∷ [])
alike-push [] [] text other alike more = (more, tt)
alike-push [] (o ∷ others) text other alike more = absurd alike
alike-push (t ∷ texts) [] text other alike more = absurd alike
alike-push (t ∷ texts) (o ∷ others) text other alike more = (alike.0, alike-push texts others text other alike.1 more)

-- one more after those that are alike
pub alike_more : {A B : Type 0} (f : A → Option (List ℕ)) (g : B → Option (List ℕ)) (xs : List A) (x : A) (ys : List B) (y : B)
    → Alike (map f xs) (map g ys) → IfSome (f x) (λ bytes. IfSome (g y) (λ known. known ≡ bytes))
    → Alike (map f (xs ++ x ∷ [])) (map g (ys ++ y ∷ []))
alike_more f g xs x ys y alike more =
    subst (λ texts. Alike texts (map g (ys ++ y ∷ []))) (sym (map-append f xs (x ∷ [])))
    (subst (Alike (map f xs ++ f x ∷ [])) (sym (map-append g ys (y ∷ []))) (alike-push (map f xs) (map g ys) (f x) (g y) alike more))

-- what was made of the inputs before those that are left, of all
abbrev pub MadeSoFar : {A B : Type 0} → (A → Option (List ℕ)) → (B → Option (List ℕ)) → List A → List A → List B → Type 0
MadeSoFar f g all left made = (before : List _) × (before ++ left ≡ all) × Alike (map f before) (map g made)

-- of none nothing is made
pub made_start : {A B : Type 0} (f : A → Option (List ℕ)) (g : B → Option (List ℕ)) (all left : List A) (made : List B) → left ≡ all
    → made ≡ [] → MadeSoFar f g all left made
made_start f g all left made same none = ([], same, subst (λ ys. Alike [] (map g ys)) (sym none) tt)

-- one more is made of the next one
pub made_more : {A B : Type 0} (f : A → Option (List ℕ)) (g : B → Option (List ℕ)) (all : List A) (x : A) (left now : List A)
    (made new : List B) (y : B) → now ≡ x ∷ left → new ≡ made ++ y ∷ []
    → IfSome (f x) (λ bytes. IfSome (g y) (λ known. known ≡ bytes)) → MadeSoFar f g all now made → MadeSoFar f g all left new
made_more f g all x left now made new y steps pushed alike (before, parts, so_far) = (
  before ++ x ∷ [],
  append_assoc before (x ∷ []) left ∙ (rw steps at parts),
  subst (λ ys. Alike (map f (before ++ x ∷ [])) (map g ys)) (sym pushed) (alike_more f g before x made y so_far alike),
)

-- with none left all are made
pub made_all : {A B : Type 0} (f : A → Option (List ℕ)) (g : B → Option (List ℕ)) (all left : List A) (made : List B) → left ≡ []
    → MadeSoFar f g all left made → Alike (map f all) (map g made)
made_all f g all left made none (before, parts, so_far) =
    subst (λ xs. Alike (map f xs) (map g made)) (sym (append-nil before) ∙ rw none at parts) so_far

-- what is known of the one is what is known of the other
pub known_same : (text other : Option (List ℕ)) → other ≡ text → IfSome text (λ bytes. IfSome other (λ known. known ≡ bytes))
known_same None other same = tt
known_same (Some bytes) other same = subst (λ o. IfSome o (λ known. known ≡ bytes)) (sym same) refl

-- what is alike with some is some
pub alike_some : {A B : Type 0} (f : A → Option (List ℕ)) (g : B → Option (List ℕ)) (xs : List A) (ys : List B)
    → Alike (map f xs) (map g ys) → 0 < length xs → 0 < length ys
alike_some f g [] ys alike some = absurd (omega (arith, some))
alike_some f g (x ∷ xs) [] alike some = absurd alike
alike_some f g (x ∷ xs) (y ∷ ys) alike some = omega arith

-- what agrees reads as the same records
agree-reads : (layout : Layout) (texts others : Option (List (List ℕ))) → Agree texts others
    → IfSome texts (λ all. IfSome (option_map (stream_with layout) others) (λ reading. reading ≡ stream_with layout all))
agree-reads layout None others agree = tt
agree-reads layout (Some all) None agree = tt
agree-reads layout (Some all) (Some known) agree = ap (stream_with layout) agree

-- records of inputs that were opened in their order are those that the words name
pub records_are_of : {I R : Type 0} (opens : Bool → List ℕ → Option (List ℕ) → Type 0) (words : RecordWords) (said layout : Layout)
    (text : I → Option (List ℕ)) (known : R → Option (List ℕ)) (inputs : List I) (readers : List R) → layout ≡ said
    → SaysLayout words.layout said → AreInputs opens false (input_names words) (map text inputs)
    → Agree (every text inputs) (every known readers) → AreRecords opens words layout (texts_known known layout readers)
records_are_of opens words said layout text known inputs readers same says opened agree =
    subst (λ l. AreRecords opens words l (texts_known known l readers)) (sym same) (record {
      said = says;
      texts = map text inputs;
      opened = opened;
      named = refl;
      read = subst (λ all. IfSome all (λ ts. IfSome (option_map (stream_with said) (every known readers)) (λ r. r ≡ stream_with said ts)))
          (sym (every-map text inputs)) (agree-reads said (every text inputs) (every known readers) agree);
    })

-- a list of no length is empty
pub nothing_left : {A : Type 0} (xs : List A) → 0 ≡ length xs → [] ≡ xs
nothing_left [] none = refl
nothing_left (x ∷ xs) none = absurd (omega (arith, none))

-- the first of some and the rest of them are all
pub first_and_rest : {A : Type 0} (xs : List A) (x : A) → 0 < length xs → x ≡ slice_index_or xs 0 x → x ∷ (take 0 xs ++ drop 1 xs) ≡ xs
first_and_rest [] x some first = absurd (omega (arith, some))
first_and_rest (y ∷ ys) x some first = ap (λ one. one ∷ ys) first
