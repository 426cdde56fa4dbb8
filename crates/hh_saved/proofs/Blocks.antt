-- Blocks of one size, one after the other.
use Rattle.std.proofs.Common.{◌≡◌, ℕ, zero, suc, ◌+◌, ◌*◌, List, [], ◌∷◌, ◌++◌, length, take, drop, refl, sym, ap, ap₂, ◌∙◌, arith}
use Rattle.std.specs.List.{flat_map, AllByRecursion}
use Rattle.std.proofs.lemmas.List.{drop-drop, take-append-drop, take_at, drop_at, length-take, length-drop, length-append, nil_from_length}
use Rattle.std.proofs.lemmas.List.Concat.{flat_map-cons}
use Rattle.hh_saved.specs.Reading.{blocks_in}
use Rattle.hh_saved.proofs.Fields.{IsBytes, IsBytes-take, IsBytes-drop}

-- one block more
pub blocks_in-more : {X : Type 0} (decode : List ℕ → X) (size n m : ℕ) (bytes : List ℕ) → m ≡ suc n
    → blocks_in decode size m bytes ≡ blocks_in decode size n bytes ++ decode (take size (drop (size * n) bytes)) ∷ []
blocks_in-more {X} decode size zero m bytes e =
    let none : size * 0 ≡ 0 = omega arith in
    rw (e, none) refl
blocks_in-more {X} decode size (suc n) m bytes e =
    let further : size + size * n ≡ size * suc n = omega arith in
    let rest = blocks_in-more decode size n (suc n) (drop size bytes) refl in
    rw e (ap (λ (xs : List X). decode (take size bytes) ∷ xs)
    (rest ∙ ap (λ (b : List ℕ). blocks_in decode size n (drop size bytes) ++ decode (take size b) ∷ [])
    (drop-drop (size * n) size bytes ∙ ap (λ (k : ℕ). drop k bytes) further)))

-- how many blocks are read
pub length-blocks_in : {X : Type 0} (decode : List ℕ → X) (size n : ℕ) (bytes : List ℕ)
    → length (blocks_in decode size n bytes) ≡ n
length-blocks_in decode size zero bytes = refl
length-blocks_in decode size (suc n) bytes = ap suc (length-blocks_in decode size n (drop size bytes))

-- how a block is decoded and encoded
pub record IsCode {X : Type 0} (decode : List ℕ → X) (encode : X → List ℕ) (size : ℕ) (P : X → Type 0) : Type 0 where
  pub len : (x : X) → length (encode x) ≡ size
  pub back : (block : List ℕ) → length block ≡ size → IsBytes block → encode (decode block) ≡ block
  pub again : (x : X) → P x → decode (encode x) ≡ x

-- the blocks that are read are the bytes
pub flat_map-blocks_in : {X : Type 0} (decode : List ℕ → X) (encode : X → List ℕ) (size : ℕ) (P : X → Type 0)
    → IsCode decode encode size P
    → (n : ℕ) (bytes : List ℕ) → length bytes ≡ size * n → IsBytes bytes
    → flat_map encode (blocks_in decode size n bytes) ≡ bytes
flat_map-blocks_in decode encode size P code zero bytes len fits = sym (nil_from_length bytes (omega (arith, len)))
flat_map-blocks_in decode encode size P code (suc n) bytes len fits =
    let front = take size bytes in
    let rest = drop size bytes in
    let front_len : length front ≡ size = omega (arith, length-take size bytes) in
    let rest_len : length rest ≡ size * n = omega (arith, length-drop size bytes) in
    flat_map-cons encode (decode front) (blocks_in decode size n rest)
    ∙ ap₂ (λ (x y : List ℕ). x ++ y) (code.back front front_len (IsBytes-take size bytes fits))
    (flat_map-blocks_in _ _ _ _ code n rest rest_len (IsBytes-drop size bytes fits))
    ∙ take-append-drop size bytes

-- how many bytes the blocks have
pub length-flat_map : {X : Type 0} (decode : List ℕ → X) (encode : X → List ℕ) (size : ℕ) (P : X → Type 0)
    → IsCode decode encode size P → (xs : List X) → length (flat_map encode xs) ≡ size * length xs
length-flat_map decode encode size P code [] = omega arith
length-flat_map decode encode size P code (x ∷ xs) =
    let more = ap length (flat_map-cons encode x xs) ∙ length-append (encode x) (flat_map encode xs) in
    omega (arith, more, code.len x, length-flat_map _ _ _ _ code xs)

-- blocks that were written are read again
pub blocks_in-flat_map : {X : Type 0} (decode : List ℕ → X) (encode : X → List ℕ) (size : ℕ) (P : X → Type 0)
    → IsCode decode encode size P
    → (xs : List X) → AllByRecursion P xs → blocks_in decode size (length xs) (flat_map encode xs) ≡ xs
blocks_in-flat_map decode encode size P code [] all = refl
blocks_in-flat_map {X} decode encode size P code (x ∷ xs) all =
    let rest = flat_map encode xs in
    ap (blocks_in decode size (suc (length xs))) (flat_map-cons encode x xs)
    ∙ ap₂ (λ (y : X) (ys : List X). y ∷ ys)
    (ap decode (take_at (encode x) rest size (code.len x)) ∙ code.again x all.0)
    (ap (blocks_in decode size (length xs)) (drop_at (encode x) rest size (code.len x))
    ∙ blocks_in-flat_map _ _ _ _ code xs all.1)
