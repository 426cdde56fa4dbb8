-- Rows drawn one after the other.
use Rattle.std.proofs.Common.{◌≡◌, ℕ, zero, suc, ◌+◌, ◌*◌, ◌-◌, ◌<◌, ◌≤◌, List, [], ◌∷◌, ◌++◌, length, refl, sym, ap, ap₂, ◌∙◌, append_assoc, arith, true}
use Rattle.std.specs.List.{AllByRecursion}
use Rattle.std.proofs.lemmas.List.{append-nil}
use Rattle.std.proofs.lemmas.List.Elements.{All-from_recursion}
use Rattle.std.proofs.lemmas.Nat.{mod_below}
use Rattle.rand_core.specs.Steps.{first_words}
use Rattle.rand_pcg.specs.Lcg.{Lcg}
use Rattle.rand_pcg.specs.Pcg.{pcg64}
use Rattle.hh_stream.specs.Ranges.{in_range}
use Rattle.hh_countmin.specs.Family.{modulus, IsRow, max_depth, IsFamily, factor_of, addend_of, rows_of_words, family_of_words, generator_of, drawn_family}

-- the rows that a generator's next words make
abbrev pub next_rows : ℕ → Lcg → List (ℕ × ℕ)
next_rows depth g = rows_of_words (first_words pcg64 (2 * depth) g)

-- two words make the first of so many rows
next_rows-suc : (m n : ℕ) (g : Lcg) → m ≡ suc n
    → next_rows m g ≡ (factor_of (pcg64 g).0, addend_of (pcg64 (pcg64 g).1).0) ∷ next_rows n (pcg64 (pcg64 g).1).1
unfolding first_words
next_rows-suc m n g e =
    let two : 2 * m ≡ suc (suc (2 * n)) = omega arith in
    rw two refl

-- one row more, where a row is drawn of g and leaves h
pub drawn_more : (rows : List (ℕ × ℕ)) (row : ℕ × ℕ) (depth i : ℕ) (g h : Lcg) (all : List (ℕ × ℕ)) → i < depth
    → row ≡ (factor_of (pcg64 g).0, addend_of (pcg64 (pcg64 g).1).0) → h ≡ (pcg64 (pcg64 g).1).1
    → rows ++ next_rows (depth - i) g ≡ all → (rows ++ row ∷ []) ++ next_rows (depth - (i + 1)) h ≡ all
drawn_more rows row depth i g h all lt drawn left so_far =
    let step = next_rows-suc (depth - i) (depth - (i + 1)) g (omega arith) in
    append_assoc rows (row ∷ []) (next_rows (depth - (i + 1)) h)
    ∙ ap₂ (λ (r : ℕ × ℕ) (k : Lcg). rows ++ r ∷ next_rows (depth - (i + 1)) k) drawn left
    ∙ ap (λ (rest : List (ℕ × ℕ)). rows ++ rest) (sym step)
    ∙ so_far

-- no row is left to draw
pub drawn_all : (rows : List (ℕ × ℕ)) (depth i : ℕ) (g : Lcg) (all : List (ℕ × ℕ)) → depth - i ≡ 0
    → rows ++ next_rows (depth - i) g ≡ all → rows ≡ all
unfolding first_words
drawn_all rows depth i g all e so_far =
    let none : next_rows (depth - i) g ≡ [] = rw e refl in
    sym (append-nil rows) ∙ ap (λ (rest : List (ℕ × ℕ)). rows ++ rest) (sym none) ∙ so_far

factor_in_range : (word : ℕ) → (1 ≤ factor_of word) × (factor_of word < modulus)
factor_in_range word = let below = mod_below word (modulus - 1) (omega arith) in (omega arith, omega arith)

rows_in_range : (words : List ℕ) → AllByRecursion IsRow (rows_of_words words)
rows_in_range [] = tt
rows_in_range (a ∷ []) = tt
rows_in_range (a ∷ b ∷ words) =
    let factor = factor_in_range a in
    ((factor.0, factor.1, mod_below b modulus (omega arith)), rows_in_range words)

-- as many rows are drawn as were asked for
pub length-next_rows : (depth : ℕ) (g : Lcg) → length (next_rows depth g) ≡ depth
unfolding first_words
length-next_rows zero g = refl
length-next_rows (suc depth) g =
    ap length (next_rows-suc (suc depth) depth g refl) ∙ ap suc (length-next_rows depth (pcg64 (pcg64 g).1).1)

-- what is drawn is the drawn family
pub is_drawn : (seed depth : ℕ) (g : Lcg) → g ≡ generator_of seed
    → record { z = factor_of (pcg64 g).0; rows = next_rows depth (pcg64 g).1 } ≡ drawn_family seed depth
unfolding first_words
is_drawn seed depth g e =
    let one : 1 + 2 * depth ≡ suc (2 * depth) = omega arith in
    ap (λ (k : Lcg). family_of_words (first_words pcg64 (suc (2 * depth)) k)) e
    ∙ ap (λ (n : ℕ). family_of_words (first_words pcg64 n (generator_of seed))) (sym one)

-- so many words make a family
pub drawn_is_family : (word depth : ℕ) (g : Lcg) → in_range depth max_depth ≡ true
    → IsFamily (record { z = factor_of word; rows = next_rows depth g })
drawn_is_family word depth g is_depth =
    let len = length-next_rows depth g in
    let factor = factor_in_range word in
    record {
      depth = rw len is_depth;
      coefficients = (
        factor.0,
        factor.1,
        All-from_recursion IsRow (next_rows depth g)
            (rows_in_range (first_words pcg64 (2 * depth) g)),
      );
    }
