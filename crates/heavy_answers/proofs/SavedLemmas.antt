-- Saved files that are read and opened.
use Rattle.std.proofs.Common.{ℕ, ◌<◌, List, [], ◌∷◌, Option, length, map, arith}
use Rattle.heavy_host.specs.Files.{AreRead}
use Rattle.heavy_answers.specs.Answers.{gives_saved, opens_file}

-- files that are read and then opened are the saved files of their names
pub read_and_opened : (gives : List ℕ → Option (List ℕ) → Type 0) (names files saved : List (List ℕ))
    → AreRead gives names files → AreRead opens_file files saved → AreRead (gives_saved gives) names saved
read_and_opened gives [] [] [] read opened = tt
read_and_opened gives [] [] (s ∷ saved) read opened = absurd opened
read_and_opened gives [] (f ∷ files) saved read opened = absurd read
read_and_opened gives (n ∷ names) [] saved read opened = absurd read
read_and_opened gives (n ∷ names) (f ∷ files) [] read opened = absurd opened
read_and_opened gives (n ∷ names) (f ∷ files) (s ∷ saved) read opened =
    ((f, read.0, opened.0), read_and_opened gives names files saved read.1 opened.1)

-- where there is a file, one is opened
pub some_opened : {X : Type 0} (f : X → List ℕ) (files saved : List X) → AreRead opens_file (map f files) (map f saved)
    → 0 < length files → 0 < length saved
some_opened f [] saved opened some = absurd (omega (arith, some))
some_opened f (x ∷ files) [] opened some = absurd opened
some_opened f (x ∷ files) (y ∷ saved) opened some = omega arith
