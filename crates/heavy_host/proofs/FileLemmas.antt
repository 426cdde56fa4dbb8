-- Files that are read, and the fault of one that is not.
use Rattle.std.proofs.Common.{◌≡◌, ◌∙◌, ℕ, ◌+◌, ◌<◌, ◌⊎◌, inl, inr, List, [], ◌∷◌, ◌++◌, Option, Some, None, map, take, length, slice_index_or, sym, ap, subst, arith}
use Rattle.std.proofs.lemmas.List.{take_more, map-append, length-map, get_or-map}
use Rattle.hh_faults.specs.declared.error.ToolError.{ToolError}
use Rattle.hh_faults.specs.declared.error.ToolError.TheVariants.{FileFault, Memory}
use Rattle.heavy_host.specs.Files.{AreRead, TellsFile}

-- a file more after those that are read
AreRead-push : (gives : List ℕ → Option (List ℕ) → Type 0) (names files : List (List ℕ)) (name file : List ℕ)
    → AreRead gives names files → gives name (Some file) → AreRead gives (names ++ name ∷ []) (files ++ file ∷ [])
AreRead-push gives [] [] name file read more = (more, tt)
AreRead-push gives [] (f ∷ files) name file read more = absurd read
AreRead-push gives (n ∷ names) [] name file read more = absurd read
AreRead-push gives (n ∷ names) (f ∷ files) name file read more =
    (read.0, AreRead-push gives names files name file read.1 more)

-- the next file is read
pub AreRead-next : {X : Type 0} (f : X → List ℕ) (gives : List ℕ → Option (List ℕ) → Type 0) (xs : List X) (i : ℕ) (d : X)
    (files : List (List ℕ)) (file : List ℕ) → i < length xs → AreRead gives (map f (take i xs)) files
    → gives (f (slice_index_or xs i d)) (Some file) → AreRead gives (map f (take (i + 1) xs)) (files ++ file ∷ [])
AreRead-next f gives xs i d files file less read more =
    subst (λ names. AreRead gives names (files ++ file ∷ []))
    (sym (ap (map f) (take_more xs i d less) ∙ map-append f (take i xs) (slice_index_or xs i d ∷ [])))
    (AreRead-push gives (map f (take i xs)) files (f (slice_index_or xs i d)) file read more)

-- the fault of the next file, by its number
pub TellsFile-next : {X : Type 0} (f : X → List ℕ) (gives : List ℕ → Option (List ℕ) → Type 0) (xs : List X) (i : ℕ) (d : X)
    (fault : ToolError) → i < length xs
    → (fault ≡ Memory) ⊎ ((fault ≡ FileFault (i + 1)) × gives (f (slice_index_or xs i d)) None)
    → TellsFile gives (map f xs) fault
TellsFile-next f gives xs i d fault less (inl memory) = inl memory
TellsFile-next f gives xs i d fault less (inr unread) = inr (
  i,
  record {
    within = omega (arith, length-map xs f, less);
    unread = subst (λ name. gives name None) (sym (get_or-map f xs i d [] less)) unread.1;
    number = unread.0;
  },
)
