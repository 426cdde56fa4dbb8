-- Lists of items: one item more, and a part.
use Rattle.std.proofs.Common.{ℕ, ◌<◌, List, [], ◌∷◌, ◌++◌, take, drop}
use Rattle.std.proofs.lemmas.List.Elements.{All-push, All-take, All-drop, All-from_recursion, recursion_from_All}
use Rattle.hh_stream.specs.Weights.{Entry, AreItems, IsKey}

abbrev HasKey : Entry → Type 0
HasKey e = IsKey e.0

abbrev HasWeight : Entry → Type 0
HasWeight e = 0 < e.1

-- an item more keeps what is said of each
pub items-push : (xs : List Entry) (e : Entry) → AreItems xs → IsKey e.0 → 0 < e.1 → AreItems (xs ++ e ∷ [])
items-push xs e h key some = (
  recursion_from_All HasKey _ (All-push HasKey xs e (All-from_recursion HasKey xs h.0) key),
  All-push HasWeight xs e h.1 some,
)

-- so does a part
pub items-part : (xs : List Entry) (start n : ℕ) → AreItems xs → AreItems (take n (drop start xs))
items-part xs start n h = (
  recursion_from_All HasKey _ (All-take HasKey n _ (All-drop HasKey start xs (All-from_recursion HasKey xs h.0))),
  All-take HasWeight n _ (All-drop HasWeight start xs h.1),
)
