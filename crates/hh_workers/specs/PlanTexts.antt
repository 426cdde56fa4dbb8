-- The texts of plans, and how they are read.
use Rattle.std.specs.Prelude.{◌≡◌, ℕ, ◌+◌, ◌-◌, ◌*◌, ◌<◌, ◌≤◌, ◌==◌, ◌&&◌, max, nat_lt, nat_le, Bool, true, false, slice_index_or, List, [], ◌∷◌, ◌++◌, length, take, Option, Some, None, ⊤, if◌then◌else◌}
use Rattle.std.specs.Option.{option_and_then}
use Rattle.std.specs.Fmt.{decimal}
use Rattle.hh_stream.specs.Digits.{is_digit}
use Rattle.hh_shared.specs.Numbers.{times, IsDistinctBelow}
use Rattle.hh_workers.specs.Trees.{MergeTree, Piece, Merge, leaves}
use Rattle.hh_faults.specs.declared.error.ToolError.{ToolError}
use Rattle.hh_faults.specs.declared.error.ToolError.TheVariants as tool
use Rattle.hh_faults.specs.declared.error.TreeFault.{TreeFault}
use Rattle.hh_faults.specs.declared.error.TreeFault.TheVariants as bad

-- the text of a tree: a piece's number, or two trees in parentheses with a space between them
abbrev pub text_of : MergeTree → List ℕ
text_of (Piece i) = decimal i
text_of (Merge l r) = 40 ∷ (text_of l ++ (32 ∷ (text_of r ++ 41 ∷ [])))

-- how many parentheses are open at once
abbrev pub nesting : MergeTree → ℕ
nesting (Piece i) = 0
nesting (Merge l r) = 1 + max (nesting l) (nesting r)

-- each number has at most four digits
abbrev pub has_short_numbers : MergeTree → Bool
has_short_numbers (Piece i) = nat_lt i 10000
has_short_numbers (Merge l r) = has_short_numbers l && has_short_numbers r

-- the tree has a text: its numbers have at most four digits, and at most 1,023 parentheses are open at once
pub record HasText (t : MergeTree) : Type 0 where
  pub short : has_short_numbers t ≡ true
  pub shallow : nesting t ≤ 1023

-- the text is that of the tree
pub record SpellsTree (text : List ℕ) (t : MergeTree) : Type 0 where
  pub tree : HasText t
  pub bytes : text ≡ text_of t

-- the text begins like that of the tree
abbrev pub Begins : List ℕ → MergeTree → Type 0
Begins text t = HasText t × ((rest : List ℕ) × (text_of t ≡ text ++ rest))

-- the text up to n can be continued to a tree, and with the byte there it can't; n is the text's length where the
-- text ends too early
pub record IsSyntaxFault (text : List ℕ) (n : ℕ) : Type 0 where
  pub within : n ≤ length text
  pub continues : (t : MergeTree) × Begins (take n text) t
  pub stops : n < length text → (t : MergeTree) → Begins (take (n + 1) text) t → ⊥
  pub ends : (t : MergeTree) → SpellsTree text t → ⊥

-- each number below p is marked where it is one of the numbers
abbrev pub AreMarked : List Bool → ℕ → List ℕ → Type 0
AreMarked marks p xs =
    (length marks ≡ p) × ((i : ℕ) → i < p → slice_index_or marks i false ≡ nat_lt 0 (times i xs))

-- what a refusal of a text tells
abbrev pub SyntaxRefused : List ℕ → ToolError → Type 0
SyntaxRefused text (tool.BadTree (bad.Syntax n)) = IsSyntaxFault text n
SyntaxRefused text tool.Memory = ⊤
SyntaxRefused text _ = ⊥

-- what is wrong with a tree's numbers
abbrev pub AreNumbersWrong : ℕ → List ℕ → TreeFault → Type 0
AreNumbersWrong p xs (bad.Syntax n) = ⊥
AreNumbersWrong p xs (bad.UnknownPiece i) =
    (before : List ℕ) × (after : List ℕ) × (xs ≡ before ++ i ∷ after) × IsDistinctBelow p before × (p ≤ i)
AreNumbersWrong p xs (bad.RepeatedPiece i) =
    (before : List ℕ) × (after : List ℕ) × (xs ≡ before ++ i ∷ after) × IsDistinctBelow p before × (0 < times i before)
AreNumbersWrong p xs (bad.MissingPiece i) =
    IsDistinctBelow p xs × (i < p) × (times i xs ≡ 0) × ((j : ℕ) → j < i → 0 < times j xs)

-- what a refusal of a tree's numbers tells
abbrev pub NumbersRefused : ℕ → List ℕ → ToolError → Type 0
NumbersRefused p xs (tool.BadTree f) = AreNumbersWrong p xs f
NumbersRefused p xs tool.Memory = ⊤
NumbersRefused p xs _ = ⊥

-- what a refusal of a plan's text for p pieces tells: its syntax is judged first, and then its numbers from left to
-- right
abbrev pub PlanRefused : List ℕ → ℕ → ToolError → Type 0
PlanRefused text p (tool.BadTree (bad.Syntax n)) = IsSyntaxFault text n
PlanRefused text p (tool.BadTree f) = (t : MergeTree) × SpellsTree text t × AreNumbersWrong p (leaves t) f
PlanRefused text p tool.Memory = ⊤
PlanRefused text p _ = ⊥

-- ---- reading byte by byte
-- an open parenthesis: its left tree is being read, or its right one after this left one
pub data Open : Type 0 where
  Left : Open
  Right : (left : MergeTree) → Open

-- a tree is to begin, or a number is being read, or a tree has ended
pub data Now : Type 0 where
  Start : Now
  Number : (number : ℕ) → Now
  Done : (tree : MergeTree) → Now

-- what has been read: the open parentheses, the innermost first
pub record Reading : Type 0 where
  pub now : Now
  pub outer : List Open

-- after a tree comes a space or a closing parenthesis
abbrev pub after_tree : MergeTree → List Open → ℕ → Option Reading
after_tree t [] c = None
after_tree t (Left ∷ os) c = if c == 32 then Some (record { now = Start; outer = Right t ∷ os }) else None
after_tree t (Right l ∷ os) c = if c == 41 then Some (record { now = Done (Merge l t); outer = os }) else None

-- a tree begins with a digit or an opening parenthesis
abbrev pub at_start : List Open → ℕ → Option Reading
at_start os c =
    if is_digit c then Some (record { now = Number (c - 48); outer = os })
    else if (c == 40) && nat_lt (length os) 1023 then Some (record { now = Start; outer = Left ∷ os })
    else None

-- the reading after one more byte, if a tree's text goes on so
abbrev pub step : Reading → ℕ → Option Reading
step s c = step_now s.now s.outer c
  where
    step_now : Now → List Open → ℕ → Option Reading
    step_now Start os c = at_start os c
    step_now (Number n) os c =
        if is_digit c then
        (if nat_le 1 n && nat_lt n 1000 then Some (record { now = Number (n * 10 + (c - 48)); outer = os }) else None)
        else after_tree (Piece n) os c
    step_now (Done t) os c = after_tree t os c

-- the reading after more bytes
abbrev pub steps : Reading → List ℕ → Option Reading
steps s [] = Some s
steps s (c ∷ cs) = option_and_then (λ s. steps s cs) (step s c)

-- nothing has been read
abbrev pub first_reading : Reading
first_reading = record { now = Start; outer = [] }

-- the tree that a reading has ended with
abbrev pub read_tree : Reading → Option MergeTree
read_tree s = read_now s.now s.outer
  where
    read_now : Now → List Open → Option MergeTree
    read_now Start os = None
    read_now (Number n) [] = Some (Piece n)
    read_now (Done t) [] = Some t
    read_now (Number n) (o ∷ os) = None
    read_now (Done t) (o ∷ os) = None
