-- What a plan's tree, with its boxes, stands for.
use Rattle.hh_workers.specs.Trees.{MergeTree, Piece, Merge}
use Rattle.std.specs.Prelude.{map}
use Rattle.hh_workers.specs.PlanTexts as text
use Rattle.hh_workers.specs.declared.parsing.Now.{Now}
use Rattle.hh_workers.specs.declared.parsing.Now.TheVariants.{Start, Number, Done}
use Rattle.hh_workers.specs.declared.parsing.Open.{Open}
use Rattle.hh_workers.specs.declared.parsing.Open.TheVariants.{Left, Right}
use Rattle.hh_workers.specs.declared.parsing.Reading.{Reading}
use Rattle.hh_workers.specs.declared.plan.Tree.{Tree}
use Rattle.hh_workers.specs.declared.plan.Tree.TheVariants.{Leaf, Node'}

-- each box is a pointer and the value behind it
abbrev pub shape : Tree → MergeTree
shape (Leaf i) = Piece i
shape (Node' p l q r) = Merge (shape l) (shape r)

-- an open parenthesis, in the terms of the definitions
abbrev pub open_of : Open → text.Open
open_of Left = text.Left
open_of (Right l) = text.Right (shape l)

-- and what is at the place that is read
abbrev pub now_of : Now → text.Now
now_of Start = text.Start
now_of (Number n) = text.Number n
now_of (Done t) = text.Done (shape t)

-- a reading, the innermost parenthesis first
abbrev pub reading_of : Reading → text.Reading
reading_of s = record { now = now_of s.now; outer = map open_of s.outer.items }
