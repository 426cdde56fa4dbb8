use Rattle.std.proofs.Common.{◌≡◌, ◌≤◌, ◌-◌, length, take}
use Rattle.memchr.specs.Find.{IsLast}
use Rattle.hh_pieces.specs.Quotes.{IsFeedAt, place_after}
use Rattle.hh_pieces.proofs.cuts.scan.Given as goal

abbrev pub invariant-loop-run : goal.invariant-loop-run
invariant-loop-run l = record {
  within : l.from ≤ length l.text;
  place : l.place ≡ place_after l.fn.delimiter (take l.from l.text);
  last : IsLast (IsFeedAt l.fn.delimiter l.text) 0 l.from l.last;
}

abbrev pub decreases-loop-run : goal.decreases-loop-run
decreases-loop-run l = length l.text - l.from
