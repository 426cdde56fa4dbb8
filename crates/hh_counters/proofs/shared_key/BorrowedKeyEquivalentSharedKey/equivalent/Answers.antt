-- Slices are equal exactly where their order says so.
use Rattle.std.specs.Cmp.Lexicographic.{texts_ties}
use Rattle.hh_counters.proofs.shared_key.BorrowedKeyEquivalentSharedKey.equivalent.Goals as goal

pub returns : goal.returns
returns c = rw (← texts_ties _ _, ← c.key.ensures, ← c.bytes.ensures.bytes) c.eq.ensures
