use Rattle.std.proofs.Common.{◌≡◌, ◌-◌, []}
use Rattle.hh_saved.specs.Reading.{with_front, last_key_of, entries_at}
use Rattle.hh_saved.proofs.Heads.{IsBegun}
use Rattle.hh_saved.proofs.reading.take_entries.Given as goal

abbrev pub invariant-loop : goal.invariant-loop
invariant-loop l = record {
  read : with_front l.entries.items
      (entries_at l.version (l.count - l.counter) (last_key_of l.entries.items) l.left l.rest)
      ≡ entries_at l.version l.count [] l.total l.bytes;
  begun : IsBegun l.version l.count l.total l.bytes l.counter l.entries.items l.left l.rest;
}
