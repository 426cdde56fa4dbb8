-- How much the tallies for the greatest keys keep, by the memory that there is.
use Rattle.std.specs.Prelude.{ℕ, ◌+◌, ◌-◌, ◌*◌, ◌/◌, max, min}
use Rattle.hh_summaries.specs.Counters.{max_k}
use Rattle.hh_tally.specs.Tallies.{max_keys}
use Rattle.hh_tally.specs.declared.room.Room.{Room}

-- how many keys are counted at most, where counters have this many bytes of memory, or 256,000 if that is more: a key in
-- 8,000, but one, and no more than a summary has counters
abbrev pub counted_in : ℕ → ℕ
counted_in memory = min max_k (max 256000 memory / 8000 - 1)

-- the room of a tally by the bytes that a key costs besides its own, the most keys, and the bytes of memory: a quarter of
-- these is for the keys' own. Twice as many keys as are counted, and two more, are kept whatever bytes they have
abbrev pub room_of : ℕ → ℕ → ℕ → Room
room_of cost most memory = record {
  keys = min most (max 256000 memory / cost);
  few = 2 * (counted_in memory + 1);
  bytes = max 256000 memory / 4;
}

-- the room of one worker, where the tallies of several are merged: a tally that is merged may have the keys of two for a
-- while, so that a key costs twice as much
abbrev pub shared_room : ℕ → Room
shared_room memory = room_of 256 (2 * (max_k + 1)) memory

-- the room of the one worker who has all memory
abbrev pub whole_room : ℕ → Room
whole_room memory = room_of 128 max_keys memory

-- the room of a report by one reading with k counters: 128 bytes a key, and 2 (k + 1) keys whatever bytes they have
abbrev pub once_room : ℕ → ℕ → Room
once_room k memory = record {
  keys = max (2 * (k + 1)) (min max_keys (max 256000 memory / 128));
  few = 2 * (k + 1);
  bytes = max 256000 memory / 4;
}
