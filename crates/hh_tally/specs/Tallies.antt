-- Exact sums of weights by key, from which a middle counter is taken whenever too many keys have come.
use Rattle.std.specs.Prelude.{◌≡◌, ℕ, ◌+◌, ◌-◌, ◌*◌, ◌/◌, ◌^◌, ◌≤◌, ◌<◌, ◌==◌, Bool, cond, ◌&&◌, ◌||◌, nat_lt, true, false, List, [], ◌∷◌, ◌++◌, length, max, map, not, replicate, sum_by, filter, fold, unwrap_or, zip}
use Rattle.std.specs.List.{AllByRecursion, IsDistinct}
use Rattle.std.specs.Map.{keys_of, lookup}
use Rattle.hh_stream.specs.Weights.{Bytes, Entry, same_key, weight_of, total_of}
use Rattle.hh_summaries.specs.Counters.{Counters, SummaryView, cut, level, lower, tally}
use Rattle.hh_tally.specs.declared.room.Room.{Room}

-- with e's number added at e's key, which keeps its place; a new key comes last
abbrev pub add_in : List Entry → Entry → List Entry
add_in [] e = e ∷ []
add_in (d ∷ es) e = cond (same_key e.0 d.0) ((d.0, d.1 + e.1) ∷ es) (d ∷ add_in es e)

-- the bytes of the keys
abbrev pub bytes_of : List Bytes → ℕ
bytes_of ks = sum_by length ks

-- the most keys for which there may be room
abbrev pub max_keys : ℕ
max_keys = 16777216

-- room that a tally can have
pub record IsRoom (room : Room) : Type 0 where
  pub some : 2 ≤ room.few
  pub few : room.few ≤ room.keys
  pub keys : room.keys ≤ max_keys

-- the room in which no more is lost than a summary with k counters may lack: 4,096 keys, or as many as 2 (k + 1), that
-- many of them whatever bytes they have, and 4 MiB of bytes
abbrev pub room_for : ℕ → Room
room_for k = record { keys = max 4096 (2 * (k + 1)); few = 2 * (k + 1); bytes = 4194304 }

-- whether the keys, more than a few, have too many bytes
abbrev pub are_large : Room → List Bytes → Bool
are_large room ks = nat_lt room.few (length ks) && nat_lt room.bytes (bytes_of ks)

-- or there are too many keys
abbrev pub is_over : Room → List Bytes → Bool
is_over room ks = nat_lt room.keys (length ks) || are_large room ks

-- the most keys that stay then: half of the few, or a quarter of those for which there was room, where that is more and the
-- keys are not large
abbrev pub most_left : Room → List Bytes → ℕ
most_left room ks = cond (are_large room ks) (room.few / 2) (max (room.few / 2) (room.keys / 4))

-- what is taken from each counter then: the least number that no more counters exceed
unfoldable pub loss_of : Room → List Entry → ℕ
loss_of room es = cond (is_over room (keys_of es)) (level es (most_left room (keys_of es))) 0

-- the counters that stay, in their order
unfoldable pub left_of : Room → List Entry → List Entry
left_of room es = cond (is_over room (keys_of es)) (lower (loss_of room es) es) es

-- what a contract sees of a tally: its room, the total, what a counter may lack, the counters in the order in which their
-- keys came, and for each of them whether the tally is sure of its key
pub record TallyView : Type 0 where
  pub room : Room
  pub total : ℕ
  pub lost : ℕ
  pub counters : List Entry
  pub sure : List Bool

-- flags of the first of n keys, with one flag for all the rest
abbrev pub filled : List Bool → Bool → ℕ → List Bool
filled flags rest n = flags ++ replicate (n - length flags) rest

-- what a contract sees of a tally of these parts: the flags say of which of the first keys it is sure, and of the others it
-- is while nothing is lost
abbrev pub view_of : Room → ℕ → ℕ → List Bool → List Entry → TallyView
view_of room total lost flags es = record {
  room = room;
  total = total;
  lost = lost;
  counters = es;
  sure = filled flags (lost == 0) (length es);
}

-- whether a tally is sure of the key x, so that all that was lost is what the key's counter lacks: a key without a counter
-- never came if nothing was lost
abbrev pub is_sure : TallyView → Bytes → Bool
is_sure t x = unwrap_or (lookup (same_key x) (zip (keys_of t.counters) t.sure)) (t.lost == 0)

-- those of some entries of whose keys it isn't
abbrev pub is_unsure : TallyView → Entry → Bool
is_unsure t e = not (is_sure t e.0)

abbrev pub unsure_of : TallyView → List Entry → List Entry
unsure_of t es = filter (is_unsure t) es

-- of no items
abbrev pub empty_tally : Room → TallyView
empty_tally room = record { room = room; total = 0; lost = 0; counters = []; sure = [] }

-- once entries were added that make these counters, with a total and a loss; a tally that was sure of a key stays so while
-- the key keeps its counter
abbrev pub settled : Room → ℕ → ℕ → (Bytes → Bool) → List Entry → TallyView
settled room total lost was all = record {
  room = room;
  total = total;
  lost = lost + loss_of room all;
  counters = left_of room all;
  sure = map was (keys_of (left_of room all));
}

-- after one more item
abbrev pub tally_with : TallyView → Entry → TallyView
tally_with t e = settled t.room (t.total + e.1) t.lost (is_sure t) (add_in t.counters e)

-- whether a test is true of the key x, and a tally is sure of it
abbrev pub and_sure : (Bytes → Bool) → TallyView → Bytes → Bool
and_sure test u x = test x && is_sure u x

-- after the items of another tally: sure of the keys of which both were
abbrev pub merged_tally : TallyView → TallyView → TallyView
merged_tally t u =
    settled t.room (t.total + u.total) (t.lost + u.lost) (and_sure (is_sure t) u) (fold add_in t.counters u.counters)

-- the tally tells of the items xs: no counter is above its key's weight, none lacks more than what was lost, and those of
-- sure keys lack just that
pub record AreBounds (t : TallyView) (xs : List Entry) : Type 0 where
  pub counted : t.total ≡ total_of xs
  pub distinct : IsDistinct same_key (keys_of t.counters)
  pub below : (x : Bytes) → weight_of x t.counters ≤ weight_of x xs
  pub near : (x : Bytes) → weight_of x xs ≤ weight_of x t.counters + t.lost
  pub sure : (x : Bytes) → is_sure t x ≡ true → weight_of x xs ≡ weight_of x t.counters + t.lost

-- such flags say of each key what a test says
abbrev pub AreFlags : List Bool → Bool → List Bytes → (Bytes → Bool) → Type 0
AreFlags flags rest ks test = filled flags rest (length ks) ≡ map test ks

-- what was lost was taken from at least few / 2 counters
abbrev pub IsLoss : ℕ → ℕ → ℕ → List Entry → Type 0
IsLoss few total lost es = (few / 2) * lost + total_of es ≤ total

-- the parts of a tally
pub record IsTally (room : Room) (total lost bytes : ℕ) (es : List Entry) : Type 0 where
  pub room_is : IsRoom room
  pub bounded_total : total < 2 ^ 63
  pub loss : IsLoss room.few total lost es
  pub positive : AllByRecursion (λ e. 0 < e.1) es
  pub distinct : IsDistinct same_key (keys_of es)
  pub within : is_over room (keys_of es) ≡ false
  pub bytes_is : bytes ≡ bytes_of (keys_of es)
  pub bounded_bytes : bytes ≤ 4096 * length es

-- whether a key with this counter can have more than p/q of the total
abbrev pub can_exceed : ℕ → ℕ → TallyView → Entry → Bool
can_exceed p q t e = nat_lt (p * t.total) (q * (e.1 + t.lost))

-- the keys that can, with their counters, by rising key
abbrev pub contenders_of : ℕ → ℕ → TallyView → Counters
contenders_of p q t = filter (can_exceed p q t) (tally t.counters)

-- the summary with the k greatest counters, each less the one after them
abbrev pub pruned : ℕ → TallyView → SummaryView
pruned k t = record { k = k; total = t.total; counters = cut (tally t.counters) k }
