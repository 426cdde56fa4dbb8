use Rattle.std.proofs.Common.{◌≡◌, ◌+◌, ◌<◌, length, take, drop, ap, sym, arith}
use Rattle.std.specs.List.{flat_map}
use Rattle.hh_stream.specs.Weights.{Bytes, Entry}
use Rattle.hh_saved.specs.declared.offsets.Place.{Place}
use Rattle.hh_saved.specs.Sizes.{entry_in}
use Rattle.hh_saved.specs.Spelling.{entry_bytes}
use Rattle.hh_saved.proofs.PlaceFacts.{key_lies, next_begins, next_entry, next_within, place_listed, place_within}
use Rattle.hh_saved.proofs.offsets.places_in.Goals as goal

pub overflow_add-start : goal.overflow_add-start
overflow_add-start c =
    let e : Entry = (c.entry-counter.result.0.now, c.entry-counter.result.1) in
    let within = next_within _ _ _ c.loop-i.start c.loop-i.i e (omega (arith, c.loop-i-test.true, c.len-i-end.ensures.len))
    c.entry-counter.ensures c.loop-i.invariant.0 in
    omega (arith, within, c.len_width-width.ensures)

pub overflow_add-start-in-loop-i : goal.overflow_add-start-in-loop-i
overflow_add-start-in-loop-i c =
    let e : Entry = (c.entry-counter.result.0.now, c.entry-counter.result.1) in
    let within = next_within _ _ _ c.loop-i.start c.loop-i.i e (omega (arith, c.loop-i-test.true, c.len-i-end.ensures.len))
    c.entry-counter.ensures c.loop-i.invariant.0 in
    omega (arith, within, c.len_width-width.ensures, ap length c.bytes-len.ensures.bytes)

pub overflow_add-start-in-loop-i-2 : goal.overflow_add-start-in-loop-i-2
overflow_add-start-in-loop-i-2 c =
    let e : Entry = (c.entry-counter.result.0.now, c.entry-counter.result.1) in
    let within = next_within _ _ _ c.loop-i.start c.loop-i.i e (omega (arith, c.loop-i-test.true, c.len-i-end.ensures.len))
    c.entry-counter.ensures c.loop-i.invariant.0 in
    omega (arith, within, c.len_width-width.ensures, ap length c.bytes-len.ensures.bytes)

pub loop-i-preserved : goal.loop-i-preserved
loop-i-preserved c =
    let counters = c.args.summary.now.counters in
    let i = c.loop-i.i in
    let e : Entry = (c.entry-counter.result.0.now, c.entry-counter.result.1) in
    let file = c.args.bytes.now in
    let start = c.loop-i.start in
    let lt : i < length counters = omega (arith, c.loop-i-test.true, c.len-i-end.ensures.len) in
    let here = next_entry _ file _ start _ _ lt c.entry-counter.ensures c.loop-i.invariant.0 in
    let rest = flat_map (entry_bytes c.args.version) (drop (i + 1) counters) in
    let width = c.len_width-width.result in
    let place : Place = record { start = start + width; len = length c.bytes-len.result.now; counter = e.1 } in
    let next : drop (start + width + (length c.bytes-len.result.now + 8)) file ≡ rest =
    rw (c.len_width-width.ensures, c.bytes-len.ensures.bytes) (next_begins c.args.version file rest start e here) in
    let key : take (length c.bytes-len.result.now) (drop (start + width) file) ≡ e.0 =
    rw (c.len_width-width.ensures, c.bytes-len.ensures.bytes) (key_lies c.args.version file rest start e here) in
    let lies : entry_in file place ≡ e = ap (λ (x : Bytes). let y : Entry = (x, e.1) in y) key in (
      next,
      place_listed _ _ _ _ _ _ _ lt c.entry-counter.ensures c.in_ok-push.ensures.items lies c.loop-i.invariant.1,
      place_within file _ _ place e.0 key (ap length (sym c.bytes-len.ensures.bytes)) c.bytes-len.ensures.key.some
          c.in_ok-push.ensures.items c.loop-i.invariant.2,
    )
