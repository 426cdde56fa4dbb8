use Rattle.std.proofs.Common.{true≢false, List, length, take, sym, ap, ap₂, ◌∙◌, arith}
use Rattle.hh_stream.specs.Weights.{Bytes, Entry, total_of}
use Rattle.hh_tally.specs.Tallies.{add_in}
use Rattle.hh_tally.proofs.Raising.{added_more, length-add_in, total_of-taken}
use Rattle.hh_tally.proofs.Bounds.{total_of-add_all}
use Rattle.hh_tally.proofs.lowering.add_all.Goals as goal
use Rattle.hh_tally.proofs.lowering.add_all.Goals.{in-Some+in_ok-add_entry, in_default}

pub add_entry-requires-clause-bounded : goal.add_entry-requires-clause-bounded
add_entry-requires-clause-bounded c =
    let es = c.args.others.now.entries in
    let i = c.loop-i.i in
    let e : Entry = (c.in-Some.key.now, c.in-Some.counter.now) in
    omega (
      arith,
      c.requires,
      ap total_of c.loop-i.invariant.0,
      total_of-add_all c.args.index.now.entries (take i es),
      total_of-taken es i e c.in-Some.ensures.entry,
    )

pub loop-i-preserved : goal.loop-i-preserved
loop-i-preserved c =
    let fs = c.args.index.now.entries in
    let es = c.args.others.now.entries in
    let i = c.loop-i.i in
    elim c.match-get_index.branch [
      | in-Some+in_ok-add_entry w ↦
          let e : Entry = (w.in-Some.key.now, w.in-Some.counter.now) in
          let is = w.in_ok-add_entry.ensures.added
          ∙ ap₂ (λ (ds : List Entry) (k : Bytes). add_in ds (k, w.in-Some.counter.now)) c.loop-i.invariant.0 w.bytes.ensures.bytes in (
            ap (λ m. m.entries) w.index-is ∙ is ∙ sym (added_more fs es i e w.in-Some.ensures.entry),
            omega (
              arith,
              ap (λ m. length m.entries) w.index-is,
              ap length w.in_ok-add_entry.ensures.added,
              length-add_in c.loop-i.index.entries (w.bytes.result.now, w.in-Some.counter.now),
              c.loop-i.invariant.1,
            ),
          )
      | in_default w ↦ absurd (true≢false (sym (w.in_default.ensures.found.1 (omega (arith, c.loop-i-test.true, c.len-i-end.ensures.len)))))
    ]
