use Rattle.std.proofs.Common.{◌++◌, ◌<◌, [], arith, inl, ◌∙◌, sym, refl, ap}
use Rattle.std.specs.Prelude.{fold}
use Rattle.std.proofs.lemmas.List.Elements.{All-append, All-from_recursion}
use Rattle.std.proofs.lemmas.List.Sums.{fold-append, sum_by-append}
use Rattle.std.proofs.lemmas.Result.{err_from_is_err_and}
use Rattle.csv.specs.Reading.{reader_config, reader_state, source_of}
use Rattle.hh_stream.specs.Weights.{Entry}
use Rattle.hh_records.specs.Layouts.{parts_at}
use Rattle.hh_records.proofs.ReadFacts.{between-known, read-start, read-more, read-end, read-refused}
use Rattle.hh_records.proofs.records.take_rows.Goals as goal

-- an item has a weight
abbrev Weighs : Entry → Type 0
Weighs e = 0 < e.1

pub loop-number-init : goal.loop-number-init
loop-number-init g c =
    let text = c.requires.ready in (
      text.untrimmed,
      text.ready,
      text.flexible,
      refl,
      c.requires.bounded,
      (
        [],
        omega arith,
        All-from_recursion Weighs [] tt,
        refl,
        read-start (reader_config c.args.rows.now) (parts_at c.args.layout.now c.args.columns.now) c.args.layout.now
            (reader_state c.args.rows.now) c.args.before (g.T.TakeItems.weight_taken c.args.taker.now)
            (source_of g.R.Read.remaining c.args.rows.now),
      ),
    )

pub returns-in-Ok-false-clause-items : goal.returns-in-Ok-false-clause-items
returns-in-Ok-false-clause-items g c =
    let inv = c.loop-number.invariant in
    let (xs, total, weigh, made, so_far) = inv.5 in
    let r = rw c.in-Ok-false.field-0-test at (c.in-Ok-false.ensures.reads inv.0 inv.1) in
    record {
      xs = xs;
      given = read-end (reader_config c.args.rows.now) (parts_at c.args.layout.now c.args.columns.now)
          c.args.layout.now (reader_state c.args.rows.now) c.args.before (g.T.TakeItems.weight_taken c.args.taker.now)
          g.R.Read.remaining c.loop-number.rows c.read_byte_record.new.self _ xs c.loop-number.number inv.3 _
          (between-known (reader_state c.args.rows.now)
          (source_of g.R.Read.remaining c.args.rows.now)) so_far r;
      positive = weigh;
      weight = total;
      taken = made;
    }

pub loop-number-preserved : goal.loop-number-preserved
loop-number-preserved g c =
    let inv = c.loop-number.invariant in
    let (xs, total, weigh, made, so_far) = inv.5 in
    let e = c.in-Ok-true.ensures in
    let r = rw c.in-Ok-true.field-0-test at (e.reads inv.0 inv.1) in
    let t = c.in_ok-take_row.ensures.taken in (
      r.3 ∙ inv.0,
      inl (e.ready inv.0),
      e.flexible ∙ inv.2,
      r.2 ∙ inv.3,
      c.in_ok-take_row.ensures.bounded,
      (
        xs ++ t.xs,
        omega (arith, t.weight, total, sum_by-append (λ (d : Entry). d.1) xs t.xs),
        All-append Weighs xs t.xs weigh t.positive,
        t.taken ∙ ap (λ taker. fold g.T.TakeItems.with_item taker t.xs) made
            ∙ sym (fold-append g.T.TakeItems.with_item c.args.taker.now xs t.xs),
        read-more (reader_config c.args.rows.now) (parts_at c.args.layout.now c.args.columns.now)
            c.args.layout.now (reader_state c.args.rows.now) c.args.before (g.T.TakeItems.weight_taken c.args.taker.now)
            g.R.Read.remaining c.loop-number.rows c.read_byte_record.new.self _ xs c.loop-number.number inv.3 _ t.xs so_far r
            (rw (← total) t.given),
      ),
    )

pub returns-in_err-take_row-clause-refused : goal.returns-in_err-take_row-clause-refused
returns-in_err-take_row-clause-refused g c =
    let p = err_from_is_err_and c.from_residual.result c.from_residual.ensures.1 in
    let inv = c.loop-number.invariant in
    let (xs, total, weigh, made, so_far) = inv.5 in
    let r = rw c.in-Ok-true.field-0-test at (c.in-Ok-true.ensures.reads inv.0 inv.1) in
    rw (p.1, p.2) (read-refused (reader_config c.args.rows.now) (parts_at c.args.layout.now c.args.columns.now)
    c.args.layout.now (reader_state c.args.rows.now) c.args.before (g.T.TakeItems.weight_taken c.args.taker.now)
    g.R.Read.remaining c.loop-number.rows c.read_byte_record.new.self _ xs c.loop-number.number inv.3 _ _
    (between-known (reader_state c.args.rows.now)
    (source_of g.R.Read.remaining c.args.rows.now)) so_far r
    (rw (← total) c.in_err-take_row.ensures.refused))
