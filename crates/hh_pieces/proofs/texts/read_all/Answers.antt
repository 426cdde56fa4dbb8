use Rattle.std.proofs.Common.{◌<◌, ◌++◌, ◌∙◌, [], length, refl, sym, ap, arith}
use Rattle.std.specs.Prelude.{fold}
use Rattle.std.specs.Vec.Iter.{into_iter_items}
use Rattle.std.proofs.lemmas.List.Elements.{All-append, All-from_recursion}
use Rattle.std.proofs.lemmas.List.Sums.{fold-append, sum_by-append}
use Rattle.hh_stream.specs.Weights.{Entry}
use Rattle.hh_records.proofs.OpenFacts.{nothing-left}
use Rattle.hh_pieces.proofs.TextFacts.{texts-start, texts-more, texts-refused, texts-end}
use Rattle.hh_pieces.proofs.texts.read_all.Goals as goal

-- an item has a weight
abbrev Weighs : Entry → Type 0
Weighs e = 0 < e.1

pub loop-text-init : goal.loop-text-init
loop-text-init g c =
    let gives = c.into_iter-text-iterator.ensures.into_iter_gives in (
      tt,
      tt,
      gives.1 ∙ c.args.texts.ok.0 ∙ ap length (sym gives.0),
      c.requires.bounded,
      (
        [],
        omega arith,
        All-from_recursion Weighs [] tt,
        refl,
        rw gives.0 (texts-start g.R.Read.remaining c.args.layout.now (g.T.TakeItems.weight_taken c.args.taker.now) c.args.texts.items),
      ),
    )

pub read_text-requires : goal.read_text-requires
read_text-requires g c = record { bounded = c.loop-text.invariant.3 }

pub loop-text-smaller : goal.loop-text-smaller
loop-text-smaller g c =
    let gone = c.in-Some.ensures.steps.1 in
    omega (arith, gone)

pub loop-text-preserved : goal.loop-text-preserved
loop-text-preserved g c =
    let inv = c.loop-text.invariant in
    let steps = c.in-Some.ensures.steps in
    let long = ap length steps.0 in
    let (xs, total, weigh, made, so_far) = inv.4 in
    let t = c.in-Ok.ensures.items in (
      tt,
      tt,
      let was = inv.2 in let gone = steps.1 in omega (arith, was, gone, long),
      c.in-Ok.ensures.bounded,
      (
        xs ++ t.xs,
        omega (arith, t.weight, total, sum_by-append (λ (d : Entry). d.1) xs t.xs),
        All-append Weighs xs t.xs weigh t.positive,
        t.taken ∙ ap (λ taker. fold g.T.TakeItems.with_item taker t.xs) made
            ∙ sym (fold-append g.T.TakeItems.with_item c.args.taker.now xs t.xs),
        texts-more g.R.Read.remaining c.args.layout.now (g.T.TakeItems.weight_taken c.args.taker.now) c.args.texts.items
            c.in-Some.text (into_iter_items c.next.new.self) xs c.loop-text.number t.xs c.in-Ok.after (rw steps.0 at so_far)
            (rw total at t.given),
      ),
    )

pub returns-in-Err-clause-refused : goal.returns-in-Err-clause-refused
returns-in-Err-clause-refused g c =
    let (xs, total, weigh, made, so_far) = c.loop-text.invariant.4 in
    texts-refused g.R.Read.remaining c.args.layout.now (g.T.TakeItems.weight_taken c.args.taker.now) c.args.texts.items
    c.in-Some.text (into_iter_items c.next.new.self) xs c.loop-text.number c.in-Err.error
    (rw c.in-Some.ensures.steps.0 at so_far) (rw total at c.in-Err.ensures.refused)

pub returns-clause-items : goal.returns-clause-items
returns-clause-items g c =
    let inv = c.loop-text.invariant in
    let (xs, total, weigh, made, so_far) = inv.4 in
    let none = nothing-left _ (sym c.in-None.ensures.steps.0 ∙ inv.2) in
    record {
      xs = xs;
      given = texts-end g.R.Read.remaining c.args.layout.now (g.T.TakeItems.weight_taken c.args.taker.now) c.args.texts.items
          xs c.loop-text.number (rw (← none) at so_far);
      positive = weigh;
      weight = total;
      taken = made;
    }
