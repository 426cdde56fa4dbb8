use Rattle.std.proofs.Common.{◌≡◌, ◌+◌, ◌++◌, ◌∷◌, ◌∙◌, [], fold, length, take, inr, sym, ap, arith}
use Rattle.std.proofs.lemmas.List.{take_all, take_more}
use Rattle.std.proofs.lemmas.List.Sums.{fold-append, sum_by_more_le, sum_by_push}
use Rattle.hh_stream.specs.Weights.{Entry, total_of}
use Rattle.hh_workers.specs.Pieces.{piece_of}
use Rattle.hh_workers.proofs.CutFacts.{length-pieces_of}
use Rattle.hh_workers.proofs.pieces.CutStreamPieces.feed.Goals as goal

pub piece-item-items-requires-clause-within : goal.piece-item-items-requires-clause-within
piece-item-items-requires-clause-within g c =
    let now = c.self.inside in
    omega (arith, c.requires, ap length c.self.view_is, length-pieces_of now.cutting.now now.stream.now)

pub loop-item-preserved : goal.loop-item-preserved
loop-item-preserved g c =
    let i = c.loop-item.item-index in
    let items = c.piece-item-items.result.now in
    let e : Entry = c.item-item.result in
    let with = g.T.TakeItems.with_item in
    let more : take (i + 1) items ≡ take i items ++ e ∷ [] = take_more items i e c.loop-item-test.true
    ∙ ap (λ (x : Entry). take i items ++ x ∷ []) (sym c.item-item.is) in
    let item : (c.bytes.result.now, c.weight-in-loop-item.result) ≡ e =
    λ j. ((c.bytes.ensures.bytes ∙ c.key.ensures) j, c.weight-in-loop-item.ensures.weight j) in
    record {
      taken = c.in_ok-take.ensures.taken ∙ (ap (with c.loop-item.taker) item
          ∙ (ap (λ t. with t e) c.loop-item.invariant.taken
          ∙ sym (ap (fold with c.args.taker.now) more ∙ fold-append with c.args.taker.now (take i items) (e ∷ []))));
      total =
          let push = sum_by_push (λ (x : Entry). x.1) (take i items) e in
          omega (arith, c.in_ok-take.ensures.total, c.weight-in-loop-item.ensures.weight, c.loop-item.invariant.total, ap total_of more, push);
    }

pub returns-then-weight-total-clause-refused : goal.returns-then-weight-total-clause-refused
returns-then-weight-total-clause-refused g c = λ is known.
    let i = c.loop-item.item-index in
    let items = c.piece-item-items.result.now in
    let e : Entry = c.item-item.result in
    let piece = c.piece-item-items.ensures.piece ∙ ap (λ pieces. piece_of pieces c.args.piece) c.self.view_is in
    let rest = sum_by_more_le (λ (x : Entry). x.1) items i e c.loop-item-test.true in
    inr (omega (
      arith,
      c.if-weight-total.true,
      c.total.ensures.total,
      c.total.ensures.bounded,
      c.loop-item.invariant.total,
      rest,
      ap (λ (x : Entry). x.1) c.item-item.is,
      c.weight.ensures.weight,
      ap total_of piece,
    ))

pub returns-clause-taken : goal.returns-clause-taken
returns-clause-taken g c =
    let items = c.piece-item-items.result.now in
    let piece = c.piece-item-items.ensures.piece ∙ ap (λ pieces. piece_of pieces c.args.piece) c.self.view_is in
    let all = take_all c.loop-item.item-index items (omega arith) in
    record {
      xs = items;
      given = λ known. piece;
      positive = c.piece-item-items.ensures.lawful.1;
      weight = omega (arith, c.loop-item.invariant.total, ap total_of all);
      taken = c.loop-item.invariant.taken ∙ ap (fold g.T.TakeItems.with_item c.args.taker.now) all;
    }
