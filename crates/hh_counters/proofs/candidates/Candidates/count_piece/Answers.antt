use Rattle.std.proofs.Common.{◌≡◌, [], ◌∷◌, take, get_or, sym, ap, ◌∙◌, arith}
use Rattle.hh_stream.specs.Weights.{Entry}
use Rattle.hh_summaries.specs.Report.{counts_with}
use Rattle.std.proofs.lemmas.List.{get_or_default}
use Rattle.std.proofs.lemmas.List.Sums.{sum_by_more_le}
use Rattle.hh_counters.proofs.Counting.{counted_none, counted-le, count_turn}
use Rattle.hh_counters.proofs.candidates.Candidates.count_piece.Goals as goal

pub loop-item-init : goal.loop-item-init
loop-item-init c = sym (counted_none c.args.self.now c.args.numbers.now c.requires.lengths)

pub count-requires-clause-bounded : goal.count-requires-clause-bounded
count-requires-clause-bounded c = λ p d lt.
    let i = c.loop-item.item-index in
    let item : Entry = c.item-item.result in
    let ns = c.args.numbers.now in
    let more = sum_by_more_le (λ (e : Entry). e.1) c.args.items.now i item c.loop-item-test.true in
    let now = counted-le c.args.self.now (take i c.args.items.now) ns p c.requires.lengths in
    let room = c.requires.bounded p 0 (omega (arith, lt, c.loop-item.auto.numbers)) in
    let number = get_or_default c.loop-item.numbers p d 0 lt ∙ ap (λ ns. get_or ns p 0) c.loop-item.invariant in
    omega (arith, number, now, more, room, ap (λ (e : Entry). e.1) c.item-item.is, c.weight.ensures.weight)

pub loop-item-preserved : goal.loop-item-preserved
loop-item-preserved c =
    let ks = c.args.self.now in
    let i = c.loop-item.item-index in
    let item : Entry = c.item-item.result in
    let taken : Entry = (c.key.result.now, c.weight.result) in
    let same : taken ≡ item = λ j. (c.key.ensures j, c.weight.ensures.weight j) in
    count_turn ks c.args.items.now c.args.numbers.now c.loop-item.numbers c.count.new.numbers i item
    c.loop-item-test.true c.item-item.is c.loop-item.invariant
    (c.count.ensures ∙ ap (λ (e : Entry). counts_with ks (e ∷ []) c.loop-item.numbers) same)
