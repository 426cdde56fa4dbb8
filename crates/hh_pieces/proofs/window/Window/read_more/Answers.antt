use Rattle.std.proofs.Common.{◌∙◌, ◌+◌, ◌++◌, drop, take, length, ap, arith, rules}
use Rattle.std.proofs.lemmas.List.{length-take-le, places, with_items_is}
use Rattle.hh_pieces.proofs.WindowFacts.{held-grown}
use Rattle.hh_pieces.proofs.window.Window.read_more.Goals as goal

pub returns-clause-more : goal.returns-clause-more
returns-clause-more g c =
    let window = c.args.self.now in
    let all = c.deref_mut.result.now in
    let long = ap length c.deref_mut.ensures.value in
    let count = c.in_ok-count.count in
    let bound = c.in_ok-count.ensures.bound in (
      take count c.read.new.buf,
      length-take-le count c.read.new.buf bound.0,
      ap (λ xs. take (window.held + count) (drop window.from xs)) (with_items_is window.bytes _ (search (rules, places)))
          ∙ held-grown all c.read.new.buf _ window.from window.held count (omega (arith, long, window.within)) bound.0
          ∙ ap (λ xs. take window.held (drop window.from xs) ++ take count c.read.new.buf) c.deref_mut.ensures.value,
      c.in_ok-count.ensures.bytes.0,
    )

pub returns-clause-end : goal.returns-clause-end
returns-clause-end g c = λ none.
    let long = ap length c.deref_mut.ensures.value in
    c.in_ok-count.ensures.bytes.1 none (omega (arith, long, c.requires.room))
