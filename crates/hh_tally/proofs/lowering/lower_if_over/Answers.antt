use Rattle.std.proofs.Common.{◌/◌, cond, length, max, sym, ap, ◌∙◌, arith}
use Rattle.std.proofs.lemmas.List.Sums.{count_by-le-length}
use Rattle.hh_summaries.specs.Counters.{exceeds, level, lower}
use Rattle.hh_summaries.proofs.Level.{length-lower}
use Rattle.hh_tally.proofs.Bounds.{loss_is, loss_none, left_is, left_same}
use Rattle.hh_tally.proofs.lowering.lower_if_over.Goals as goal

pub returns-then-not-is_over-clause-lost : goal.returns-then-not-is_over-clause-lost
returns-then-not-is_over-clause-lost c =
    sym (loss_none c.args.room.now c.args.index.now.entries (sym c.is_over.ensures ∙ c.if-not-is_over.true))

pub returns-then-not-is_over-clause-left : goal.returns-then-not-is_over-clause-left
returns-then-not-is_over-clause-left c =
    sym (left_same c.args.room.now c.args.index.now.entries (sym c.is_over.ensures ∙ c.if-not-is_over.true))

pub key_bytes-requires : goal.key_bytes-requires
key_bytes-requires c =
    let t = c.in_ok-lost.lost in
    let es = c.args.index.now.entries in
    omega (arith, ap length c.lower_all.ensures, length-lower t es, count_by-le-length (exceeds t) es, c.requires.few)

pub returns-clause-lost : goal.returns-clause-lost
returns-clause-lost c =
    let room = c.args.room.now in
    let es = c.args.index.now.entries in
    let most = c.most_left.ensures ∙ ap (λ b. cond b (room.few / 2) (max (room.few / 2) (room.keys / 4))) c.are_large-large.ensures in
    c.in_ok-lost.ensures ∙ ap (level es) most ∙ sym (loss_is room es (sym c.is_over.ensures ∙ c.if-not-is_over.false))

pub returns-clause-left : goal.returns-clause-left
returns-clause-left c =
    let room = c.args.room.now in
    let es = c.args.index.now.entries in
    let over = sym c.is_over.ensures ∙ c.if-not-is_over.false in
    let most = c.most_left.ensures ∙ ap (λ b. cond b (room.few / 2) (max (room.few / 2) (room.keys / 4))) c.are_large-large.ensures in
    let lost = c.in_ok-lost.ensures ∙ ap (level es) most ∙ sym (loss_is room es over) in
    c.lower_all.ensures ∙ ap (λ t. lower t es) lost ∙ sym (left_is room es over)
