use Rattle.std.proofs.Common.{refl, sym}
use Rattle.std.proofs.lemmas.List.{append-nil, take_all}
use Rattle.hh_pieces.proofs.FileFacts.{pieces-more}
use Rattle.hh_pieces.proofs.cut_files.add_later.Goals as goal

pub loop-span-init : goal.loop-span-init
loop-span-init c = λ texts. sym (append-nil _)

pub loop-span-preserved : goal.loop-span-preserved
loop-span-preserved c = λ texts.
    pieces-more texts c.args.number c.args.columns.now c.in_ok-copy.field-0 c.args.later.now c.loop-span.span-index _
    c.args.pieces.now.items c.loop-span.pieces.items c.push.new.self.items _ c.loop-span-test.true c.in_ok-copy.ensures refl
    c.in_ok-push.ensures.items (c.loop-span.invariant texts)

pub returns : goal.returns
returns c = λ texts.
    rw (take_all c.loop-span.span-index c.args.later.now c.loop-span-test.false) at (c.loop-span.invariant texts)
