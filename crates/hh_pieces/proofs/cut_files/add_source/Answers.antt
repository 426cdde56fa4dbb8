use Rattle.std.proofs.Common.{refl}
use Rattle.csv.proofs.ReadFacts.{prepend-nil}
use Rattle.hh_pieces.proofs.FileFacts.{source-added}
use Rattle.hh_pieces.proofs.cut_files.add_source.Goals as goal

pub returns : goal.returns
returns g c = λ _.
    source-added c.args.layout.now (g.S.ReadAt.bytes c.args.source.now) c.args.number c.args.pieces.now.items
    c.push.new.self.items c.add_later.new.pieces.items c.in-Ok-Some-default.columns _ c.in-Some.first.now c.in-Some.later.now
    c.in_ok-spans.spans.items (rw c.deref.ensures.value at c.in-Some.ensures.cases.0) c.in_ok-spans.ensures
    (rw (c.in_ok-window.ensures, prepend-nil _, c.in-Ok-Some-default.field-0-0-is, c.read_between-reader.ensures) at c.in-Ok-Some-default.ensures.found)
    c.in_ok-push.ensures.items (λ texts. refl) c.in_ok-add_later.ensures
