use Rattle.hh_pieces.proofs.TakesFacts.{on-ok}
use Rattle.hh_pieces.proofs.FileFacts.{piece-fed}
use Rattle.hh_pieces.proofs.cut_files.CutFiles.feed.Goals as goal

pub returns-clause-items : goal.returns-clause-items
returns-clause-items g c =
    let here = rw c.deref.ensures.value at c.in-Some.ensures.lookup in
    let there = c.in-Some-get.ensures.lookup in
    on-ok c.feed_left.result _ _ _ c.feed_left.ensures.items c.feed_left.ensures.bounded (λ t few. record {
      xs = t.xs;
      given = rw (← c.self.view_is)
          (piece-fed c.self.inside.layout.now g.S.ReadAt.bytes c.self.inside.sources.now c.self.inside.pieces.items
          c.self.inside.count c.args.piece c.in-Some.part.now c.in-Some-get.source.now t.xs here.3.0 here.1 there.3.0 there.1
          (rw (c.read_between-bytes.ensures, c.as_ref-columns.ensures.value) at t.given));
      positive = t.positive;
      weight = t.weight;
      taken = t.taken;
    })
