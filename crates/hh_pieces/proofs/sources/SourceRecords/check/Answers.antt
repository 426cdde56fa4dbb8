use Rattle.std.proofs.Common.{sym, subst, ◌∙◌}
use Rattle.std.proofs.lemmas.List.{take_all}
use Rattle.std.proofs.lemmas.List.Elements.{All-more, All-nil}
use Rattle.hh_pieces.proofs.SourceFacts.{none-changed, where-no-error}
use Rattle.hh_pieces.proofs.sources.SourceRecords.check.Goals as goal

pub loop-source-init : goal.loop-source-init
loop-source-init g c = All-nil g.S.ReadAt.still

pub loop-source-preserved : goal.loop-source-preserved
loop-source-preserved g c =
    All-more g.S.ReadAt.still c.args.self.sources.now c.loop-source.source-index c.source-item.result
    c.loop-source-test.true c.loop-source.invariant
    (subst g.S.ReadAt.still c.source-item.is
    (where-no-error c.check.result c.check.ensures.still (sym c.is_err.ensures.value ∙ c.if-is_err.false)))

pub returns-clause-still : goal.returns-clause-still
returns-clause-still g c =
    rw (take_all c.loop-source.source-index c.args.self.sources.now c.loop-source-test.false) at c.loop-source.invariant

pub returns-then-is_err-clause-known : goal.returns-then-is_err-clause-known
returns-then-is_err-clause-known g c =
    none-changed _ g.S.ReadAt.bytes c.args.self.sources.now c.loop-source.source-index c.source-item.result c.check.result
    c.loop-source-test.true c.source-item.is c.check.ensures.known (sym c.is_err.ensures.value ∙ c.if-is_err.true)
