use Rattle.std.proofs.Common.{arith, refl, sym, ◌∙◌}
use Rattle.csv.specs.Machine.{Feeds}
use Rattle.hh_pieces.specs.LongRecords.{config_for}
use Rattle.hh_pieces.proofs.LongFacts.{fed-more}
use Rattle.hh_pieces.proofs.long_record.LongRecord.take_bytes.Goals as goal

pub loop-count-init : goal.loop-count-init
unfolding Feeds
loop-count-init c = (omega arith, λ fs f h. (fs, f, h, (refl, refl, refl, refl)))

pub returns-then-ended-clause-fed : goal.returns-then-ended-clause-fed
returns-then-ended-clause-fed c =
    let e = c.in_ok-ended.ensures in
    fed-more (config_for c.args.syntax) c.args.limits c.args.self.now c.loop-count.self c.take.new.self c.args.bytes.now
    c.loop-count.count _ c.loop-count-test.true c.loop-count.invariant.1 (sym c.if-ended.true ∙ e.ended) e.spot e.holds

pub loop-count-preserved : goal.loop-count-preserved
loop-count-preserved c =
    let e = c.in_ok-ended.ensures in (
      omega (arith, c.loop-count-test.true),
      fed-more (config_for c.args.syntax) c.args.limits c.args.self.now c.loop-count.self c.take.new.self c.args.bytes.now
          c.loop-count.count _ c.loop-count-test.true c.loop-count.invariant.1 (sym c.if-ended.false ∙ e.ended) e.spot e.holds,
    )
