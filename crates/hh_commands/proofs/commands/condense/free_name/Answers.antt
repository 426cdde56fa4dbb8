use Rattle.std.proofs.Common.{◌≡◌, ◌∙◌, ap, sym, arith}
use Rattle.hh_stream.specs.Weights.{weight_of}
use Rattle.hh_counters.specs.Condensed.{other_name}
use Rattle.hh_commands.proofs.NameFacts.{first_is_free, never_all, one_more}
use Rattle.hh_commands.proofs.commands.condense.free_name.Goals as goal

pub returns-then-get-eq0 : goal.returns-then-get-eq0
returns-then-get-eq0 c =
    let cs = c.args.summary.now.counters in
    let n = c.loop-number.number in
    let none : weight_of (other_name n) cs ≡ 0 = ap (λ y. weight_of y cs) (sym c.in_ok-name.ensures) ∙ sym c.get.ensures
    ∙ c.if-get-eq0.true in
    c.in_ok-name.ensures ∙ first_is_free c.free_name_is_first.ensures cs n c.loop-number.invariant none

pub loop-number-preserved : goal.loop-number-preserved
loop-number-preserved c =
    let cs = c.args.summary.now.counters in
    let n = c.loop-number.number in
    one_more cs n c.loop-number.invariant
    (omega (arith, ap (λ y. weight_of y cs) c.in_ok-name.ensures, c.get.ensures, c.if-get-eq0.false))

pub unreachable-requires : goal.unreachable-requires
unreachable-requires c =
    never_all c.free_name_is_first.ensures c.args.summary.now.counters c.loop-number.number
    (omega (arith, c.loop-number-test.false, c.k-number-end.ensures.k, c.k-number-end.ensures.fits.few))
    c.loop-number.invariant
