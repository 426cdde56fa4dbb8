use Rattle.std.proofs.Common.{◌≡◌, ◌≤◌, ◌<◌, ◌+◌, ◌-◌, ◌∷◌, ◌∙◌, [], ap, refl, true, false, arith}
use Rattle.std.specs.Prelude.{◌==◌, nat_le}
use Rattle.std.proofs.lemmas.Bool.{ne_eqb}
use Rattle.std.proofs.lemmas.Bool.Decides.{nat_tests}
use Rattle.std.proofs.lemmas.List.Elements.{All-from_recursion}
use Rattle.hh_stream.specs.Weights.{Entry, max_total}
use Rattle.hh_records.proofs.records.take_weight.Goals as goal

-- an item that weighs something fits
pub returns-clause-taken : goal.returns-clause-taken
returns-clause-taken g c = λ w is.
    let t = g.T.TakeItems.weight_taken c.args.taker.now in
    let fits : c.args.weight ≤ max_total - t = omega (arith, c.if-weight-total.false, c.total.ensures.total) in
    let same : w ≡ c.args.weight = omega (arith, is, fits) in
    let some : (w == 0) ≡ false = ne_eqb w 0 (λ z. c.if-weight-eq0.false (omega (arith, same, z))) in
    let room : nat_le (t + (0 + w)) max_total ≡ true = grind (arith, nat_tests, same, fits, c.requires.bounded) in
    record {
      xs = (c.args.key.now, w) ∷ [];
      given = rw (some, room) refl;
      positive = All-from_recursion (λ (e : Entry). 0 < e.1) ((c.args.key.now, w) ∷ []) (omega (arith, same, c.if-weight-eq0.false), tt);
      weight = omega (arith, same, c.in_ok-take.ensures.total);
      taken = c.in_ok-take.ensures.taken ∙ ap (λ v. g.T.TakeItems.with_item c.args.taker.now (c.args.key.now, v)) (omega (arith, same));
    }
