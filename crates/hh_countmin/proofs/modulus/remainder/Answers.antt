use Rattle.std.proofs.Common.{sym, ◌∙◌, arith}
use Rattle.hh_countmin.proofs.Powers.{mask-is}
use Rattle.hh_countmin.proofs.modulus.remainder.Goals as goal

pub returns-then-is_power_of_two : goal.returns-then-is_power_of_two
returns-then-is_power_of_two c =
    mask-is c.args.number c.args.width c.requires (omega arith) (sym c.is_power_of_two.ensures
    ∙ c.if-is_power_of_two.true)
