use Rattle.std.proofs.Common.{arith}
use Rattle.hh_commands.proofs.KeyFacts.{bounds-fit}
use Rattle.hh_commands.proofs.commands.ask.bounds_in.Goals as goal

pub overflow_add-result : goal.overflow_add-result
overflow_add-result c =
    let s = c.args.summary.now in
    let fits = c.k-k.ensures.fits in
    omega (
      arith,
      c.get-low.ensures,
      c.requires,
      bounds-fit s.k s.total s.counters c.args.key.now fits.within (omega (arith, fits.bounded_total)),
    )
