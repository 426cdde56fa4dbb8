use Rattle.std.proofs.Common.{arith}
use Rattle.hh_saved.proofs.Values.{is_found, saved_again}
use Rattle.hh_saved.proofs.reading.read.Goals as goal

pub returns-clause-found : goal.returns-clause-found
returns-clause-found c =
    is_found c.args.bytes.now c.read_all.result (λ i. omega (arith, c.type_inv.bytes i)) c.read_all.ensures.all

pub returns-clause-only : goal.returns-clause-only
returns-clause-only c =
    λ version v is. rw (saved_again version c.args.bytes.now v is) at c.read_all.ensures.all
