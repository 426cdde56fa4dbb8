use Rattle.hh_seals.proofs.Sealed.{found_in, sealed_again}
use Rattle.hh_seals.proofs.opening.open.Goals as goal

pub returns-clause-found : goal.returns-clause-found
returns-clause-found c = found_in c.args.bytes.now c.contents_of.result c.contents_of.ensures

pub returns-clause-only : goal.returns-clause-only
returns-clause-only c =
    λ decimals spelling is. rw (sealed_again c.args.bytes.now decimals spelling is) at c.contents_of.ensures
