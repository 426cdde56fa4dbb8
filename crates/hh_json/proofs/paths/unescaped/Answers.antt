use Rattle.std.proofs.Common.{arith}
use Rattle.hh_json.proofs.PathFacts.{begins-alone, begins-last, begins-plain, begins-slash, begins-tilde}
use Rattle.hh_json.proofs.paths.unescaped.Goals as goal
use Rattle.hh_json.proofs.paths.unescaped.Goals.{then-byte-ne126-via-then-byte-ne126, then-byte-ne126-via-else-byte-ne126+then-part-eq1}

pub returns-then-byte-ne126 : goal.returns-then-byte-ne126
returns-then-byte-ne126 c =
    elim c.then-byte-ne126.branch [
      | then-byte-ne126-via-then-byte-ne126 w ↦ begins-plain c.args.part.now (grind arith) (grind arith)
      | then-byte-ne126-via-else-byte-ne126+then-part-eq1 w ↦ begins-last c.args.part.now (grind arith)
    ]

pub returns-in-48 : goal.returns-in-48
returns-in-48 c = begins-tilde c.args.part.now (grind arith) (grind arith) c.in-48.is

pub returns-in-49 : goal.returns-in-49
returns-in-49 c = begins-slash c.args.part.now (grind arith) (grind arith) c.in-49.is

pub returns-in_default : goal.returns-in_default
returns-in_default c = begins-alone c.args.part.now (grind arith) (grind arith) (grind arith)
