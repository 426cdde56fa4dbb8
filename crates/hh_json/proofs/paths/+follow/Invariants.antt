use Rattle.std.proofs.Common.{length}
use Rattle.hh_json.proofs.paths.+follow.Given as goal

abbrev pub decreases-follow : goal.decreases-follow
decreases-follow l = length l.parts.now
