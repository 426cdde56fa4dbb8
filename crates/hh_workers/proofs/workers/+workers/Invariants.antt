use Rattle.std.proofs.Common.{◌+◌, ◌*◌, max}
use Rattle.hh_workers.proofs.workers.+workers.Given as goal

abbrev pub decreases-run_workers : goal.decreases-run_workers
decreases-run_workers g l = 4 * l.count

abbrev pub decreases-run_apart : goal.decreases-run_apart
decreases-run_apart g l = 4 * max l.there l.here + 3

abbrev pub decreases-run_apart-scope : goal.decreases-run_apart-scope
decreases-run_apart-scope g l = 4 * max l.there l.here + 2

abbrev pub decreases-run_apart-scope-front : goal.decreases-run_apart-scope-front
decreases-run_apart-scope-front g l = 4 * l.there + 1
