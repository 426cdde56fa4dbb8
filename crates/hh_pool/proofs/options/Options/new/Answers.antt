use Rattle.std.proofs.Common.{rules}
use Rattle.hh_pool.proofs.options.Options.new.Goals as goal

pub within-requires-clause-threshold : goal.within-requires-clause-threshold
within-requires-clause-threshold c = search rules

pub within-requires-clause-workers : goal.within-requires-clause-workers
within-requires-clause-workers c = search rules

pub returns-then-not-is_threshold-clause-bad_threshold : goal.returns-then-not-is_threshold-clause-bad_threshold
returns-then-not-is_threshold-clause-bad_threshold c = search rules

pub returns-then-not-is_threshold-clause-bad_workers : goal.returns-then-not-is_threshold-clause-bad_workers
returns-then-not-is_threshold-clause-bad_workers c = search rules

pub returns-then-not-in_range-3-clause-bad_workers : goal.returns-then-not-in_range-3-clause-bad_workers
returns-then-not-in_range-3-clause-bad_workers c = search rules

pub returns-then-not-in_range-3-clause-bad_width : goal.returns-then-not-in_range-3-clause-bad_width
returns-then-not-in_range-3-clause-bad_width c = search rules
