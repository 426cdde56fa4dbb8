use Rattle.std.proofs.Common.{rules}
use Rattle.hh_counters.proofs.bucket_saving.BucketSaving.new.Goals as goal

pub with_hasher-requires : goal.with_hasher-requires
with_hasher-requires c = search rules

pub returns-clause-bad_k : goal.returns-clause-bad_k
returns-clause-bad_k c = search rules
