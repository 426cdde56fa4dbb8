use Rattle.std.proofs.Common.{◌≡◌, []}
use Rattle.std.proofs.lemmas.Result.{IfOk-weaker}
use Rattle.hh_counters.specs.Counting.{Count, count_of}
use Rattle.hh_pool.specs.Progress.{AreCounted}
use Rattle.hh_pool.proofs.Tried.{none_counted}
use Rattle.hh_pool.proofs.second.SecondPassPass.begin.Goals as goal

pub returns : goal.returns
returns g c =
    let keys = c.args.self.now.candidates.now in
    IfOk-weaker _ (λ (counts : Count). counts ≡ count_of keys []) (λ counts. AreCounted keys [] counts)
    (λ counts is. none_counted keys counts is) c.new.ensures
