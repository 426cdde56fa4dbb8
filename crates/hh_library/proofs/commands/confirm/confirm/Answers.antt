use Rattle.std.proofs.Common.{◌∙◌, [], ap}
use Rattle.std.specs.Map.{keys_of}
use Rattle.hh_counters.specs.Counting.{Count, count_with}
use Rattle.hh_library.proofs.commands.confirm.confirm.Goals as goal

-- counting on from no items is counting
pub returns-clause-rows : goal.returns-clause-rows
returns-clause-rows c =
    let xs = c.args.stream.now in
    let counts = rw c.in_ok-candidates.ensures.keys at c.in_ok-counts.ensures in
    rw c.k.ensures.k at (c.in_ok-rows_above.ensures xs
    (c.add_stream.ensures ∙ ap (λ (n : Count). count_with n xs) counts
    ∙ c.counts_follow_items.ensures (keys_of c.args.summary.now.counters) [] xs))
