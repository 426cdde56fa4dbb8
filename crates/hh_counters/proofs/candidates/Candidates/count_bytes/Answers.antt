use Rattle.std.proofs.Common.{refl, subst}
use Rattle.std.specs.List.Sorted.{IsStrictlySortedBy}
use Rattle.hh_stream.specs.Weights.{key_cmp}
use Rattle.hh_counters.proofs.Counting.{count_hit, count_miss}
use Rattle.hh_counters.proofs.candidates.Candidates.count_bytes.Goals as goal

pub returns-in-Some : goal.returns-in-Some
returns-in-Some c =
    let ks = c.args.self.now in
    let rising : IsStrictlySortedBy key_cmp ks = subst (IsStrictlySortedBy key_cmp) c.self.view_is c.self.invariant in
    count_hit ks c.args.numbers.now c.in-Some.place c.args.key.now c.args.weight rising c.requires.lengths
    ((c.in-Some.ensures.at c.in-Some.place).0 refl)

pub returns-in_default : goal.returns-in_default
returns-in_default c =
    count_miss c.args.self.now c.args.numbers.now c.args.key.now c.args.weight c.requires.lengths
    (λ p at. c.in_default.not-Some p ((c.place_of.ensures.at p).1 at))
