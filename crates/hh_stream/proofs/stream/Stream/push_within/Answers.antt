use Rattle.std.proofs.Common.{ap, arith}
use Rattle.std.proofs.lemmas.List.Sums.{sum_by_push}
use Rattle.hh_stream.specs.Weights.{Entry, total_of}
use Rattle.hh_stream.proofs.ItemFacts.{items-push}
use Rattle.hh_stream.proofs.stream.Stream.push_within.Goals as goal

pub invariant_of-self : goal.invariant_of-self
invariant_of-self c =
    let items = c.self.inside.items.items in
    let item : Entry = (c.args.key, c.args.weight) in
    rw c.in-Ok.ensures.items (
      omega (arith, sum_by_push (λ (e : Entry). e.1) items item),
      omega (arith, ap total_of c.self.view_is),
      items-push items item c.self.invariant.2 c.bytes-bytes.ensures.key (omega arith),
    )
