use Rattle.std.proofs.Common.{List, ℕ, sym, ap, ◌∙◌, subst}
use Rattle.std.specs.Map.{keys_of}
use Rattle.hh_stream.specs.Weights.{Bytes}
use Rattle.hh_tally.specs.Tallies.{TallyView}
use Rattle.hh_top.specs.Top.{counted_of}
use Rattle.hh_pieces.specs.Sources.{sources_known}
use Rattle.hh_files.specs.FilePasses.{WeighsRecords}
use Rattle.hh_files.proofs.TopFacts.{greatest_refused}
use Rattle.hh_files.proofs.topping.top_of_list.Goals as goal

pub returns-clause-refused : goal.returns-clause-refused
returns-clause-refused g c =
    let known = sources_known g.S.ReadAt.bytes c.args.records in
    let weighed = subst (λ (ws : List ℕ). WeighsRecords known (keys_of (counted_of c.args.list.now)) ws)
    (sym c.deref.ensures.value)
    (subst (λ (ks : List Bytes). WeighsRecords known ks c.in-Ok.counted.items) c.in_ok-choice.ensures.keys
    c.in-Ok.ensures.weights) in
    greatest_refused _ c.args.list.now _ (keys_of (counted_of c.args.list.now)) c.deref.result.now c.greatest.result _
    c.requires.tally weighed c.greatest.ensures.kind
    (λ none.
    let yes = c.is_exact.ensures.1 (ap (λ (t : TallyView). t.lost) c.tally.ensures.tally ∙ none) in
    absurd (cc (yes, c.if-is_exact.false)))
    c.greatest.ensures.refused c.greatest.ensures.sure
