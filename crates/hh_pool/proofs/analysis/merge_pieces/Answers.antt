use Rattle.std.proofs.Common.{◌∙◌, ap, arith, length, refl}
use Rattle.std.proofs.lemmas.List.{length-map}
use Rattle.hh_stream.specs.Cuttings.{whole_of}
use Rattle.hh_summaries.specs.Counters.{sketch_of}
use Rattle.hh_pool.proofs.ValueFacts.{IsMergeOf}
use Rattle.hh_pool.proofs.Merged.{no_refusal, merged_is}
use Rattle.hh_pool.proofs.analysis.merge_pieces.Goals as goal

pub merge_by-requires : goal.merge_by-requires
merge_by-requires g c =
    let count = ap length c.in_ok-summaries.ensures.summaries ∙ length-map c.args.pieces.now (sketch_of c.args.options.now.k) in
    rw count c.requires.plan

pub returns-in-Err-DifferentK-clause-refused : goal.returns-in-Err-DifferentK-clause-refused
returns-in-Err-DifferentK-clause-refused g c is =
    let refused = rw c.in-Err-DifferentK.field-0-is at c.in-Err-DifferentK.ensures.refused in
    absurd (no_refusal _ _ c.args.pieces.now _ _ c.requires.plan (omega (arith, c.requires.total, c.requires.fits))
    c.in_ok-summaries.ensures.summaries refused)

pub returns-in-Err-TotalTooLarge-clause-refused : goal.returns-in-Err-TotalTooLarge-clause-refused
returns-in-Err-TotalTooLarge-clause-refused g c is =
    let refused = rw c.in-Err-TotalTooLarge.field-0-is at c.in-Err-TotalTooLarge.ensures.refused in
    absurd (no_refusal _ _ c.args.pieces.now _ _ c.requires.plan (omega (arith, c.requires.total, c.requires.fits))
    c.in_ok-summaries.ensures.summaries refused)

pub returns-in-Ok-clause-summary : goal.returns-in-Ok-clause-summary
returns-in-Ok-clause-summary g c =
    let lists = c.args.pieces.now in
    let by = c.in-Ok.ensures in
    let of : IsMergeOf c.args.plan.now c.in_ok-summaries.summaries.items c.in-Ok.summary =
    record { same_k = by.k; total = by.total; counters = by.counters; honest = by.honest } in
    merged_is c.misra_gries_is_honest.ensures _ _ lists (whole_of lists) _ _ c.requires.some refl
    c.in_ok-summaries.ensures.summaries of
