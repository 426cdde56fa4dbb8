use Rattle.std.proofs.Common.{◌∙◌, ap, arith, length, zip}
use Rattle.std.proofs.lemmas.List.{length-map}
use Rattle.hh_stream.specs.Cuttings.{whole_of}
use Rattle.hh_stream.specs.Weights.{Bytes, weight_of}
use Rattle.hh_summaries.specs.Report.{rows_above, weights_at}
use Rattle.hh_pool.proofs.analysis.heavy_keys.Goals as goal

pub weigh-requires-clause-fits : goal.weigh-requires-clause-fits
weigh-requires-clause-fits g c = omega (arith, c.requires.total, c.total-total.ensures.total, c.total-total.ensures.bounded)

pub select-requires-clause-lengths : goal.select-requires-clause-lengths
select-requires-clause-lengths g c =
    let xs = whole_of c.args.pieces.now in
    ap length (c.deref.ensures.value ∙ c.in_ok-weights.ensures.weights)
    ∙ length-map c.in_ok-candidates.candidates (λ (x : Bytes). weight_of x xs)

pub returns-clause-heavy : goal.returns-clause-heavy
returns-clause-heavy g c =
    let xs = whole_of c.args.pieces.now in
    let options = c.args.options.now in
    let counters = c.args.summary.now.counters in
    let suffice = c.candidates_suffice.ensures counters xs options.k options.p options.q in
    let total = c.total-total.ensures.total ∙ c.requires.total in
    let keys = c.in_ok-candidates.ensures.keys in
    let weights = c.deref.ensures.value ∙ c.in_ok-weights.ensures.weights ∙ ap (λ ks. weights_at ks xs) keys in
    c.in_ok-select.ensures.rows
    ∙ (λ i. rows_above (c.threshold-p.ensures.p i) (c.threshold-p.ensures.q i) (total i) (zip (keys i) (weights i)))
    ∙ suffice.1 c.requires.honest c.threshold-p.ensures.enough
