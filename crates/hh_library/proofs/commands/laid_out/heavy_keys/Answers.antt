use Rattle.std.proofs.Common.{◌≡◌, ◌∙◌, ◌∷◌, [], ap, sym, subst}
use Rattle.hh_stream.specs.Weights.{total_of}
use Rattle.hh_counters.specs.Counting.{Count}
use Rattle.hh_summaries.specs.Counters.{Counters, IsHonest, SummaryView, misra_gries}
use Rattle.hh_records.specs.Layouts.{stream_with}
use Rattle.hh_library.proofs.LaidFacts.{read_once}
use Rattle.hh_library.proofs.commands.laid_out.heavy_keys.Goals as goal

-- the counters of the first pass miss no heavy key of the second, which reads the same stream
pub returns-clause-keys : goal.returns-clause-keys
returns-clause-keys c =
    let (p, q) = c.args.share in
    let s = c.in_ok-summary.summary in
    let (xs, reads, is) = c.in_ok-summary.ensures.summary in
    let (ys, again, (positive, count)) = rw c.in_ok-candidates.ensures.keys at c.in_ok-counts.ensures.counts in
    let same : xs ≡ ys = read_once (stream_with c.args.layout.now (c.args.text.now ∷ [])) xs ys reads again in
    let counters : s.counters ≡ misra_gries ys c.args.k =
    ap (λ (t : SummaryView). t.counters) is ∙ ap (λ zs. misra_gries zs c.args.k) same in
    let honest : IsHonest s.counters (total_of ys) ys c.args.k =
    subst (λ (d : Counters). IsHonest d (total_of ys) ys c.args.k) (sym counters)
    (c.misra_gries_is_honest.ensures ys c.args.k) in
    let suffice = c.candidates_suffice.ensures s.counters ys c.args.k p q in (
      ys,
      again,
      c.total.ensures.total ∙ ap (λ (n : Count). n.total) count,
      c.in_ok-keys.ensures ys count ∙ sym (suffice.0 c.in_ok-candidates.ensures.counters)
          ∙ suffice.1 honest c.requires.enough,
    )
