use Rattle.std.proofs.Common.{◌≡◌, ◌∙◌, ◌++◌, ℕ, List, [], ap, sym}
use Rattle.std.proofs.lemmas.Result.{IfOk-weaker}
use Rattle.hh_stream.specs.Weights.{Entry}
use Rattle.hh_summaries.specs.Counters.{SummaryView, sketch_of}
use Rattle.hh_counters.specs.SpaceSaving.{monitor_of, monitor_with, translation_of}
use Rattle.hh_countmin.specs.Family.{Coefficients}
use Rattle.hh_countmin.specs.Table.{TableView, grid_with, table_of}
use Rattle.hh_workers.specs.Pieces.{piece_of}
use Rattle.hh_pool.specs.declared.first.Sketches.{Sketches}
use Rattle.hh_stream.proofs.TakingFacts.{follows}
use Rattle.hh_pool.proofs.Taken.{in_both}
use Rattle.hh_pool.proofs.first.FirstPass.summarise.Goals as goal

pub returns-clause-summary : goal.returns-clause-summary
returns-clause-summary g c =
    let took = c.in_ok-feed.ensures.taken in
    let k = c.args.self.now.options.now.k in
    let law = c.summaries_follow_items.ensures.monitors in
    let taken = took.taken ∙ in_both _ took.xs in
    let begins = ap (λ (s : Sketches). s.monitor) c.in_ok-sketches.ensures ∙ ap (λ k. monitor_of k []) c.k.ensures.k in
    let all = follows (λ xs m. m ≡ monitor_of k xs) monitor_with
    (λ m xs e is. ap (λ n. monitor_with n e) is ∙ sym ((law k xs e).1)) took.xs [] _ begins in
    let monitor = ap (λ (s : Sketches). s.monitor) taken ∙ all in
    let last = c.feed.new.taker in
    IfOk-weaker _ (λ (r : SummaryView × TableView). (r.0 ≡ translation_of last.monitor) × (r.1 ≡ last.table))
    (λ (r : SummaryView × TableView). r.0 ≡ sketch_of k (piece_of c.args.self.now.pieces.now c.args.piece))
    (λ r parts. parts.0 ∙ ap translation_of monitor ∙ (law k took.xs ([], 0)).2 took.positive ∙ ap (sketch_of k) (took.given tt))
    c.into_parts.ensures.parts

pub returns-clause-table : goal.returns-clause-table
returns-clause-table g c =
    let took = c.in_ok-feed.ensures.taken in
    let taken = took.taken ∙ in_both _ took.xs in
    let last = c.feed.new.taker in
    let items = piece_of c.args.self.now.pieces.now c.args.piece in
    IfOk-weaker _ (λ (r : SummaryView × TableView). (r.0 ≡ translation_of last.monitor) × (r.1 ≡ last.table))
    (λ (r : SummaryView × TableView). (family : Coefficients) (width : ℕ) (ys : List Entry)
    → c.args.table ≡ table_of family width ys → r.1 ≡ table_of family width (ys ++ items))
    (λ r parts family width ys was. parts.1 ∙ ap (λ (s : Sketches). s.table) taken
    ∙ follows (λ xs t. t ≡ table_of family width xs) grid_with
    (λ t xs e is. ap (λ g. grid_with g e) is ∙ (c.tables_follow_items.ensures family width xs [] e).1) took.xs ys _
    (ap (λ (s : Sketches). s.table) c.in_ok-sketches.ensures ∙ was)
    ∙ ap (λ xs. table_of family width (ys ++ xs)) (took.given tt))
    c.into_parts.ensures.parts
