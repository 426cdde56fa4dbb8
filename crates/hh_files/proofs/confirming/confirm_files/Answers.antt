use Rattle.std.proofs.Common.{rules, sym}
use Rattle.hh_pieces.specs.Sources.{sources_known}
use Rattle.hh_commands.specs.declared.compared.Bounds.TheVariants as bounds
use Rattle.hh_commands.proofs.BoundsFacts.{bounds_compared}
use Rattle.hh_files.proofs.ConfirmFacts.{confirming_refused, rows_confirmed, told_confirmed}
use Rattle.hh_files.proofs.confirming.confirm_files.Goals as goal

pub returns-clause-rows : goal.returns-clause-rows
returns-clause-rows g c =
    let counted = rw c.in_ok-candidates.ensures.keys at c.in_ok-counts.ensures.counts in
    rows_confirmed _ (sources_known g.S.ReadAt.bytes c.args.records)
    c.in_ok-summary.summary c.in_ok-summary.ensures.summary c.in_ok-counts.counts counted
    c.args.rows.now c.args.share.now c.in-Some.share
    (rw c.k.ensures.k at (sym c.in-Some.ensures.threshold)) c.confirmed_text.result c.confirmed_text.ensures.total
    c.confirmed_text.ensures.rows

pub returns-clause-bounds : goal.returns-clause-bounds
returns-clause-bounds g c =
    let counted = rw c.in_ok-candidates.ensures.keys at c.in_ok-counts.ensures.counts in
    bounds_compared _ (sources_known g.S.ReadAt.bytes c.args.records)
    c.in_ok-summary.summary c.in_ok-summary.ensures.summary c.in_ok-counts.counts counted
    c.args.compared.now.refuses c.confirmed_text.new.compared bounds.Both c.confirmed_text.result
    c.confirmed_text.ensures.bounds

pub returns-clause-refused : goal.returns-clause-refused
returns-clause-refused g c =
    let counted = rw c.in_ok-candidates.ensures.keys at c.in_ok-counts.ensures.counts in
    confirming_refused _ (sources_known g.S.ReadAt.bytes c.args.records)
    c.in_ok-summary.summary c.in_ok-summary.ensures.summary c.in_ok-counts.counts counted
    c.args.compared.now.refuses c.confirmed_text.new.compared c.args.share.now c.args.workers c.in-Some.share
    (rw c.k.ensures.k at (sym c.in-Some.ensures.threshold)) c.if-not-in_range.ensures c.confirmed_text.result
    c.confirmed_text.ensures.refused

pub returns-clause-explained : goal.returns-clause-explained
returns-clause-explained g c =
    let counted = rw c.in_ok-candidates.ensures.keys at c.in_ok-counts.ensures.counts in
    told_confirmed _ (sources_known g.S.ReadAt.bytes c.args.records)
    c.in_ok-summary.summary c.in_ok-summary.ensures.summary c.in_ok-counts.counts counted
    c.args.compared.now.refuses c.confirmed_text.new.compared c.confirmed_text.result c.confirmed_text.ensures.refused

pub returns-in_err-counts-clause-refused : goal.returns-in_err-counts-clause-refused
returns-in_err-counts-clause-refused g c = search rules

pub returns-clause-workers : goal.returns-clause-workers
returns-clause-workers g c = search rules
