use Rattle.hh_tally.proofs.Reporting.{tally_contends}
use Rattle.hh_tally.proofs.tally.Tally.contenders.Goals as goal

pub returns-clause-entries : goal.returns-clause-entries
returns-clause-entries c =
    (tally_contends _ c.args.p c.args.q c.least_reach-t.result _ c.self.invariant.0 c.self.view_is c.requires.enough
    c.least_reach-t.ensures c.in_ok-entries.ensures.entries).are

pub returns-clause-rising : goal.returns-clause-rising
returns-clause-rising c =
    (tally_contends _ c.args.p c.args.q c.least_reach-t.result _ c.self.invariant.0 c.self.view_is c.requires.enough
    c.least_reach-t.ensures c.in_ok-entries.ensures.entries).rising

pub returns-clause-few : goal.returns-clause-few
returns-clause-few c =
    (tally_contends _ c.args.p c.args.q c.least_reach-t.result _ c.self.invariant.0 c.self.view_is c.requires.enough
    c.least_reach-t.ensures c.in_ok-entries.ensures.entries).few

pub returns-clause-report : goal.returns-clause-report
returns-clause-report c =
    (tally_contends _ c.args.p c.args.q c.least_reach-t.result _ c.self.invariant.0 c.self.view_is c.requires.enough
    c.least_reach-t.ensures c.in_ok-entries.ensures.entries).report
