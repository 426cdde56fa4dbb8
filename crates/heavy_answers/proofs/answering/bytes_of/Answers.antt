use Rattle.std.proofs.Common.{IfErr, IfOk, inr, subst, sym}
use Rattle.heavy_answers.specs.Answers.{Answers}
use Rattle.heavy_answers.specs.Refusals.{Fails}
use Rattle.heavy_answers.proofs.AnswerLemmas.{if_err_more}
use Rattle.heavy_answers.proofs.answering.bytes_of.Goals as goal

pub returns-in-Report-clause-made : goal.returns-in-Report-clause-made
returns-in-Report-clause-made g c = rw c.in-Report.is c.report.ensures.made

pub returns-in-Report-clause-refused : goal.returns-in-Report-clause-refused
returns-in-Report-clause-refused g c =
    subst (λ verb. IfErr c.report.result (Fails (g.H.FileSource.gives c.args.host.now) (g.H.Host.opens c.args.host.now)
    (g.H.Host.unopened c.args.host.now) verb c.args.asked.now c.args.compared.now.refuses)) (sym c.in-Report.is)
    c.report.ensures.refused

pub returns-in-Top-clause-made : goal.returns-in-Top-clause-made
returns-in-Top-clause-made g c = rw c.in-Top.is c.top.ensures.made

pub returns-in-Top-clause-refused : goal.returns-in-Top-clause-refused
returns-in-Top-clause-refused g c = rw c.in-Top.is c.top.ensures.refused

pub returns-in-Pass-clause-made : goal.returns-in-Pass-clause-made
returns-in-Pass-clause-made g c =
    subst (λ verb. IfOk c.in_one_pass.result (λ bytes. Answers (g.H.FileSource.gives c.args.host.now) (g.H.Host.opens c.args.host.now)
    verb c.args.asked.now c.args.compared.now.refuses c.in_one_pass.new.compared.outside bytes.items)) (sym c.in-Pass.is)
    c.in_one_pass.ensures.made

pub returns-in-Pass-clause-refused : goal.returns-in-Pass-clause-refused
returns-in-Pass-clause-refused g c =
    subst (λ verb. IfErr c.in_one_pass.result (Fails (g.H.FileSource.gives c.args.host.now) (g.H.Host.opens c.args.host.now)
    (g.H.Host.unopened c.args.host.now) verb c.args.asked.now c.args.compared.now.refuses)) (sym c.in-Pass.is)
    c.in_one_pass.ensures.refused

pub returns-in_ok-file-in-Ask-clause-refused : goal.returns-in_ok-file-in-Ask-clause-refused
returns-in_ok-file-in-Ask-clause-refused g c =
    rw c.in-Ask.is (if_err_more c.ask_rows.result
    (λ fault fails. inr (c.in_ok-file-in-Ask.file.items, c.in_ok-file-in-Ask.ensures.read, fails))
    (rw (c.deref-in-Ask.ensures.value, c.deref-in-Ask-2.ensures.value) at c.ask_rows.ensures.refused))

pub returns-in-Merge-clause-refused : goal.returns-in-Merge-clause-refused
returns-in-Merge-clause-refused g c =
    subst (λ verb. IfErr c.merged.result (Fails (g.H.FileSource.gives c.args.host.now) (g.H.Host.opens c.args.host.now)
    (g.H.Host.unopened c.args.host.now) verb c.args.asked.now c.args.compared.now.refuses)) (sym c.in-Merge.is)
    (rw c.deref.ensures.value at c.merged.ensures.refused)
