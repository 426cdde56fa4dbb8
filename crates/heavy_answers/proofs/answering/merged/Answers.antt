use Rattle.std.proofs.Common.{rules, ◌<◌, length, map, inr}
use Rattle.heavy_answers.proofs.AnswerLemmas.{if_err_more, if_ok_more}
use Rattle.heavy_answers.proofs.SavedLemmas.{read_and_opened, some_opened}
use Rattle.heavy_answers.proofs.answering.merged.Goals as goal

pub merge_bytes-requires : goal.merge_bytes-requires
merge_bytes-requires g c =
    let some : 0 < length c.deref.result.now = search rules in
    rw c.deref-2.ensures.value (some_opened (λ f. f.items) c.deref.result.now c.in_ok-opened.opened.items c.in_ok-opened.ensures.opened some)

pub returns-clause-made : goal.returns-clause-made
returns-clause-made g c =
    if_ok_more c.merge_bytes.result (λ bytes made. record {
      files = map (λ f. f.items) c.in_ok-opened.opened.items;
      read = read_and_opened (g.H.FileSource.gives c.args.host.now) _ (map (λ f. f.items) c.in_ok-files.files.items)
          (map (λ f. f.items) c.in_ok-opened.opened.items) c.in_ok-files.ensures.read
          (rw c.deref.ensures.value at c.in_ok-opened.ensures.opened);
      saved = made.0;
      merged = made.1;
      spelled = made.2;
    }) (rw c.deref-2.ensures.value at c.merge_bytes.ensures.merged)

pub returns-clause-refused : goal.returns-clause-refused
returns-clause-refused g c =
    if_err_more c.merge_bytes.result (λ fault fails. inr (inr (inr (
      map (λ f. f.items) c.in_ok-opened.opened.items,
      read_and_opened (g.H.FileSource.gives c.args.host.now) _ (map (λ f. f.items) c.in_ok-files.files.items)
          (map (λ f. f.items) c.in_ok-opened.opened.items) c.in_ok-files.ensures.read
          (rw c.deref.ensures.value at c.in_ok-opened.ensures.opened),
      fails,
    )))) (rw c.deref-2.ensures.value at c.merge_bytes.ensures.refused)
