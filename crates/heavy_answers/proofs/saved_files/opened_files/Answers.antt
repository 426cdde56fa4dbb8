use Rattle.std.proofs.Common.{◌≡◌, ◌∙◌, ◌+◌, ◌∷◌, ◌++◌, [], map, take, slice_index_or, sym, ap, subst}
use Rattle.std.proofs.lemmas.List.{map-append}
use Rattle.heavy_host.specs.Files.{AreRead}
use Rattle.heavy_host.proofs.FileLemmas.{AreRead-next}
use Rattle.heavy_answers.specs.Answers.{opens_file}
use Rattle.heavy_answers.proofs.saved_files.opened_files.Goals as goal

pub loop-i-preserved : goal.loop-i-preserved
loop-i-preserved c =
    let files = c.args.files.now in
    let place = c.loop-i.i in
    let file : c.deref.result.now ≡ (slice_index_or files place c.index-files-i.result).items =
    c.deref.ensures.value ∙ ap (λ v. v.items) c.index-files-i.is in
    let made = c.in_ok-opened.field-0 in
    let pushed : map (λ f. f.items) c.push_to.new.others.items ≡ map (λ f. f.items) c.loop-i.saved.items ++ made.items ∷ [] =
    ap (map (λ f. f.items)) c.in_ok-push_to.ensures.pushed ∙ map-append (λ f. f.items) c.loop-i.saved.items (made ∷ []) in
    subst (λ fs. AreRead opens_file (map (λ w. w.items) (take (place + 1) files)) fs) (sym pushed)
    (AreRead-next (λ w. w.items) opens_file files place c.index-files-i.result (map (λ f. f.items) c.loop-i.saved.items) made.items
    c.loop-i-test.true c.loop-i.invariant (rw file at c.in_ok-opened.ensures.opened))
