use Rattle.std.proofs.Common.{rules, ◌≡◌, ◌∙◌, ◌+◌, ◌⊎◌, inl, inr, ◌∷◌, ◌++◌, [], None, map, take, slice_index_or, sym, ap, subst}
use Rattle.std.proofs.lemmas.List.{map-append}
use Rattle.hh_faults.specs.declared.error.ToolError.TheVariants.{FileFault, Memory}
use Rattle.heavy_host.specs.Files.{AreRead, TellsFile}
use Rattle.heavy_host.proofs.FileLemmas.{AreRead-next, TellsFile-next}
use Rattle.heavy_host.proofs.files.read_files.Goals as goal

pub returns-in_err-push_file-clause-fault : goal.returns-in_err-push_file-clause-fault
returns-in_err-push_file-clause-fault g c =
    let name : c.deref.result.now ≡ (slice_index_or c.args.names.now c.loop-i.i c.index-names-i.result).items =
    c.deref.ensures.value ∙ ap (λ v. v.items) c.index-names-i.is in
    let gives = g.F.FileSource.gives c.args.source.now in
    let fault = c.in_err-push_file.field-0.0 in
    let cause : (fault ≡ Memory) ⊎ ((fault ≡ FileFault (c.loop-i.i + 1)) × gives (slice_index_or c.args.names.now c.loop-i.i c.index-names-i.result).items None) =
    elim c.in_err-push_file.ensures.fault [
      | inl memory ↦ inl memory
      | inr unread ↦ rw (unread, name) at c.read_file.ensures.fault
    ] in
    let told : TellsFile gives (map (λ w. w.items) c.args.names.now) fault =
    TellsFile-next (λ w. w.items) gives c.args.names.now c.loop-i.i c.index-names-i.result fault
    c.loop-i-test.true cause in
    search rules

pub loop-i-preserved : goal.loop-i-preserved
loop-i-preserved g c =
    let name : c.deref.result.now ≡ (slice_index_or c.args.names.now c.loop-i.i c.index-names-i.result).items =
    c.deref.ensures.value ∙ ap (λ v. v.items) c.index-names-i.is in
    let pushed = c.in_ok-push_file.ensures.pushed in
    let files : map (λ f. f.items) c.push_file.new.files.items ≡ map (λ f. f.items) c.loop-i.files.items ++ pushed.0.items ∷ [] =
    ap (map (λ f. f.items)) pushed.2 ∙ map-append (λ f. f.items) c.loop-i.files.items (pushed.0 ∷ []) in
    subst (λ fs. AreRead (g.F.FileSource.gives c.args.source.now) (map (λ w. w.items) (take (c.loop-i.i + 1) c.args.names.now)) fs)
    (sym files)
    (AreRead-next (λ w. w.items) (g.F.FileSource.gives c.args.source.now) c.args.names.now c.loop-i.i c.index-names-i.result
    (map (λ f. f.items) c.loop-i.files.items) pushed.0.items c.loop-i-test.true c.loop-i.invariant (rw (pushed.1, name) at c.read_file.ensures.read))
