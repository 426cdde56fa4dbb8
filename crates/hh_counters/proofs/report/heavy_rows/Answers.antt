use Rattle.std.proofs.Common.{◌≡◌, ℕ, List, Bool, append-nil, take_all, ◌++◌, ◌∷◌, [], cond, true, false, sym, ap, ◌∙◌, arith, filter, zip, slice_index_or}
use Rattle.std.proofs.lemmas.List.{get_or_default}
use Rattle.std.proofs.lemmas.Slice.Zip.{length-zip}
use Rattle.hh_stream.specs.Weights.{Bytes, Entry}
use Rattle.hh_summaries.specs.Report.{is_heavy}
use Rattle.hh_summaries.proofs.Reports.{select_more, nothing_heavy}
use Rattle.hh_counters.proofs.report.heavy_rows.Goals as goal
use Rattle.hh_counters.proofs.report.heavy_rows.Goals.{then-is_heavy+in_ok-push_row, else-is_heavy}

push_yes : (old kept new : List Entry) (b : Bool) (z : Entry) → old ≡ kept → new ≡ old ++ z ∷ [] → b ≡ true
    → new ≡ kept ++ cond b (z ∷ []) []
push_yes old kept new b z e f h =
    f ∙ ap (λ (o : List Entry). o ++ z ∷ []) e ∙ ap (λ b. kept ++ cond b (z ∷ []) []) (sym h)

push_no : (kept new : List Entry) (b : Bool) (z : Entry) → new ≡ kept → b ≡ false → new ≡ kept ++ cond b (z ∷ []) []
push_no kept new b z e h = e ∙ sym (append-nil kept) ∙ ap (λ b. kept ++ cond b (z ∷ []) []) (sym h)

pub loop-i-preserved : goal.loop-i-preserved
loop-i-preserved c =
    let i = c.loop-i.i in
    let ks = c.args.keys.now in
    let ns = c.args.numbers.now in
    let number : ℕ = slice_index_or ns i 0 in
    elim c.if-is_heavy.branch [
      | then-is_heavy+in_ok-push_row w ↦
          let k : Bytes = w.index-keys-i.result in
          push_yes _ _ _ _ (k, number) c.loop-i.invariant (ap (λ v. v.items) w.rows-is ∙ w.in_ok-push_row.ensures)
          (sym c.is_heavy.ensures ∙ w.if-is_heavy.true)
          ∙ sym (select_more c.args.p c.args.q c.args.total ks ns i k c.requires c.loop-i-test.true w.index-keys-i.is)
      | else-is_heavy w ↦
          let k : Bytes = slice_index_or ks i [] in
          push_no _ _ _ (k, number) (ap (λ v. v.items) w.rows-is ∙ c.loop-i.invariant) (sym c.is_heavy.ensures
          ∙ w.if-is_heavy.false)
          ∙ sym (select_more c.args.p c.args.q c.args.total ks ns i k c.requires c.loop-i-test.true
          (get_or_default ks i [] k c.loop-i-test.true))
    ]

pub returns-clause-rows : goal.returns-clause-rows
returns-clause-rows c = c.loop-i.invariant ∙ ap (filter (is_heavy c.args.p c.args.q c.args.total))
    (take_all c.loop-i.i (zip c.args.keys.now c.args.numbers.now)
    (omega (arith, length-zip c.args.keys.now c.args.numbers.now, c.loop-i-test.false)))

pub returns-in_err-push_row-clause-none : goal.returns-in_err-push_row-clause-none
returns-in_err-push_row-clause-none c = λ none.
    absurd (nothing_heavy c.args.p c.args.q c.args.total c.args.keys.now c.args.numbers.now c.loop-i.i c.requires
    c.loop-i-test.true none (sym c.is_heavy.ensures ∙ c.if-is_heavy.true))
