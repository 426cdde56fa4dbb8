use Rattle.std.proofs.Common.{ℕ, Bor, List, ap, ◌∙◌}
use Rattle.std.proofs.lemmas.Result.{err_from_is_err_and}
use Rattle.hh_stream.specs.Weights.{Entry}
use Rattle.hh_saved.specs.Reading.{last_key_of}
use Rattle.hh_saved.proofs.Loops.{entries_go_on, entries_fail, entries_end}
use Rattle.hh_saved.proofs.Heads.{failed, err_is, begun_more, begun_ends, begun_stops, entry_stops}
use Rattle.hh_saved.proofs.reading.take_entries.Goals as goal

pub loop-preserved : goal.loop-preserved
loop-preserved c =
    let front = c.loop.entries.items in
    let last = c.last_key.ensures ∙ ap last_key_of c.deref.ensures.value in
    let read = rw last at c.in_ok-entry.ensures.entry in
    record {
      read = rw c.in_ok-push.ensures.items
          (entries_go_on _ front _ _ c.loop.left c.loop.rest.now _ _ _ c.loop-test.true read c.loop.invariant.read);
      begun = begun_more _ _ _ _ _ _ _ _ _ _ _ _ c.loop-test.true read c.loop.invariant.begun;
    }

pub returns-clause-entries : goal.returns-clause-entries
returns-clause-entries c = entries_end _ _ _ _ _ _ _ c.loop-test.false c.loop.invariant.read

pub returns-in_err-entry-clause-entries : goal.returns-in_err-entry-clause-entries
returns-in_err-entry-clause-entries c =
    let p = err_from_is_err_and c.from_residual.result c.from_residual.ensures.1 in
    let last = c.last_key.ensures ∙ ap last_key_of c.deref.ensures.value in
    let failed = rw last at c.in_err-entry.ensures.entry in
    rw (p.1, p.2) (entries_fail _ c.in_err-entry.field-0.0 c.loop.entries.items _ _ c.loop.left c.loop.rest.now _
    c.loop-test.true failed c.loop.invariant.read)

pub returns-clause-early : goal.returns-clause-early
returns-clause-early c = begun_ends _ _ _ _ _ _ _ _ _ c.loop-test.false c.loop.invariant.begun

pub returns-in_err-entry-clause-early : goal.returns-in_err-entry-clause-early
returns-in_err-entry-clause-early c =
    let p = err_from_is_err_and c.from_residual.result c.from_residual.ensures.1 in
    let last = c.last_key.ensures ∙ ap last_key_of c.deref.ensures.value in
    let fault = c.in_err-entry.field-0.0 in
    let stops = rw last at c.in_err-entry.ensures.early in
    rw (p.1, p.2) (entry_stops _ (failed {A = Entry × Bor (List ℕ)} fault) _ _ _ _ _ _ _ _ stops
    (λ e h. err_is fault e h) c.loop.invariant.begun)

pub returns-in_err-push-clause-early : goal.returns-in_err-push-clause-early
returns-in_err-push-clause-early c =
    let last = c.last_key.ensures ∙ ap last_key_of c.deref.ensures.value in
    let read = rw last at c.in_ok-entry.ensures.entry in
    begun_stops _ _ _ _ _ _ _ _ _ _ c.loop-test.true read c.loop.invariant.begun
