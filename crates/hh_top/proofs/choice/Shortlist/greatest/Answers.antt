use Rattle.std.proofs.Common.{◌+◌, ◌*◌, ◌≤◌, ◌⊎◌, ◌≡◌, ◌∙◌, ap, inl, inr, length, subst, take, zip, arith}
use Rattle.hh_tally.specs.Tallies.{IsLoss}
use Rattle.std.specs.Map.{keys_of}
use Rattle.hh_top.specs.Top.{IsUncertain, ShortlistView, rows_over}
use Rattle.hh_top.proofs.Chosen.{all_weighed, are_enough, are_top, are_uncertain}
use Rattle.hh_top.proofs.choice.Shortlist.greatest.Goals as goal
use Rattle.hh_top.proofs.choice.Shortlist.greatest.Goals.{else-floor-gt0-via-then-floor-gt0+else-len-self, else-floor-gt0-via-else-floor-gt0}

pub returns-then-len-self-clause-refused : goal.returns-then-len-self-clause-refused
returns-then-len-self-clause-refused c = λ xs bounds counted.
    let list = c.args.self.now in
    let f = c.floor-floor.result in
    let es = c.in_ok-entries.entries.items in
    let ws = c.in_ok-weights.weights.items in
    let chosen : c.in_ok-rows.rows.items ≡ rows_over c.floor-floor.result (zip (keys_of es) ws) =
    c.in_ok-rows.ensures ∙ ap (λ ns. rows_over c.floor-floor.result (zip (keys_of es) ns)) c.deref-2.ensures.value in
    let weighed = all_weighed c.args.self.now c.self.inside.tally (ap (λ (v : ShortlistView). v.tally) c.self.view_is) es
    c.deref.result.now c.in_ok-entries.ensures.entries c.deref.ensures.value c.args.counted.now ws
    c.in_ok-weights.ensures.weights xs bounds counted in
    let same : c.self.inside.n ≡ list.n = ap (λ (v : ShortlistView). v.n) c.self.view_is in
    let share = subst (λ (v : ShortlistView). 2 * (v.k + 1) ≤ v.tally.room.few) c.self.view_is c.self.invariant.0 in
    let loss = subst (λ (v : ShortlistView). IsLoss v.tally.room.few v.tally.total v.tally.lost v.tally.counters)
    c.self.view_is c.lost-lost.ensures.loss in
    subst (λ certain. IsUncertain xs list.n list.k certain f) (omega (arith, c.len-then-len-self.ensures))
    (are_uncertain list f c.floor-floor.ensures es c.in_ok-entries.ensures.entries ws c.in_ok-rows.rows.items
    chosen xs bounds weighed share loss (omega (arith, c.if-floor-gt0.true))
    (omega (arith, c.if-len-self.true, c.len.ensures, same)))

pub returns-then-len-self-clause-sure : goal.returns-then-len-self-clause-sure
returns-then-len-self-clause-sure c = λ out xs bounds counted.
    let es = c.in_ok-entries.entries.items in
    let ws = c.in_ok-weights.weights.items in
    let chosen : c.in_ok-rows.rows.items ≡ rows_over c.floor-floor.result (zip (keys_of es) ws) =
    c.in_ok-rows.ensures ∙ ap (λ ns. rows_over c.floor-floor.result (zip (keys_of es) ns)) c.deref-2.ensures.value in
    let weighed = all_weighed c.args.self.now c.self.inside.tally (ap (λ (v : ShortlistView). v.tally) c.self.view_is) es
    c.deref.result.now c.in_ok-entries.ensures.entries c.deref.ensures.value c.args.counted.now ws
    c.in_ok-weights.ensures.weights xs bounds counted in
    let same : c.self.inside.n ≡ c.args.self.now.n = ap (λ (v : ShortlistView). v.n) c.self.view_is in
    absurd (are_enough c.args.self.now c.floor-floor.result c.floor-floor.ensures es c.in_ok-entries.ensures.entries ws
    c.in_ok-rows.rows.items chosen xs bounds weighed out
    (omega (arith, c.if-len-self.true, c.len.ensures, same)))

pub returns-clause-rows : goal.returns-clause-rows
returns-clause-rows c = λ xs bounds counted.
    let es = c.in_ok-entries.entries.items in
    let ws = c.in_ok-weights.weights.items in
    let chosen : c.in_ok-rows.rows.items ≡ rows_over c.floor-floor.result (zip (keys_of es) ws) =
    c.in_ok-rows.ensures ∙ ap (λ ns. rows_over c.floor-floor.result (zip (keys_of es) ns)) c.deref-2.ensures.value in
    let weighed = all_weighed c.args.self.now c.self.inside.tally (ap (λ (v : ShortlistView). v.tally) c.self.view_is) es
    c.deref.result.now c.in_ok-entries.ensures.entries c.deref.ensures.value c.args.counted.now ws
    c.in_ok-weights.ensures.weights xs bounds counted in
    let n = c.args.self.now.n in
    let rows = c.in_ok-rows.rows.items in
    let same : c.self.inside.n ≡ n = ap (λ (v : ShortlistView). v.n) c.self.view_is in
    let enough : (n ≤ length rows) ⊎ (c.floor-floor.result ≡ 0) = elim c.else-floor-gt0.branch [
      | else-floor-gt0-via-then-floor-gt0+else-len-self w ↦ inl (omega (arith, w.if-len-self.false, w.len.ensures, same))
      | else-floor-gt0-via-else-floor-gt0 w ↦ inr (omega (arith, w.if-floor-gt0.false))
    ] in
    are_top c.args.self.now c.floor-floor.result c.floor-floor.ensures es c.in_ok-entries.ensures.entries ws rows
    chosen xs bounds weighed enough _ (c.first_of.ensures ∙ ap (λ m. take m rows) same)
