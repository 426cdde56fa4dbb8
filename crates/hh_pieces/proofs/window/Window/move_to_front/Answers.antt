use Rattle.std.proofs.Common.{◌≡◌, ◌∙◌, ◌+◌, ◌-◌, drop, take, length, ap, arith, rules}
use Rattle.std.proofs.lemmas.List.{places, with_items_is}
use Rattle.hh_pieces.proofs.WindowFacts.{held-moved}
use Rattle.hh_pieces.proofs.window.Window.move_to_front.Goals as goal

pub returns-clause-held : goal.returns-clause-held
returns-clause-held c =
    let window = c.args.self.now in
    let all = c.as_mut_slice.result.now in
    let long = ap length c.as_mut_slice.ensures.value in
    let size : window.from + window.held - window.from ≡ window.held = omega arith in
    ap (take window.held)
    (with_items_is window.bytes c.copy_within.new.self (search (rules, places)) ∙ c.copy_within.ensures.after)
    ∙ rw size (held-moved all window.from window.held (omega (arith, long, window.within)))
    ∙ ap (λ xs. take window.held (drop window.from xs)) c.as_mut_slice.ensures.value
