use Rattle.std.proofs.Common.{◌+◌, ◌<◌, ◌^◌, ◌≤◌, length, sym, ap, ◌∙◌, arith}
use Rattle.std.proofs.lemmas.Map.Entries.{length-keys_of}
use Rattle.hh_tally.specs.Tallies.{TallyView, is_over}
use Rattle.hh_tally.proofs.Keeping.{lost_fits, tally_known, tally_taken, with_known, with_new}
use Rattle.hh_tally.proofs.Sure.{longer-add_in}
use Rattle.hh_tally.proofs.tally.TallyTakeItems.take.Goals as goal

pub invariant_of-self-then-not-branch : goal.invariant_of-self-then-not-branch
invariant_of-self-then-not-branch c =
    let t = c.self.inside in
    let keys = c.in_ok-add_entry.ensures.known c.if-not-branch.true in
    let known = tally_known t.room t.total t.lost t.bytes c.args.weight c.args.key.now t.index.entries
    c.add_entry.new.index.entries c.self.invariant.0 c.in_ok-add_entry.ensures.added
    keys c.requires.positive (omega (arith, c.requires.room, ap (λ (s : TallyView). s.total) c.self.view_is)) in
    (known, omega (arith, c.self.invariant.1, ap length keys, length-keys_of t.index.entries, length-keys_of c.add_entry.new.index.entries))

pub returns-then-not-branch-clause-taken : goal.returns-then-not-branch-clause-taken
returns-then-not-branch-clause-taken c =
    let t = c.self.inside in
    let keys = c.in_ok-add_entry.ensures.known c.if-not-branch.true in
    with_known t.room t.total t.lost c.args.weight c.args.key.now t.sure.items t.index.entries c.add_entry.new.index.entries
    c.in_ok-add_entry.ensures.added keys (ap (is_over t.room) keys ∙ c.self.invariant.0.within) c.self.invariant.0.distinct
    c.self.invariant.1 c.args.self.now (sym c.self.view_is)

pub overflow_add-self-in-Ok-2 : goal.overflow_add-self-in-Ok-2
overflow_add-self-in-Ok-2 c =
    let t = c.self.inside in
    let fits : t.total + c.args.weight < 2 ^ 63 =
    omega (arith, c.requires.room, ap (λ (s : TallyView). s.total) c.self.view_is) in
    let taken = tally_taken c.args.weight c.in-Ok.lost c.in-Ok.bytes c.args.key.now c.self.invariant.0 c.requires.positive fits
    c.in_ok-add_entry.ensures.added c.in-Ok.ensures.lost c.in-Ok.ensures.left c.in-Ok.ensures.bytes c.in-Ok.ensures.bounded in
    omega (arith, lost_fits taken)

pub invariant_of-self-in-Ok : goal.invariant_of-self-in-Ok
invariant_of-self-in-Ok c =
    let t = c.self.inside in
    let fits : t.total + c.args.weight < 2 ^ 63 =
    omega (arith, c.requires.room, ap (λ (s : TallyView). s.total) c.self.view_is) in
    let taken = tally_taken c.args.weight c.in-Ok.lost c.in-Ok.bytes c.args.key.now c.self.invariant.0 c.requires.positive fits
    c.in_ok-add_entry.ensures.added c.in-Ok.ensures.lost c.in-Ok.ensures.left c.in-Ok.ensures.bytes c.in-Ok.ensures.bounded in
    let longer : length t.index.entries ≤ length c.add_entry.new.index.entries =
    omega (arith, longer-add_in t.index.entries (c.args.key.now, c.args.weight), ap length c.in_ok-add_entry.ensures.added) in
    (taken, c.in-Ok.ensures.few_flags (omega (arith, c.self.invariant.1, longer)))

pub returns-in-Ok-clause-taken : goal.returns-in-Ok-clause-taken
returns-in-Ok-clause-taken c =
    let t = c.self.inside in
    with_new t.room t.total t.lost c.in-Ok.lost t.sure.items c.lower_if_over.new.sure.items c.args.weight c.args.key.now
    t.index.entries c.add_entry.new.index.entries c.lower_if_over.new.index.entries c.in_ok-add_entry.ensures.added
    c.in-Ok.ensures.lost c.in-Ok.ensures.left c.self.invariant.0.distinct c.self.invariant.1 c.in-Ok.ensures.flags
    c.args.self.now (sym c.self.view_is)
