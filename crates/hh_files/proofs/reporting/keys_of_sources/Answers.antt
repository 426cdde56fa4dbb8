use Rattle.std.proofs.Common.{◌≡◌, ◌∙◌, ◌+◌, ◌/◌, ℕ, ap, arith, subst, sym}
use Rattle.hh_tally.specs.declared.room.Room.{Room}
use Rattle.hh_pieces.specs.Sources.{sources_known}
use Rattle.hh_files.specs.Report.{FindsKeys}
use Rattle.hh_files.proofs.reporting.keys_of_sources.Goals as goal

pub heavy_by-requires-clause-enough : goal.heavy_by-requires-clause-enough
heavy_by-requires-clause-enough g c = λ κs outlives.
    let (xs, reads, of, bounds) = c.in_ok-tally.ensures.tally in
    let few = ap (λ (r : Room). r.few) (of ∙ c.for_counters-room.ensures.room) in
    let half : c.in_ok-tally.tally.room.few / 2 ≡ c.args.k + 1 = omega (arith, few) in
    rw half c.requires.enough

pub returns-clause-keys : goal.returns-clause-keys
returns-clause-keys g c =
    let known = sources_known g.S.ReadAt.bytes c.args.records in
    subst (λ (n : ℕ). FindsKeys known c.args.p c.args.q n c.in_ok-keys.keys.items) (sym c.total.ensures.total)
    c.in_ok-keys.ensures.keys
