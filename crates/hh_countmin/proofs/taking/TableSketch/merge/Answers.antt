use Rattle.std.proofs.Common.{◌≡◌, ◌≢◌, ◌∙◌, [], Result, Err, ap, arith, sym}
use Rattle.hh_countmin.specs.Faults.{IsMergeFault}
use Rattle.hh_countmin.specs.Table.{TableView, grid_sum}
use Rattle.hh_countmin.specs.declared.fault.TableFault.{TableFault}
use Rattle.hh_countmin.specs.declared.fault.TableFault.TheVariants as fault
use Rattle.hh_countmin.proofs.taking.TableSketch.merge.Goals as goal

-- tables of one family and width are only refused for their total
for_total : {X : Type 0} (a b : TableView) (merged : Result X TableFault) (e : TableFault) → a.family ≡ b.family
    → a.width ≡ b.width → merged ≡ Err e → IsMergeFault e
    → (merged ≡ Err fault.DifferentFamily → a.family ≢ b.family)
    → (merged ≡ Err fault.DifferentWidth → (a.family ≡ b.family) × (a.width ≢ b.width))
    → merged ≡ Err fault.TotalTooLarge
for_total a b merged fault.TotalTooLarge family width is _ _ _ = is
for_total a b merged fault.DifferentFamily family width is _ differ _ = absurd (differ is family)
for_total a b merged fault.DifferentWidth family width is _ _ differ = absurd ((differ is).1 width)
for_total a b merged _ family width is other _ _ = absurd other

pub returns-in-Ok-clause-both : goal.returns-in-Ok-clause-both
returns-in-Ok-clause-both c s xs ys p q =
    c.in-Ok.ensures.merged ∙ (λ i. grid_sum (p i) (q i))
    ∙ (c.tables_follow_items.ensures s.family s.width xs ys ([], 0)).2

pub returns-in-Err-clause-refused : goal.returns-in-Err-clause-refused
returns-in-Err-clause-refused c is s xs ys p q =
    let e = c.merge.ensures in
    let family = ap (λ (t : TableView). t.family) p ∙ sym (ap (λ (t : TableView). t.family) q) in
    let width = ap (λ (t : TableView). t.width) p ∙ sym (ap (λ (t : TableView). t.width) q) in
    let refused : c.merge.result ≡ Err fault.TotalTooLarge =
    for_total c.args.self c.args.other c.merge.result c.in-Err.field-0 family width c.in-Err.is c.in-Err.ensures.faults
    e.different_family.0 e.different_width.0 in
    omega (
      arith,
      (e.too_large.0 refused).2,
      ap (λ (t : TableView). t.total) p,
      ap (λ (t : TableView). t.total) q,
    )
