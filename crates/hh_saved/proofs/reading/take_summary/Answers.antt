use Rattle.std.proofs.Common.{arith}
use Rattle.std.proofs.lemmas.Bool.Decides.{nat_tests}
use Rattle.hh_saved.proofs.Fields.{IsBytes, wide16, where_takes}
use Rattle.hh_saved.proofs.Entries.{total_takes, entries_take, entries_fit}
use Rattle.hh_saved.proofs.reading.take_summary.Goals as goal

pub from_entries-requires : goal.from_entries-requires
from_entries-requires c =
    let k = c.in_ok-k in
    let total = c.in_ok-total in
    let count = c.in_ok-count in
    let entries = c.in_ok-entries in
    let fits : IsBytes c.args.bytes.now = λ i. omega (arith, c.type_inv.bytes i) in
    let t0 = where_takes _ _ wide16 _ _ _ _ fits k.ensures in
    let t1 = total_takes _ _ t0.0.rest_fits total.ensures in
    let t2 = where_takes _ _ wide16 _ _ _ _ t1.0.rest_fits count.ensures in
    let t3 = entries_take _ _ _ _ _ _ t2.0.rest_fits entries.ensures.entries in
    entries_fit c.args.version c.from-2.result total.total entries.entries.items
    (grind (arith, nat_tests, t0.2)) (omega (arith, t0.1)) t1.1 (grind (arith, nat_tests, t2.2, t3.1)) t3.2
