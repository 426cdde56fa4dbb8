use Rattle.std.proofs.Common.{sym, ap, ◌∙◌, arith}
use Rattle.std.specs.Map.{keys_of}
use Rattle.indexmap.specs.IndexMap.{insert_entry}
use Rattle.indexmap.proofs.CallerLemmas.{insert_entry-new, keys-with_value_at}
use Rattle.indexmap.proofs.MapLemmas.{Found-position, insert_entry-first}
use Rattle.hh_stream.specs.Weights.{Bytes, same_key}
use Rattle.hh_tally.proofs.Raising.{added_known, added_new, found-le-total}
use Rattle.hh_tally.proofs.lowering.add_entry.Goals as goal

pub overflow_add-raised : goal.overflow_add-raised
overflow_add-raised c =
    let most = found-le-total c.args.index.now.entries c.args.key.now c.in-Some.counter.now
    (sym c.in-Some.ensures.value) in
    omega (arith, most, c.requires.bounded)

pub returns-in-Some-clause-added : goal.returns-in-Some-clause-added
returns-in-Some-clause-added c =
    let es = c.args.index.now.entries in
    let x = c.args.key.now in
    let i = c.in-Some.place in
    ap (λ m. m.entries) c.set_counter.ensures
    ∙ sym (insert_entry-first same_key x _ es i (Found-position (same_key x) es i (sym c.in-Some.ensures.index)).first)
    ∙ added_known es x c.args.weight c.in-Some.counter.now (sym c.in-Some.ensures.value)

pub returns-in-Some-clause-known : goal.returns-in-Some-clause-known
returns-in-Some-clause-known c = λ _.
    ap (λ m. keys_of m.entries) c.set_counter.ensures ∙ keys-with_value_at c.args.index.now c.in-Some.place _

pub returns-clause-added : goal.returns-clause-added
returns-clause-added c =
    let es = c.args.index.now.entries in
    let x = c.args.key.now in
    let none = sym c.in_default.ensures.value in
    c.in_ok-insert.ensures.entries
    ∙ ap (λ (k : Bytes). insert_entry same_key es k c.args.weight) c.in_ok-of_bytes.ensures.key
    ∙ insert_entry-new same_key c.args.index.now x c.args.weight none
    ∙ sym (added_new es (x, c.args.weight) none)

pub returns-clause-new : goal.returns-clause-new
returns-clause-new c = λ _.
    let es = c.args.index.now.entries in
    c.in_ok-insert.ensures.entries
    ∙ ap (λ (k : Bytes). insert_entry same_key es k c.args.weight) c.in_ok-of_bytes.ensures.key
    ∙ insert_entry-new same_key c.args.index.now c.args.key.now c.args.weight (sym c.in_default.ensures.value)
