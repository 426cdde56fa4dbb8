use Rattle.std.proofs.Common.{◌≡◌, ◌∙◌, ◌++◌, ◌∷◌, ◌+◌, refl, sym, ap}
use Rattle.std.specs.Prelude.{get_or, take, drop}
use Rattle.std.proofs.lemmas.List.{take-append-drop, take_all, take_more, drop_more}
use Rattle.csv.specs.Records.{fields_of}
use Rattle.hh_records.specs.Layouts.{every, place_of}
use Rattle.hh_records.proofs.LayoutFacts.{every-push, every-none}
use Rattle.hh_records.proofs.layout.places_of.Goals as goal

pub loop-column-init : goal.loop-column-init
unfolding every
loop-column-init c = rw c.before.new-places.ensures.items refl

pub returns-in_default : goal.returns-in_default
returns-in_default c =
    let i = c.loop-column.column-index in
    let cs = c.args.columns.now in
    let column = c.column-item.result in
    let find = place_of (fields_of c.args.header.now) in
    let none = rw c.column-item.is at c.in_default.ensures in
    let split = drop_more cs i column c.loop-column-test.true in
    let all : cs ≡ take i cs ++ get_or cs i column ∷ drop (i + 1) cs =
    sym (take-append-drop i cs) ∙ ap (λ rest. take i cs ++ rest) split in
    sym (ap (every find) all ∙ every-none find (take i cs) (get_or cs i column) (drop (i + 1) cs) none)

pub loop-column-preserved : goal.loop-column-preserved
loop-column-preserved c =
    let i = c.loop-column.column-index in
    let cs = c.args.columns.now in
    let column = c.column-item.result in
    let find = place_of (fields_of c.args.header.now) in
    let place = rw c.column-item.is at c.in-Some.ensures in
    rw (take_more cs i column c.loop-column-test.true, c.in_ok-push.ensures.items)
    (every-push find (take i cs) (get_or cs i column) c.in-Some.place c.loop-column.places.items c.loop-column.invariant place)

pub returns : goal.returns
returns c =
    sym (rw (take_all c.loop-column.column-index c.args.columns.now c.loop-column-test.false) at c.loop-column.invariant)
