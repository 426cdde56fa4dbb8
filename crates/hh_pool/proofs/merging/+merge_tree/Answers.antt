use Rattle.std.proofs.Common.{◌≡◌, ◌+◌, refl, arith}
use Rattle.std.proofs.lemmas.List.{get_or_default}
use Rattle.std.proofs.lemmas.Result.{err_from_is_err_and}
use Rattle.hh_workers.specs.Plans.{shape}
use Rattle.hh_pool.specs.Trees.{merge_result, no_sketch, tree_result}
use Rattle.hh_pool.proofs.MergeFacts.{node-refusal, node-result}
use Rattle.hh_workers.proofs.LeafFacts.{left-places, merges, piece-place, right-places}
use Rattle.hh_pool.proofs.merging.+merge_tree.Goals as goal

pub bounds-summaries-i : goal.bounds-summaries-i
bounds-summaries-i t c = piece-place c.in-Leaf.i _ (rw c.in-Leaf.is at c.requires.places)

pub offset_bounds-summaries-i : goal.offset_bounds-summaries-i
offset_bounds-summaries-i t c = let below = piece-place c.in-Leaf.i _ (rw c.in-Leaf.is at c.requires.places) in
    omega (arith, below, c.requires.fits)

pub merge_tree-requires : goal.merge_tree-requires
merge_tree-requires t c =
    let l = c.in-Node.left.value in
    let r = c.in-Node.right.value in
    let size : merges (shape c.args.tree.now) ≡ 1 + merges (shape l) + merges (shape r) = rw c.in-Node.is refl in
    let places = left-places (shape l) (shape r) _ (rw c.in-Node.is at c.requires.places) in
    rw c.deref.ensures (omega (arith, size, c.decreases), (places, c.requires.fits))

pub merge_tree-requires-in-Node : goal.merge_tree-requires-in-Node
merge_tree-requires-in-Node t c =
    let l = c.in-Node.left.value in
    let r = c.in-Node.right.value in
    let size : merges (shape c.args.tree.now) ≡ 1 + merges (shape l) + merges (shape r) = rw c.in-Node.is refl in
    let places = right-places (shape l) (shape r) _ (rw c.in-Node.is at c.requires.places) in
    rw (c.deref-in-Node.ensures, c.merge_tree.auto.summaries)
    (omega (arith, size, c.decreases), (places, c.requires.fits))

pub returns-in-Leaf-clause-merged : goal.returns-in-Leaf-clause-merged
returns-in-Leaf-clause-merged t c =
    let below = piece-place c.in-Leaf.i _ (rw c.in-Leaf.is at c.requires.places) in
    let here = get_or_default c.args.summaries.now c.in-Leaf.i c.index-summaries-i.result no_sketch below in
    rw (c.in-Leaf.is, c.take_summary.ensures, here) refl

pub returns-in_ok-other-in-Node-clause-merged : goal.returns-in_ok-other-in-Node-clause-merged
returns-in_ok-other-in-Node-clause-merged t c =
    let left = c.in_ok-merged-in-Node in
    let right = c.in_ok-other-in-Node in
    let node : tree_result (shape c.args.tree.now) c.args.summaries.now ≡ merge_result left.merged right.other =
    rw c.in-Node.is (node-result (shape c.in-Node.left.value) (shape c.in-Node.right.value) _ _
    c.merge_tree.new.summaries _ _ (rw c.in-Node.is at c.requires.places) (rw c.deref.ensures at left.ensures.others)
    (rw c.deref.ensures at left.ensures.merged) (rw c.deref-in-Node.ensures at right.ensures.merged)) in
    rw node c.merge_two.ensures.merged

pub returns-in_ok-other-in-Node-clause-refused : goal.returns-in_ok-other-in-Node-clause-refused
returns-in_ok-other-in-Node-clause-refused t c =
    let left = c.in_ok-merged-in-Node in
    let right = c.in_ok-other-in-Node in
    let node : tree_result (shape c.args.tree.now) c.args.summaries.now ≡ merge_result left.merged right.other =
    rw c.in-Node.is (node-result (shape c.in-Node.left.value) (shape c.in-Node.right.value) _ _
    c.merge_tree.new.summaries _ _ (rw c.in-Node.is at c.requires.places) (rw c.deref.ensures at left.ensures.others)
    (rw c.deref.ensures at left.ensures.merged) (rw c.deref-in-Node.ensures at right.ensures.merged)) in
    rw node c.merge_two.ensures.refused

pub returns-in_err-other-in-Node-clause-refused : goal.returns-in_err-other-in-Node-clause-refused
returns-in_err-other-in-Node-clause-refused t c =
    let handed = c.from_residual-in_err-other-in-Node in
    let is = err_from_is_err_and handed.result handed.ensures.1 in
    let places = rw c.in-Node.is at c.requires.places in
    rw (is.1, is.2, c.in-Node.is) (node-refusal (shape c.in-Node.left.value) (shape c.in-Node.right.value) _ _
    c.merge_tree.new.summaries _ _ places (rw c.deref.ensures at c.in_ok-merged-in-Node.ensures.others)
    (rw c.deref.ensures at c.in_ok-merged-in-Node.ensures.merged)
    (rw c.deref-in-Node.ensures at c.in_err-other-in-Node.ensures.refused))
