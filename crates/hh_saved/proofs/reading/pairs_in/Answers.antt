use Rattle.std.proofs.Common.{◌≡◌, ℕ, ◌+◌, ◌*◌, ◌-◌, List, [], ◌∷◌, ◌++◌, take, drop, sym, ap, ap₂, ◌∙◌, arith}
use Rattle.hh_saved.specs.Reading.{pair_of}
use Rattle.hh_saved.proofs.Blocks.{blocks_in-more}
use Rattle.hh_saved.proofs.reading.pairs_in.Goals as goal

pub loop-r-preserved : goal.loop-r-preserved
loop-r-preserved c =
    let r = c.loop-r.r in
    let bytes = c.args.bytes.now in
    let len : 16 * r + 16 - 16 * r ≡ 16 = omega arith in
    c.in_ok-push.ensures.items
    ∙ ap₂ (λ (xs : List (ℕ × ℕ)) (x : ℕ × ℕ). xs ++ x ∷ []) c.loop-r.invariant
    (c.pair_in.ensures ∙ ap (λ (n : ℕ). pair_of (take n (drop (16 * r) bytes))) len)
    ∙ sym (blocks_in-more pair_of 16 r (r + 1) bytes (omega arith))
