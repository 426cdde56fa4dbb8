use Rattle.std.proofs.Common.{◌≡◌, ℕ, ◌+◌, ◌*◌, ◌-◌, List, [], ◌∷◌, ◌++◌, take, drop, sym, ap, ap₂, ◌∙◌, append_assoc, arith}
use Rattle.std.specs.Int.{w64, from_be_bytes}
use Rattle.hh_saved.specs.Reading.{cells_in}
use Rattle.hh_saved.proofs.Blocks.{blocks_in-more}
use Rattle.hh_saved.proofs.reading.push_cells.Goals as goal

pub loop-i-preserved : goal.loop-i-preserved
loop-i-preserved c =
    let i = c.loop-i.i in
    let bytes = c.args.bytes.now in
    let front = c.args.cells.now.items in
    let cell : List ℕ → ℕ = from_be_bytes w64 in
    let len : 8 * i + 8 - 8 * i ≡ 8 = omega arith in
    c.in_ok-push.ensures.items
    ∙ ap₂ (λ (xs : List ℕ) (x : ℕ). xs ++ x ∷ []) c.loop-i.invariant
    (c.number_in.ensures ∙ ap (λ (n : ℕ). cell (take n (drop (8 * i) bytes))) len)
    ∙ append_assoc front (cells_in i bytes) (cell (take 8 (drop (8 * i) bytes)) ∷ [])
    ∙ ap (λ (xs : List ℕ). front ++ xs) (sym (blocks_in-more cell 8 i (i + 1) bytes (omega arith)))
