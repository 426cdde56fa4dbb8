use Rattle.std.proofs.Common.{ℕ, ◌*◌, ◌/◌, ◌≤◌, arith}
use Rattle.std.proofs.Math.Nat.{mul-le-mul_left}
use Rattle.hh_pieces.proofs.texts.read_len.Goals as goal

-- at most 16 texts have 64 KiB each
pub returns-clause-whole : goal.returns-clause-whole
returns-clause-whole c = λ few.
    let n : ℕ = c.max.result in
    let each : ℕ = 1048576 / n in
    let few : n ≤ 16 = omega (arith, few, c.max.ensures) in
    let all : each * n ≤ each * 16 = mul-le-mul_left each few in
    omega (arith, all, few, c.max.ensures, c.min.ensures, c.max-2.ensures)
