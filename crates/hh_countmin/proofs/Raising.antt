-- Raising one cell of each row, row by row.
use Rattle.std.proofs.Common.{◌≡◌, ◌≢◌, ℕ, ◌+◌, ◌*◌, ◌<◌, ◌≤◌, List, length, get_or, set, refl, sym, ap, ◌∙◌, inl, inr, arith}
use Rattle.std.proofs.lemmas.Bool.{cases_eq}
use Rattle.std.proofs.lemmas.Bool.Decides.{nat_tests}
use Rattle.std.proofs.lemmas.List.{length-set, get_or-set_same, get_or-set_other}
use Rattle.std.proofs.lemmas.Nat.{mul-add-lt, same_from_place}
use Rattle.hh_countmin.specs.Family.{Coefficients, coefficients_of, cell_of_fingerprint}
use Rattle.hh_countmin.specs.Table.{cell_at, raise_at, raised}
use Rattle.hh_countmin.proofs.Cells.{same_cells}

-- the cell that a fingerprint has in row r
abbrev pub cell_in_row : Coefficients → ℕ → ℕ → ℕ → ℕ
cell_in_row family fingerprint width r = cell_of_fingerprint (coefficients_of family r) fingerprint width

-- the rows below r are raised, and the others are as they were
pub record IsRaised (width weight : ℕ) (cell : ℕ → ℕ) (old new : List ℕ) (r : ℕ) : Type 0 where
  pub len : length new ≡ length old
  pub raised : (q c : ℕ) → q < r → c < width → cell_at width new q c ≡ cell_at width old q c + raise_at cell weight q c
  pub others : (q c : ℕ) → r ≤ q → c < width → cell_at width new q c ≡ cell_at width old q c

raised_row : (width weight : ℕ) (cell : ℕ → ℕ) (old new : List ℕ) (r value place c : ℕ) → place ≡ r * width + cell r
    → place < length new → IsRaised width weight cell old new r
    → cell r < width → c < width → value ≡ cell_at width old r (cell r) + weight
    → cell_at width (set new place value) r c ≡ cell_at width old r c + raise_at cell weight r c
raised_row width weight cell old new r value place c at within so_far in_row wide is = elim (cases_eq (cell r) c) [
  | inl here ↦
      let whole : raise_at cell weight r c ≡ weight = grind (arith, nat_tests) in
      let now : get_or (set new place value) (r * width + c) 0 ≡ value =
      rw (← here, ← at) (get_or-set_same new place value 0 within) in
      let before : cell_at width old r (cell r) ≡ cell_at width old r c = ap (cell_at width old r) here in
      omega (arith, whole, now, before, is)
  | inr not_here ↦
      let none : raise_at cell weight r c ≡ 0 = grind (arith, nat_tests) in
      let apart : r * width + c ≢ place =
      λ e. not_here (sym (same_from_place r c r (cell r) width wide in_row (e ∙ at)).1) in
      let same = get_or-set_other new place (r * width + c) value 0 apart in
      omega (arith, none, same, so_far.others r c (omega arith) wide)
]

-- raising the key's cell in one row more keeps what is said of the rows before
pub one_raised : (width weight depth : ℕ) (cell : ℕ → ℕ) (old new : List ℕ) (r value : ℕ)
    → IsRaised width weight cell old new r
    → length old ≡ depth * width → r < depth → cell r < width → value ≡ cell_at width old r (cell r) + weight
    → IsRaised width weight cell old (set new (r * width + cell r) value) (r + 1)
one_raised width weight depth cell old new r value so_far len lt in_row is =
    let place = r * width + cell r in
    let within : place < length new = omega (arith, so_far.len, mul-add-lt r width (cell r) depth lt in_row) in
    record {
      len = length-set new place value ∙ so_far.len;
      raised = λ q c below wide. elim (cases_eq q r) [
        | inl here ↦ rw here (raised_row width weight cell old new r value place c refl within so_far in_row wide is)
        | inr not_here ↦
            let before : q < r = omega arith in
            get_or-set_other new place (q * width + c) value 0
            (λ e. not_here (same_from_place q c r (cell r) width wide in_row e).0) ∙ so_far.raised q c before wide
      ];
      others = λ q c above wide.
          get_or-set_other new place (q * width + c) value 0
          (λ e. absurd (omega (arith, (same_from_place q c r (cell r) width wide in_row e).0)))
          ∙ so_far.others q c (omega arith) wide;
    }

-- once all rows are done, each cell is raised by what it should be
pub all_raised : (width weight depth : ℕ) (cell : ℕ → ℕ) (old new : List ℕ) → length old ≡ depth * width
    → IsRaised width weight cell old new depth → new ≡ raised cell weight depth width old
all_raised width weight depth cell old new len is =
    same_cells (λ r c. cell_at width old r c + raise_at cell weight r c) depth width new (is.len ∙ len) is.raised
