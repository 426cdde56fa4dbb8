-- Rows whose key is in quotes.
use Rattle.std.proofs.Common.{◌≡◌, ◌==◌, ◌∷◌, [], ℕ, List, refl}
use Rattle.std.specs.Prelude.{if◌then◌else◌}
use Rattle.csv.specs.Writing.{default_writer, escaped, with_style}
use Rattle.csv.specs.declared.writer.QuoteStyle.TheVariants as style

-- what stands between quotes does not depend on when there are quotes
pub same_escaped : (x : List ℕ) → escaped (with_style default_writer style.Always) x ≡ escaped default_writer x
unfolding escaped
same_escaped [] = refl
same_escaped (b ∷ rest) = λ i. if b == 34 then 34 ∷ b ∷ same_escaped rest i else b ∷ same_escaped rest i
