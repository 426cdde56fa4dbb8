-- Tables of records.
use Rattle.std.proofs.Common.{◌≡◌, ◌∙◌, ℕ, List, [], ap, subst}
use Rattle.hh_countmin.specs.Family.{Coefficients}
use Rattle.hh_countmin.specs.Table.{TableView, table_of}
use Rattle.hh_records.specs.Streams.{Known}
use Rattle.hh_records.specs.Taking.{GathersRecords}
use Rattle.hh_saved.specs.Spelling.{Spells}
use Rattle.hh_saved.specs.declared.format.Version.TheVariants as version
use Rattle.hh_saved.specs.declared.saved.Saved.TheVariants.{Cells}
use Rattle.hh_commands.specs.Records.{SavesStream}

-- what is spelled of a table that gathered records, and was one of none, is their saved table
pub spells_table : (family : Coefficients) (width : ℕ) (start t : TableView) (known : Known) (bytes : List ℕ)
    → start ≡ table_of family width [] → GathersRecords (λ xs t. t ≡ table_of start.family start.width xs) known t
    → Spells version.Two bytes (Cells t) → SavesStream (λ xs. Cells (table_of family width xs)) known bytes
spells_table family width start t known bytes none (xs, reads, positive, is) spells =
    let same : table_of start.family start.width xs ≡ table_of family width xs =
    ap (λ (u : TableView). table_of u.family u.width xs) none in
    (xs, reads, subst (λ (u : TableView). Spells version.Two bytes (Cells u)) (is ∙ same) spells)
