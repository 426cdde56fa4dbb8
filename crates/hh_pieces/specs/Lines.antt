-- The records of a text without quotes, line by line.
use Rattle.std.specs.Prelude.{◌≡◌, ◌==◌, ◌||◌, ◌&&◌, ◌+◌, ◌<◌, ◌≤◌, ℕ, Bool, true, false, List, [], ◌∷◌, length, map, not, drop, slice_range, Option, Some, None, option_map, ⊤}
use Rattle.std.specs.List.{AllByRecursion, filter, position_or_len, slice_split}
use Rattle.csv.specs.Machine.{carriage_return, line_feed}
use Rattle.memchr.specs.Find.{Nowhere, Passes, is_byte, is_byte2}
use Rattle.hh_records.specs.Formats.{Part, part_of}
use Rattle.hh_records.specs.Layouts.{parts_by}
use Rattle.hh_records.specs.Streams.{Fields, Parts, parts_of}
use Rattle.hh_records.specs.declared.format.Format.{Format}
use Rattle.hh_records.specs.declared.format.Format.TheVariants as format
use Rattle.hh_pieces.specs.declared.lines.LineCut.{LineCut}
use Rattle.hh_pieces.specs.declared.lines.LineCut.TheVariants as cut

-- whether a byte ends a line
abbrev pub is_line_end : ℕ → Bool
is_line_end c = (c == carriage_return) || (c == line_feed)

-- whether a byte may stand between fields where no quote does: it is none, and ends no line
abbrev pub is_separator : ℕ → Bool
is_separator d = not (d == 34) && not (is_line_end d)

-- the fields of a line, with this byte between them
abbrev pub line_fields : ℕ → List ℕ → List (List ℕ)
line_fields d line = slice_split (λ c. c == d) line

abbrev pub is_blank : List ℕ → Bool
is_blank [] = true
is_blank (c ∷ line) = false

-- these lines, but for blank ones
abbrev pub filled : List (List ℕ) → List (List ℕ)
filled lines = filter (λ line. not (is_blank line)) lines

abbrev pub filled_lines : List ℕ → List (List ℕ)
filled_lines text = filled (slice_split is_line_end text)

-- the records of a text, of which each line is one, but for blank ones
abbrev pub split_rows : ℕ → List ℕ → List Fields
split_rows d text = map (line_fields d) (filled_lines text)

-- how the lines of a format are cut where no columns are named: at this byte, or not at all
abbrev pub cut_of : Format → ℕ → LineCut
cut_of format.Csv delimiter = cut.Pair delimiter
cut_of format.Unquoted delimiter = cut.Pair delimiter
cut_of format.Squeezed delimiter = cut.Pair delimiter
cut_of format.Lines delimiter = cut.Whole
cut_of format.Json delimiter = cut.Whole

-- the key and the weight's field of a record, where it has them at these places: whole fields
abbrev pub parts_in_columns : ℕ → Option ℕ → Fields → Parts
parts_in_columns key weight r = parts_by (Some (key ∷ [], weight)) ([], None) r

-- the key and the weight's field of a line that is cut so: it is the key itself, or its one or two
-- fields are the key and the weight's, or those at two places are
abbrev pub parts_in_line : LineCut → List ℕ → Parts
parts_in_line cut.Whole line = Some (line, None)
parts_in_line (cut.Pair d) line = parts_of (line_fields d line)
parts_in_line (cut.Columns d at) line = parts_in_columns at.key at.weight (line_fields d line)

-- these with a part of the key in its place
abbrev pub key_parts : Part → Parts → Parts
key_parts part p = option_map (λ p. (part_of part p.0, p.1)) p

-- the part of the key and the weight's field of a line that is cut so
abbrev pub line_parts : Part → LineCut → List ℕ → Parts
line_parts part cut line = key_parts part (parts_in_line cut line)

-- no line that is cut so ends at the byte between its fields
abbrev pub CutsWithin : LineCut → Type 0
CutsWithin cut.Whole = ⊤
CutsWithin (cut.Pair d) = (d == line_feed) ≡ false
CutsWithin (cut.Columns d at) = (d == line_feed) ≡ false

-- no byte is a quote
abbrev pub IsUnquoted : List ℕ → Type 0
IsUnquoted text = AllByRecursion (λ c. (c == 34) ≡ false) text

-- no byte is CR
abbrev pub HasNoReturn : List ℕ → Type 0
HasNoReturn text = AllByRecursion (λ c. (c == carriage_return) ≡ false) text

-- the place of the first byte from this one on that ends a line, or the length of the text
abbrev pub line_end : List ℕ → ℕ → ℕ
line_end text from = from + position_or_len is_line_end (drop from text)

-- whether a byte ends a field of a text without CR
abbrev pub is_field_end : ℕ → ℕ → Bool
is_field_end d c = is_byte2 d line_feed c

-- a run that begins at a place ends at this one: at the first byte that passes the test, or with the text
pub record EndsRun (test : ℕ → Bool) (text : List ℕ) (from end : ℕ) : Type 0 where
  pub after : from ≤ end
  pub within : end ≤ length text
  pub before : Nowhere (Passes test text) from end
  pub here : end < length text → Passes test text end

-- a line that goes on at a place ends at this one, in a text without CR
abbrev pub EndsLine : List ℕ → ℕ → ℕ → Type 0
EndsLine text from end = EndsRun (is_byte line_feed) text from end

-- the fields of a line from one place on, which ends at another
abbrev pub fields_left : ℕ → List ℕ → ℕ → ℕ → List (List ℕ)
fields_left d text from end = line_fields d (slice_range text from end)

-- of the line that goes on at one place `count` fields stand before another
pub record AreBetween (d : ℕ) (text : List ℕ) (from count at : ℕ) : Type 0 where
  pub line : (end : ℕ) → EndsLine text at end → EndsLine text from end
  pub fields : (end : ℕ) → EndsLine text at end
      → drop count (fields_left d text from end) ≡ fields_left d text at end

-- the line that goes on at one place ends at another, and has at most `count` fields between
pub record AreAll (d : ℕ) (text : List ℕ) (from count end : ℕ) : Type 0 where
  pub line : EndsLine text from end
  pub few : length (fields_left d text from end) ≤ count
