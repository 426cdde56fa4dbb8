-- Layouts of records that are said in words.
use Rattle.std.specs.Prelude.{◌≡◌, ◌==◌, ◌<◌, ◌≤◌, ◌&&◌, ◌⊎◌, ℕ, Bool, true, false, not, if◌then◌else◌, List, [], ◌∷◌, map, Contains, length, Option, Some, None, IfSome, IsSome, option_map, ⊤}
use Rattle.csv.specs.Writing.{comma}
use Rattle.hh_records.specs.Formats.{has_quotes, is_json, part_said}
use Rattle.hh_records.specs.Layouts.{NamesColumn, bad_key, delimiter_of}
use Rattle.hh_records.specs.declared.format.Format.{Format}
use Rattle.hh_records.specs.declared.format.Format.TheVariants as format
use Rattle.hh_records.specs.declared.layout.Column.{Column}
use Rattle.hh_records.specs.declared.layout.Column.TheVariants as column
use Rattle.hh_records.specs.declared.layout.Layout.{Layout}
use Rattle.hh_faults.specs.declared.error.ToolError.{ToolError}
use Rattle.hh_faults.specs.declared.error.ToolError.TheVariants as tool
use Rattle.hh_faults.specs.declared.error.KeyCause.{KeyCause}
use Rattle.hh_faults.specs.declared.error.KeyCause.TheVariants as key
use Rattle.hh_records.specs.declared.layout_words.LayoutWords.{LayoutWords}
use Rattle.hh_stream.specs.Weights.{max_key_len}

-- the byte between the fields of a format where no word names one: a comma or, where several are one,
-- a space
abbrev pub usual_delimiter : Format → ℕ
usual_delimiter format.Csv = comma
usual_delimiter format.Unquoted = comma
usual_delimiter format.Squeezed = 32
usual_delimiter format.Lines = comma
usual_delimiter format.Json = comma

-- whether a word is a quote alone
abbrev pub is_quote : List ℕ → Bool
is_quote [] = false
is_quote (b ∷ []) = b == 34
is_quote (b ∷ c ∷ rest) = false

-- the byte that a word names to stand between fields, if any does: a quote does where none is quoted
abbrev pub delimiter_said : Format → Option (List ℕ) → Option ℕ
delimiter_said format None = Some (usual_delimiter format)
delimiter_said format (Some word) =
    if not (has_quotes format) && is_quote word then Some 34 else delimiter_of word

-- the byte between fields that these words say
abbrev pub byte_said : LayoutWords → Option ℕ
byte_said words = delimiter_said words.format (option_map (λ word. word.items) words.delimiter)

-- how words name columns: of objects all are names of members; and else whether a header has names
abbrev pub Naming : Type 0
Naming = Bool × Bool

-- how these words name them
abbrev pub naming : LayoutWords → Naming
naming words = (is_json words.format, words.has_header)

-- a column is the member of this name
abbrev pub IsMember : List ℕ → Column → Type 0
IsMember word (column.Number n) = ⊥
IsMember word (column.Name name) = name.items ≡ word

-- a word names this column
abbrev pub SaysColumn : Naming → List ℕ → Column → Type 0
SaysColumn (true, has_header) word c = IsMember word c
SaysColumn (false, has_header) word c = NamesColumn has_header word c

-- a word names no column
abbrev pub NamesNone : Naming → List ℕ → Type 0
NamesNone how word = (column : Column) → SaysColumn how word column → ⊥

-- words name these columns, one by one
abbrev pub NamesKey : Naming → List (List ℕ) → List Column → Type 0
NamesKey how [] [] = ⊤
NamesKey how [] (column ∷ columns) = ⊥
NamesKey how (word ∷ words) [] = ⊥
NamesKey how (word ∷ words) (column ∷ columns) = SaysColumn how word column × NamesKey how words columns

-- one of these words names no column
abbrev pub NamesNot : Naming → List (List ℕ) → Type 0
NamesNot how words = (word : List ℕ) × Contains words word × NamesNone how word

-- no word, or one that names this column
abbrev pub NamesWeight : Naming → Option (List ℕ) → Option Column → Type 0
NamesWeight how None None = ⊤
NamesWeight how None (Some column) = ⊥
NamesWeight how (Some word) None = ⊥
NamesWeight how (Some word) (Some column) = SaysColumn how word column

-- the words of the key's columns
abbrev pub key_words : LayoutWords → List (List ℕ)
key_words words = map (λ word. word.items) words.key.items

-- the word of the weight's column, where there is one
abbrev pub weight_word : LayoutWords → Option (List ℕ)
weight_word words = option_map (λ word. word.items) words.weight

-- the key that bad records count as, where there is one
abbrev pub bad_word : LayoutWords → Option (List ℕ)
bad_word words = option_map (λ word. word.items) words.bad_as

-- a word is as long as a key
abbrev pub HasKeyLength : List ℕ → Type 0
HasKeyLength word = (0 < length word) × (length word ≤ max_key_len)

-- the words say this layout
pub record SaysLayout (words : LayoutWords) (layout : Layout) : Type 0 where
  pub format : layout.format ≡ words.format
  pub delimiter : byte_said words ≡ Some layout.delimiter
  pub has_header : layout.has_header ≡ words.has_header
  pub key : NamesKey (naming words) (key_words words) layout.key.items
  pub weight : NamesWeight (naming words) (weight_word words) layout.weight
  pub part : part_said layout.part ≡ (words.until.items, words.prefix)
  pub allow_zero : layout.allow_zero ≡ words.allow_zero
  pub decimals : layout.decimals ≡ words.decimals
  pub bad_as : bad_key layout ≡ bad_word words
  pub bad_as_fits : IfSome (bad_word words) HasKeyLength

-- the weight's word names no column
abbrev pub NamesNoWeight : LayoutWords → Type 0
NamesNoWeight words = (word : List ℕ) × (weight_word words ≡ Some word) × NamesNone (naming words) word

-- objects are read, and no member is named for the key
abbrev pub LacksKey : LayoutWords → Type 0
LacksKey words = (is_json words.format ≡ true) × (words.key.items ≡ [])

-- what bad records were to count as is no key, for this cause
abbrev pub IsNoKey : KeyCause → Option (List ℕ) → Type 0
IsNoKey key.Empty word = IsSome word × IfSome word (λ w. length w ≡ 0)
IsNoKey key.TooLong word = IsSome word × IfSome word (λ w. max_key_len < length w)

-- what a refusal of a word says: that it names no column
abbrev pub ColumnRefused : Naming → List ℕ → ToolError → Type 0
ColumnRefused how word tool.BadColumn = NamesNone how word
ColumnRefused how word tool.Memory = ⊤
ColumnRefused how word _ = ⊥

-- what a refusal of the key's words says: that one names no column
abbrev pub KeyRefused : Naming → List (List ℕ) → ToolError → Type 0
KeyRefused how words tool.BadColumn = NamesNot how words
KeyRefused how words tool.Memory = ⊤
KeyRefused how words _ = ⊥

-- what a refusal of the words of columns says: that the key's or the weight's is missing or names none
abbrev pub ColumnsRefused : LayoutWords → ToolError → Type 0
ColumnsRefused words tool.BadColumn =
    LacksKey words ⊎ (NamesNot (naming words) (key_words words) ⊎ NamesNoWeight words)
ColumnsRefused words tool.Memory = ⊤
ColumnsRefused words _ = ⊥

-- what a refusal of such words says: that the delimiter is bad or, where it is good, that a column is;
-- or that what bad records were to count as is no key
abbrev pub LayoutRefused : LayoutWords → ToolError → Type 0
LayoutRefused words tool.BadDelimiter = byte_said words ≡ None
LayoutRefused words tool.BadColumn =
    IsSome (byte_said words)
    × (LacksKey words ⊎ (NamesNot (naming words) (key_words words) ⊎ NamesNoWeight words))
LayoutRefused words (tool.BadKey n c) = (n ≡ 1) × IsNoKey c (bad_word words)
LayoutRefused words tool.Memory = ⊤
LayoutRefused words _ = ⊥
