-- The layout of a text's records, as C says it.
use Rattle.std.specs.Prelude.{◌≡◌, ◌<◌, ◌≤◌, ◌⊎◌, ◌==◌, ◌&&◌, nat_le, ℕ, List, [], ◌∷◌, ◌++◌, length, is_some, Option, option_to_list, Some, None, option_map, ⊤, if◌then◌else◌}
use Rattle.hh_pieces.specs.Pieces.{IsCutAt}
use Rattle.hh_records.specs.declared.format.Format.TheVariants as format
use Rattle.hh_records.specs.LayoutWords.{SaysLayout, key_words, weight_word}
use Rattle.hh_records.specs.LayoutWords as said
use Rattle.hh_records.specs.Layouts.{delimited}
use Rattle.hh_records.specs.declared.layout.Layout.{Layout}
use Rattle.hh_records.specs.declared.layout_words.LayoutWords.{LayoutWords}
use Rattle.hh_faults.specs.declared.error.ToolError.{ToolError}
use Rattle.hh_faults.specs.declared.error.ToolError.TheVariants as tool
use Rattle.heavy_ffi.specs.Items.{shape_fault}
use Rattle.heavy_ffi.specs.declared.fault.Fault.{Fault}
use Rattle.heavy_ffi.specs.declared.layout.TextLayout.{TextLayout}

-- the kind of fault of a layout's numbers
abbrev pub bad_layout_kind : ℕ
bad_layout_kind = 26

-- the fault of a layout that has other numbers than it may have beside a count of columns
abbrev pub numbers_fault : TextLayout → ℕ → Option Fault
numbers_fault o count =
    if nat_le o.header 1 && nat_le o.allow_zero 1 && nat_le o.decimals 9 && nat_le o.has_weight 1 && nat_le o.has_weight count
    then None
    else Some (record { kind = bad_layout_kind; cause = 0; number = 0 })

-- the fault of columns of len bytes in all that can't have these ends, or else of the layout's numbers
abbrev pub first_fault : Option Fault → Option Fault → Option Fault
first_fault (Some bad) other = Some bad
first_fault None other = other

abbrev pub layout_fault : TextLayout → ℕ → List ℕ → Option Fault
layout_fault o len ends = first_fault (shape_fault len ends []) (numbers_fault o (length ends))

-- what the program would be told in words: the columns are the key's, and then the weight's where it has one
pub record AreLayoutWords (o : TextLayout) (columns : List (List ℕ)) (words : LayoutWords) : Type 0 where
  pub csv : words.format ≡ format.Csv
  pub delimiter : option_map (λ word. word.items) words.delimiter ≡ Some (o.delimiter ∷ [])
  pub has_header : words.has_header ≡ o.header == 1
  pub named : columns ≡ key_words words ++ option_to_list (weight_word words)
  pub weight : is_some words.weight ≡ o.has_weight == 1
  pub until : words.until.items ≡ []
  pub prefix : words.prefix ≡ None
  pub allow_zero : words.allow_zero ≡ o.allow_zero == 1
  pub decimals : words.decimals ≡ o.decimals
  pub bad_as : words.bad_as ≡ None

-- such words say this layout
abbrev pub IsLayout : TextLayout → List (List ℕ) → Layout → Type 0
IsLayout o columns layout = (words : LayoutWords) × AreLayoutWords o columns words × SaysLayout words layout

-- what a refusal of such words tells: of the delimiter, or of a column
abbrev pub LayoutRefused : TextLayout → List (List ℕ) → ToolError → Type 0
LayoutRefused o columns tool.Memory = ⊤
LayoutRefused o columns e = (words : LayoutWords) × AreLayoutWords o columns words × said.LayoutRefused words e

-- something holds of the layout that is said
abbrev pub Laid : TextLayout → List (List ℕ) → (Layout → Type 0) → Type 0
Laid o columns Holds = (layout : Layout) × IsLayout o columns layout × Holds layout

-- what a refusal tells where the layout comes first: of its words, or of what follows
abbrev pub LaidRefused : TextLayout → List (List ℕ) → (Layout → ToolError → Type 0) → ToolError → Type 0
LaidRefused o columns Follows e = LayoutRefused o columns e ⊎ Laid o columns (λ layout. Follows layout e)

-- a share of two numbers, and none where both are 0
abbrev pub share_given : ℕ → ℕ → Option (ℕ × ℕ)
share_given p q = if p == 0 && q == 0 then None else Some (p, q)

-- n bytes of a part of a text, with the byte d between its fields, are whole records: the text may be cut after them and
-- nowhere further on, or there are none
pub record AreWholeRecordsBy (d : ℕ) (bytes : List ℕ) (n : ℕ) : Type 0 where
  pub within : n ≤ length bytes
  pub cut : 0 < n → IsCutAt (delimited d) bytes n
  pub last : (at : ℕ) → n < at → at < length bytes → IsCutAt (delimited d) bytes at → ⊥
