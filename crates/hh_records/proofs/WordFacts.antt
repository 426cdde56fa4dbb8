-- What a refusal of the words of columns says of the layout.
use Rattle.std.proofs.Common.{◌<◌, ◌++◌, ◌∷◌, ℕ, List, [], Global, Vec, arith, length, subst}
use Rattle.std.specs.Prelude.{Contains, get_or, map}
use Rattle.std.proofs.lemmas.List.{get_or-map, length-map}
use Rattle.std.proofs.lemmas.List.Elements.{Contains-get_or}
use Rattle.hh_faults.specs.declared.error.ToolError.{ToolError}
use Rattle.hh_faults.specs.declared.error.ToolError.TheVariants as tool
use Rattle.hh_records.specs.declared.layout.Column.{Column}
use Rattle.hh_records.specs.LayoutWords.{ColumnRefused, KeyRefused, NamesKey, Naming, SaysColumn}

-- a word and its column more
pub names-push : (h : Naming) (words : List (List ℕ)) (columns : List Column) (word : List ℕ) (column : Column)
    → NamesKey h words columns → SaysColumn h word column → NamesKey h (words ++ word ∷ []) (columns ++ column ∷ [])
names-push h [] [] word column names one = (one, tt)
names-push h [] (c ∷ columns) word column names one = absurd names
names-push h (w ∷ words) [] word column names one = absurd names
names-push h (w ∷ words) (c ∷ columns) word column names one =
    (names.0, names-push h words columns word column names.1 one)

-- a refusal of one of the key's words
pub key-refused : (h : Naming) (words : List (Vec ℕ Global)) (i : ℕ) (d : Vec ℕ Global) (e : ToolError) → i < length words
    → ColumnRefused h (get_or words i d).items e → KeyRefused h (map (λ word. word.items) words) e
key-refused h words i d tool.BadColumn less r =
    let items : Vec ℕ Global → List ℕ = λ word. word.items in (
      (get_or words i d).items,
      subst (Contains (map items words)) (get_or-map items words i d d.items less)
          (Contains-get_or (map items words) i d.items (omega (arith, less, length-map words items))),
      r,
    )
key-refused h words i d tool.Memory less r = tt
key-refused h words i d _ less r = absurd r
