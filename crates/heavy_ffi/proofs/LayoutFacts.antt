-- What holds of the layout that is said, and what a refusal of it tells.
use Rattle.std.proofs.Common.{◌≡◌, ℕ, List, Option, Some, None, Result, Ok, Err, IfOk, inr}
use Rattle.std.specs.Prelude.{IfErr, IfSome, IsErrAnd}
use Rattle.hh_records.specs.LayoutWords as said
use Rattle.hh_records.specs.declared.layout.Layout.{Layout}
use Rattle.hh_records.specs.declared.layout_words.LayoutWords.{LayoutWords}
use Rattle.hh_faults.specs.declared.error.ToolError.{ToolError}
use Rattle.hh_faults.specs.declared.error.ToolError.TheVariants as tool
use Rattle.heavy_ffi.specs.Layouts.{AreLayoutWords, IsLayout, Laid, LaidRefused, LayoutRefused}
use Rattle.heavy_ffi.specs.declared.layout.TextLayout.{TextLayout}

-- a refusal of the words that a layout is in
pub refused_words : (o : TextLayout) (columns : List (List ℕ)) (words : LayoutWords) → AreLayoutWords o columns words
    → (e : ToolError) → said.LayoutRefused words e → LayoutRefused o columns e
refused_words o columns words are tool.Memory h = tt
refused_words o columns words are e h = (words, are, h)

-- what a call gives by the layout that is said, and how it refuses
module _ {A : Type 0} (o : TextLayout) (columns : List (List ℕ)) (layout : Layout) (is : IsLayout o columns layout) where
  pub laid : (Holds : Layout → A → Type 0) (result : Result A ToolError) → IfOk result (Holds layout)
      → IfOk result (λ x. Laid o columns (λ l. Holds l x))
  laid Holds (Ok x) h = (layout, is, h)
  laid Holds (Err e) h = tt

  pub laid_refused : (Follows : Layout → ToolError → Type 0) (result : Result A ToolError) → IfErr result (Follows layout)
      → IfErr result (LaidRefused o columns Follows)
  laid_refused Follows (Ok x) h = tt
  laid_refused Follows (Err e) h = inr (layout, is, h)

  pub laid_early : (wrong : Option ToolError) (result : Result A ToolError) → IfSome wrong (λ w. result ≡ Err w)
      → IfSome wrong (λ w. IsErrAnd result (LaidRefused o columns (λ l e. e ≡ w)))
  laid_early None result h = tt
  laid_early (Some w) (Ok x) h = absurd cc
  laid_early (Some w) (Err e) h = let same : e ≡ w = cc in inr (layout, is, same)
