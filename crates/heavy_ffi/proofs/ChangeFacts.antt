-- One item, added to a saved file's value.
use Rattle.std.proofs.Common.{◌≡◌, ◌∙◌, [], ◌∷◌, Option, None, Result, Ok, Err, ap, arith, refl, sym}
use Rattle.std.specs.Prelude.{IfErr, OnOk}
use Rattle.hh_stream.specs.Weights.{Entry}
use Rattle.hh_saved.specs.declared.saved.Saved.{Saved}
use Rattle.hh_commands.specs.Ask.{or_else, unless}
use Rattle.hh_commands.specs.Files.{Refuses}
use Rattle.hh_library.specs.Add.{added_to, bad_item, item_fault, total_in, value_and}
use Rattle.hh_library.proofs.AddFacts.{items_stop}
use Rattle.hh_faults.specs.declared.error.ToolError.{ToolError}

module _ (v : Saved) (e : Entry) where
  -- what is tested of one item alone
  one_item : (o : Option ToolError) → item_fault 1 (total_in v) e ≡ o
      → added_to v (e ∷ []) ≡ unless (or_else o None) (value_and v (e ∷ []))
  unfolding bad_item
  one_item o is = ap (λ (x : Option ToolError). unless (or_else x None) (value_and v (e ∷ []))) is

  -- one that passes is added
  added_one : item_fault 1 (total_in v) e ≡ None → added_to v (e ∷ []) ≡ Ok (value_and v (e ∷ []))
  added_one is = one_item None is

  -- one that is wrong is refused for that
  refused_one : (f : ToolError) → Refuses (unless (item_fault 1 (total_in v) e) v) f → Refuses (added_to v (e ∷ [])) f
  refused_one f refused =
      items_stop (λ (x : Entry). x) (e ∷ []) 0 e e refl (omega arith) (total_in v) (bad_item 1 (total_in v) (e ∷ [])) refl v
      (value_and v (e ∷ [])) f refused

  -- so an item ends that was added, or was refused for what is wrong with it
  pub one_ends : (r : Result Unit ToolError) (new : Saved)
      → (OnOk r (new ≡ value_and v (e ∷ [])) → OnOk r (item_fault 1 (total_in v) e ≡ None)
      → OnOk r (added_to v (e ∷ []) ≡ Ok new))
      × (IfErr r (Refuses (unless (item_fault 1 (total_in v) e) v)) → IfErr r (Refuses (added_to v (e ∷ []))))
  one_ends (Ok u) new = (λ made passes. added_one passes ∙ ap Ok (sym made), λ refused. tt)
  one_ends (Err f) new = (λ made passes. tt, refused_one f)
