use Rattle.std.proofs.Common.{ℕ, List, [], ◌++◌, flat_map, sym, ap, ◌∙◌, map-id}
use Rattle.std.proofs.lemmas.List.{flat_map_more}
use Rattle.std.proofs.lemmas.Iterator.{YieldsList-from_chars}
use Rattle.std.proofs.lemmas.Iterator.Consumers.{YieldsList-end}
use Rattle.heavy_host.specs.Words.{spelled_bytes}
use Rattle.heavy_host.proofs.words.bytes_of.Goals as goal

pub loop-character-preserved : goal.loop-character-preserved
loop-character-preserved c =
    c.in_ok-push_bytes.ensures
    ∙ ap (λ (bytes : List ℕ). bytes ++ spelled_bytes c.in-Some.character) c.loop-character.invariant
    ∙ flat_map_more spelled_bytes [] c.loop-character.yielded c.in-Some.character

pub returns : goal.returns
returns c =
    let end = YieldsList-end (YieldsList-from_chars c.args.text.now c.utf8.text cc) c.loop-character.yielded _ c.loop-character.yielded_by _ _ c.in-None.is c.next.ensures.steps in
    c.loop-character.invariant ∙ ap (flat_map spelled_bytes) (sym (map-id c.loop-character.yielded) ∙ end.0)
