use Rattle.std.proofs.Common.{take}
use Rattle.std.specs.Prelude.{map}
use Rattle.hh_records.specs.LayoutWords.{NamesKey}
use Rattle.hh_records.proofs.layout_words.key_of.Given as goal

abbrev pub invariant-loop-word : goal.invariant-loop-word
invariant-loop-word l =
    NamesKey (l.is_json, l.has_header) (map (λ word. word.items) (take l.word-index l.words)) l.key.items
