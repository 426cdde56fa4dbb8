use Rattle.std.proofs.Common.{◌≡◌, map, take}
use Rattle.hh_commands.specs.Ask.{answer_of}
use Rattle.hh_library.proofs.commands.keys.answers_of.Given as goal

abbrev pub invariant-loop-word : goal.invariant-loop-word
invariant-loop-word l =
    l.answers.items ≡ map (λ word. answer_of l.saved word.items) (take l.word-index l.words)
