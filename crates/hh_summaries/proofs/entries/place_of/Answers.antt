use Rattle.std.proofs.Common.{rules}
use Rattle.std.proofs.lemmas.Fn.{always_returns_same}
use Rattle.hh_stream.specs.Weights.{Entry, key_cmp}
use Rattle.hh_summaries.proofs.Places.{searched}
use Rattle.hh_summaries.proofs.entries.place_of.Goals as goal

-- the closure captures the key, and stays as it is
pub returns : goal.returns
returns c =
    let facts = c.binary_search_by.ensures in
    searched c.args.entries.now c.args.key.now _ c.requires facts.bound (facts.position
    (λ (e : Entry). key_cmp e.0 c.args.key.now) (always_returns_same _ _ _ (λ a r g called. search rules)))
