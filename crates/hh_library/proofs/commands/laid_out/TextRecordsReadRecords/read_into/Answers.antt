use Rattle.std.proofs.Common.{Bor, List, Some, refl, ℕ}
use Rattle.hh_library.proofs.LaidFacts.{known-one}
use Rattle.hh_library.proofs.commands.laid_out.TextRecordsReadRecords.read_into.Goals as goal

pub returns-clause-items : goal.returns-clause-items
returns-clause-items g c =
    let text = c.args.self.text in
    rw (known-one (λ (r : Bor (List ℕ)). Some r.now) c.args.self.layout.now text c.new.result.items text.now
    c.new.ensures.items refl) at c.read_texts.ensures.items

pub returns-clause-refused : goal.returns-clause-refused
returns-clause-refused g c =
    let text = c.args.self.text in
    rw (known-one (λ (r : Bor (List ℕ)). Some r.now) c.args.self.layout.now text c.new.result.items text.now
    c.new.ensures.items refl) at c.read_texts.ensures.refused
