use Rattle.std.proofs.Common.{◌≡◌, ℕ, ◌∙◌, List, Result, Ok, Err, sym, ap}
use Rattle.hh_saved.specs.declared.format.Version.{Version}
use Rattle.hh_faults.specs.declared.saved.SavedFault.{SavedFault}
use Rattle.hh_saved.specs.Reading.{version_at}
use Rattle.hh_saved.proofs.Fields.{ok_is}
use Rattle.hh_saved.proofs.PlaceFacts.{version_named}
use Rattle.hh_saved.proofs.offsets.places.Goals as goal

pub unreachable-requires : goal.unreachable-requires
unreachable-requires c =
    let (version, spells) = c.requires in
    let named = version_named version c.args.bytes.now c.args.summary.now spells in
    let unnamed : version_at c.args.bytes.now ≡ Err c.in_default.field-0 = c.in_default.ensures in
    let both : ◌≡◌ {A = Result (Version × List ℕ) SavedFault} (Ok (version, named.0)) (Err c.in_default.field-0) =
    sym named.1 ∙ unnamed in
    absurd cc

pub places_in-requires : goal.places_in-requires
places_in-requires c =
    let (version, spells) = c.requires in
    let named = version_named version c.args.bytes.now c.args.summary.now spells in
    let same = ok_is (version, named.0) (c.in-Ok.version, c.in-Ok.field-0-1.now) (sym named.1 ∙ c.in-Ok.ensures) in
    rw (ap (λ (x : Version × List ℕ). x.0) same) at spells
