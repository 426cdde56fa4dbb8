use Rattle.std.proofs.Common.{◌≡◌, ◌∙◌, sym, ap, flat_map}
use Rattle.std.proofs.lemmas.Str.{IsUtf8-string_bytes, chars-nil}
use Rattle.std.proofs.lemmas.List.{take_more}
use Rattle.std.proofs.lemmas.Result.{IfOk-weaker}
use Rattle.std.specs.Str.{chars}
use Rattle.std.specs.String.{string_bytes}
use Rattle.heavy_host.specs.Words.{word_of, spelled_bytes}
use Rattle.heavy_host.proofs.WordLemmas.{word_of-push, word_of-plain}
use Rattle.heavy_host.proofs.words.text_of.Goals as goal

pub returns-then-spells_no_byte : goal.returns-then-spells_no_byte
returns-then-spells_no_byte c =
    let word : c.in-Ok.text.now ≡ c.args.word.now = c.in-Ok.ensures.cases.0 in
    let plain = word_of-plain c.in-Ok.text.now (rw word c.in-Ok.ensures.cases.1)
    (sym c.spells_no_byte.ensures ∙ c.if-spells_no_byte.true) in
    IfOk-weaker c.from_str.result (λ text. string_bytes text ≡ c.in-Ok.text.now) _
    (λ text same. ap word_of same ∙ plain ∙ word) c.from_str.ensures.ok

pub loop-byte-init : goal.loop-byte-init
loop-byte-init c = ap (flat_map spelled_bytes) (ap chars c.new-text.ensures.bytes ∙ chars-nil)

pub loop-byte-preserved : goal.loop-byte-preserved
loop-byte-preserved c =
    ap word_of c.in_ok-push.ensures.bytes
    ∙ word_of-push _ _ _ _ (IsUtf8-string_bytes c.loop-byte.text) c.spelled.ensures.character c.spelled.ensures.byte
    c.loop-byte.invariant
    ∙ sym (take_more c.args.word.now c.loop-byte.byte-index 0 c.loop-byte-test.true)
