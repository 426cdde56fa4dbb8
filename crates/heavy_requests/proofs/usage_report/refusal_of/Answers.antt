-- The words are refused for the reason that `clap` gives.
use Rattle.std.proofs.Common.{rules, ◌≢◌, ◌∙◌, inr, map}
use Rattle.std.proofs.lemmas.Simd.{map-map}
use Rattle.std.specs.String.{string_bytes}
use Rattle.clap.specs.Words.{app_of, kind_of}
use Rattle.clap.specs.declared.error.kind.ErrorKind.TheVariants.{OutOfMemory}
use Rattle.heavy_host.specs.Words.{word_of}
use Rattle.heavy_requests.proofs.RequestLemmas.{refused_by}
use Rattle.heavy_requests.proofs.usage_report.refusal_of.Goals as goal

pub returns : goal.returns
returns c =
    let isnt : kind_of c.in-Err.refusal ≢ OutOfMemory = search rules in
    let spelled = map-map word_of string_bytes c.in_ok-texts.texts.items ∙ c.in_ok-texts.ensures in
    inr (refused_by _ (app_of c.in_ok-command_line.field-0) (map string_bytes c.as_slice.result.now) c.in-Err.refusal
    c.in_ok-command_line.ensures.app (rw c.as_slice.ensures.value spelled) c.in-Err.ensures.passes c.in-Err.ensures.kinds isnt)
