-- What the words' texts are taken for is what the program's command line finds in them.
use Rattle.std.proofs.Common.{◌∙◌, map, subst, refl}
use Rattle.std.proofs.lemmas.Simd.{map-map}
use Rattle.std.specs.String.{string_bytes}
use Rattle.clap.specs.Words.{HasMatchesOf, app_of, found_of, kind_of, rows_of}
use Rattle.clap.specs.declared.parser.matches.ArgMatches.TheViews.{out-ArgMatches, out-SubCommand}
use Rattle.std.specs.Box.{box_value}
use Rattle.heavy_host.specs.Words.{word_of}
use Rattle.heavy_requests.proofs.RequestLemmas.{found_by_program, found_together, refused_by}
use Rattle.heavy_requests.proofs.request.request_in.Goals as goal

pub returns-clause-asked : goal.returns-clause-asked
returns-clause-asked c = record {
  program = app_of c.in_ok-command_line.field-0;
  is_program = c.in_ok-command_line.ensures.app;
  texts = map string_bytes c.in_ok-texts.texts.items;
  spelled = map-map word_of string_bytes c.in_ok-texts.texts.items ∙ c.in_ok-texts.ensures;
  name = c.in-Some.name.now;
  found = found_of c.in-Some.found.now;
  command = found_by_program (app_of c.in_ok-command_line.field-0) (map string_bytes c.in_ok-texts.texts.items) c.in-Ok.matches
      c.in_ok-command_line.ensures.app
      (subst (λ items. HasMatchesOf (app_of c.in_ok-command_line.field-0) (map string_bytes items) c.in-Ok.matches)
      c.as_slice.ensures.value c.in-Ok.ensures.matches)
      ∙ found_together (λ b. (out-SubCommand (box_value b)).name.now)
      (λ b. ((out-SubCommand (box_value b)).name.now, rows_of (found_of (out-SubCommand (box_value b)).matches))) (λ b. refl) (out-ArgMatches c.in-Ok.matches).subcommand c.in-Some.name.now (rows_of (found_of c.in-Some.found.now))
      c.in-Some.ensures.name c.in-Some.ensures.rows;
  asks = c.in_ok-asked_of.ensures;
}

pub returns-in-Err-clause-refused : goal.returns-in-Err-clause-refused
returns-in-Err-clause-refused c =
    let spelled = map-map word_of string_bytes c.in_ok-texts.texts.items ∙ c.in_ok-texts.ensures in (
      kind_of c.in-Err.error,
      refused_by _ (app_of c.in_ok-command_line.field-0) (map string_bytes c.as_slice.result.now) c.in-Err.error
          c.in_ok-command_line.ensures.app (rw c.as_slice.ensures.value spelled) c.in-Err.ensures.passes c.in-Err.ensures.kinds
          c.in_ok-usage_report_of-in-Err.ensures.memory,
      c.in_ok-usage_report_of-in-Err.ensures.said,
    )
