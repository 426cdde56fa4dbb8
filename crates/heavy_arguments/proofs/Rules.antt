-- Commands that grow by their arguments, one after the other.
use Rattle.std.proofs.Common.{◌≡◌, ◌<◌, ◌+◌, ℕ, List, [], ◌∷◌, ◌++◌, length, map, take, ap, sym, ◌∙◌, append_assoc, get_or}
use Rattle.std.specs.Prelude.{fold}
use Rattle.std.proofs.lemmas.List.{map-append, take_more}
use Rattle.std.proofs.lemmas.Grind.{fold-append}
use Rattle.clap.specs.Walk.{Rule}
use Rattle.clap.specs.Simple.{App, Shape, with_rule, with_subcommand}
use Rattle.heavy_arguments.specs.CommandLine.{with_rules}

-- rules and others are the rules followed by those
pub rules_more : (app : App) (rules more : List Rule) → with_rules (with_rules app rules) more ≡ with_rules app (rules ++ more)
rules_more app rules more =
    ap (λ (all : List Rule). record app { top = record app.top { rules = all } }) (append_assoc app.top.rules rules more)

-- a command with the arguments so far, and then the next
pub argument_added : {X : Type 0} (rule_of : X → Rule) (app now next : App) (xs : List X) (i : ℕ) (d : X) (rule : Rule) → i < length xs
    → now ≡ with_rules app (map rule_of (take i xs)) → rule ≡ rule_of (get_or xs i d)
    → next ≡ with_rule now rule → next ≡ with_rules app (map rule_of (take (i + 1) xs))
argument_added rule_of app now next xs i d rule below so_far is added =
    let one = rule_of (get_or xs i d) in
    let before = map rule_of (take i xs) in
    added ∙ ap (λ (a : App). with_rule a rule) so_far ∙ ap (with_rule (with_rules app before)) is
    ∙ rules_more app before (one ∷ [])
    ∙ ap (with_rules app) (sym (ap (map rule_of) (take_more xs i d below)
    ∙ map-append rule_of (take i xs) (get_or xs i d ∷ [])))

-- a program with the commands so far, and then the next
pub command_added : {X : Type 0} (shape_of : X → Shape) (start now one next : App) (xs : List X) (i : ℕ) (d : X) → i < length xs
    → now ≡ fold with_subcommand start (map shape_of (take i xs))
    → one ≡ record { top = shape_of (get_or xs i d); subs = [] } → next ≡ with_subcommand now one.top
    → next ≡ fold with_subcommand start (map shape_of (take (i + 1) xs))
command_added {X} shape_of start now one next xs i d below so_far is added =
    let before = fold with_subcommand start (map shape_of (take i xs)) in
    added ∙ ap (λ (a : App). with_subcommand a one.top) so_far ∙ ap (λ (a : App). with_subcommand before a.top) is
    ∙ sym (ap (λ (ys : List X). fold with_subcommand start (map shape_of ys)) (take_more xs i d below)
    ∙ ap (fold with_subcommand start) (map-append shape_of (take i xs) (get_or xs i d ∷ []))
    ∙ fold-append with_subcommand start (map shape_of (take i xs)) (shape_of (get_or xs i d) ∷ []))
