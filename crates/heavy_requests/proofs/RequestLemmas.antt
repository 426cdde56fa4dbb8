-- What the program's command line makes of words.
use Rattle.std.proofs.Common.{◌≡◌, ◌≢◌, ◌∙◌, ℕ, Bool, true, false, List, map, IfErr, Option, Result, Ok, Err, Some, None, inl, inr, ap, sym, refl, subst}
use Rattle.std.specs.Option.{option_map}
use Rattle.clap.specs.Words.{App, HasKind, HasMatchesOf, IsAmong, Kinds, Text, fault_of, is_simple, is_simple_and_free, kind_of}
use Rattle.clap.specs.Words.{subcommand_of, subcommand_rows_of, takes}
use Rattle.clap.specs.declared.error.Error.{Error}
use Rattle.clap.specs.declared.error.kind.ErrorKind.TheVariants.{OutOfMemory}
use Rattle.clap.specs.declared.parser.matches.ArgMatches.{ArgMatches}
use Rattle.heavy_arguments.specs.CommandLine.{IsProgram}
use Rattle.heavy_host.specs.Words.{AreAllWords, word_of}
use Rattle.heavy_requests.specs.Request.{IsRefusedBy, MayRefuse, MayRefuseFrom}
use Rattle.heavy_requests.specs.declared.request.UsageError.{UsageError}
use Rattle.heavy_requests.specs.declared.request.UsageError.TheVariants as usage

-- `clap` says exactly what it finds by the program's command line
program_is_simple : (app : App) → IsProgram app → is_simple app ≡ true
program_is_simple app it = subst (λ (a : App). is_simple a ≡ true) (sym it.is) refl

-- the command that a parse by the program's command line met is the one that the texts name
pub found_by_program : (app : App) (texts : List Text) (m : ArgMatches) → IsProgram app → HasMatchesOf app texts m
    → subcommand_of app texts ≡ subcommand_rows_of m
found_by_program app texts m it found = sym (found (program_is_simple app it)).1

-- a pair with these parts
pair_same : {N R : Type 0} (p : N × R) (n : N) (r : R) → n ≡ p.0 → r ≡ p.1 → p ≡ (n, r)
pair_same {N} {R} p n r a b =
    let first : N → N × R = λ m. (m, r) in
    let second : R → N × R = λ s. (p.0, s) in
    sym (ap first a ∙ ap second b)

-- what of it is found on its own is found together
pub found_together : {B N R : Type 0} (name : B → N) (both : B → N × R) → ((x : B) → (both x).0 ≡ name x)
    → (o : Option B) (n : N) (r : R)
    → Some n ≡ option_map name o → Some r ≡ option_map (λ (p : N × R). p.1) (option_map both o)
    → option_map both o ≡ Some (n, r)
found_together name both e None n r a b = cc
found_together {B} {N} {R} name both e (Some x) n r a b =
    let is_name : n ≡ name x = cc in
    let is_rows : r ≡ (both x).1 = cc in
    ap Some (pair_same (both x) n r (is_name ∙ sym (e x)) is_rows)

-- what is not true is false
not_true : (b : Bool) → (b ≡ true → ⊥) → b ≡ false
not_true true isnt = absurd (isnt refl)
not_true false isnt = refl

-- `clap` says exactly with which kind it refuses words by the program's command line
program_is_free : (app : App) → IsProgram app → is_simple_and_free app ≡ true
program_is_free app it = subst (λ (a : App). is_simple_and_free a ≡ true) (sym it.is) refl

-- memory is not the reason, so that the kind is among those that `clap` names
among_named : (kinds : Kinds) (e : Error) → HasKind kinds e → kind_of e ≢ OutOfMemory → IsAmong (kind_of e) kinds
among_named kinds e (inl memory) isnt = absurd (isnt memory)
among_named kinds e (inr among) isnt = among

-- words are refused for the reason that `clap` gives, where it isn't memory
pub refused_by : (words : List (List ℕ)) (program : App) (texts : List Text) (e : Error) → IsProgram program
    → map word_of texts ≡ words → (takes program texts ≡ true → kind_of e ≡ OutOfMemory)
    → (is_simple_and_free program ≡ true → HasKind (fault_of program texts) e) → kind_of e ≢ OutOfMemory
    → IsRefusedBy words (kind_of e)
refused_by words program texts e it spelled only has isnt = record {
  program = program;
  is_program = it;
  texts = texts;
  spelled = spelled;
  not_taken = not_true (takes program texts) (λ yes. isnt (only yes));
  among = among_named (fault_of program texts) e (has (program_is_free program it)) isnt;
}

-- words that are refused so are refused so as those of their source
pub refused_from : {T : Type 0} (gives : ℕ → Option (List ℕ) → Type 0) (words : List (List ℕ)) (r : Result T UsageError)
    → AreAllWords gives words → IfErr r (MayRefuse words) → IfErr r (MayRefuseFrom gives)
refused_from gives words (Ok asked) all may = tt
refused_from gives words (Err usage.Memory) all may = tt
refused_from gives words (Err (usage.Reported report)) all may = (words, all, may)
