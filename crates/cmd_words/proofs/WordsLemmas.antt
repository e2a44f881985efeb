-- What a parse of the program's words comes to.
use Rattle.std.proofs.Common.{List, [], Bool, true, false, Option, ◌≡◌, ◌≢◌, ◌∙◌, sym, ap, subst}
use Rattle.std.proofs.Common.{refl, inl, inr, option_and_then}
use Rattle.clap.specs.Words.{App, HasKind, HasMatchesOf, IsAmong, Text, fault_of, is_simple}
use Rattle.clap.specs.Words.{is_simple_and_free, kind_of, subcommand_of, subcommand_rows_of, takes}
use Rattle.clap.specs.declared.error.Error.{Error}
use Rattle.clap.specs.declared.error.kind.ErrorKind.TheVariants.{OutOfMemory}
use Rattle.clap.specs.declared.parser.matches.ArgMatches.{ArgMatches}
use Rattle.std.proofs.Common.{◌||◌, ap₂, codes, Some, None, Box, Bor, option_map, unwrap_or, Result}
use Rattle.std.proofs.Common.{Ok, Err}
use Rattle.std.proofs.Common.{IfOk, IfErr}
use Rattle.std.specs.Str.{bytes_eq}
use Rattle.std.specs.Box.{box_value}
use Rattle.std.proofs.lemmas.Slice.Eq.{bytes_eq-Decides}
use Rattle.clap.specs.Words.{Row, found_of, rows_of, subcommand_name_of, subcommand_rows}
use Rattle.clap.specs.declared.parser.matches.SubCommand.{SubCommand}
use Rattle.clap.specs.declared.parser.matches.ArgMatches.TheViews.{out-ArgMatches, out-SubCommand}
use Rattle.clap.proofs.OnLiterals.{clap_on_literals}
use Rattle.cmd_words.specs.Program.{program}
use Rattle.cmd_words.specs.Job.{IsJobInRange, job_of_line}
use Rattle.cmd_words.proofs.Given.{passing_line}
use Rattle.cmd_words.specs.Misfit.{IsWhole, is_line, misfit_in}
use Rattle.cmd_words.specs.Asked.{AnswersWords, ExplainsUnread, IsAsked, Passes, RefusedBy}
use Rattle.cmd_words.specs.declared.job.Job.{Job}
use Rattle.cmd_words.specs.declared.fault.Unread.{Unread}
use Rattle.cmd_words.specs.declared.fault.Unread.TheVariants.{Refused, Unfit, Memory}

program_is_simple : is_simple program ≡ true
unfolding clap_on_literals
program_is_simple = refl

program_is_free : is_simple_and_free program ≡ true
unfolding clap_on_literals
program_is_free = refl

-- the line that was read is the one that the words name
pub named_line : (a : App) (words : List Text) (m : ArgMatches)
    (line : Option (Bor Text × Bor ArgMatches)) → a ≡ program → HasMatchesOf a words m
    → option_map (λ p. p.0.now) line ≡ subcommand_name_of m
    → option_map (λ p. rows_of (found_of p.1.now)) line
    ≡ option_map (λ p. p.1) (subcommand_rows_of m)
    → subcommand_of program words ≡ option_map (λ p. (p.0.now, rows_of (found_of p.1.now))) line
named_line a words m line is has name rows = ap (λ (p : App). subcommand_of p words) (sym is)
    ∙ sym (has (ap is_simple is ∙ program_is_simple)).1
    ∙ go line (out-ArgMatches m).subcommand name rows
  where
    go : {Z : Type 0} (line : Option (Bor Text × Bor ArgMatches)) (o : Option (Box SubCommand Z))
        → option_map (λ p. p.0.now) line
        ≡ option_map (λ b. (out-SubCommand (box_value b)).name.now) o
        → option_map (λ p. rows_of (found_of p.1.now)) line
        ≡ option_map (λ p. p.1) (subcommand_rows o)
        → subcommand_rows o ≡ option_map (λ p. (p.0.now, rows_of (found_of p.1.now))) line
    go None None name rows = refl
    go None (Some b) name rows = cc
    go (Some p) None name rows = cc
    go (Some p) (Some b) name rows = ap₂ (λ x y. Some (unwrap_or x [], unwrap_or y []))
        (sym name) (sym rows)

-- the line of words that pass is whole
pub whole_line : (words : List Text) (line : Text × List Row) → Passes words
    → subcommand_of program words ≡ Some line → IsWhole line
whole_line words line passes is =
    let found = passing_line words passes in
    subst IsWhole (ap (λ o. unwrap_or o line) (sym found.1 ∙ is)) found.2

-- what a reading of the line answers is what the words ask for
pub answered : (words : List Text) (line : Text × List Row) (r : Result Job Unread)
    → Passes words → subcommand_of program words ≡ Some line
    → AnswersWords IsJobInRange (job_of_line line) (misfit_in line) r
    → IfOk r (IsAsked words) × IfErr r (ExplainsUnread words)
answered words line (Ok job) passes is read =
    ((passes, ap (option_and_then job_of_line) is ∙ read.0), tt)
answered words line (Err (Refused error)) passes is read = absurd read
answered words line (Err (Unfit m)) passes is read = (
  tt,
  (
    passes,
    ap (option_and_then job_of_line) is ∙ read.0,
    ap (option_and_then misfit_in) is ∙ read.1,
  ),
)
answered words line (Err Memory) passes is read = (tt, tt)

-- the name of a line that is none of the first
pub last_line : (name : Text) → is_line name ≡ true → bytes_eq name (codes "check") ≡ false
    → bytes_eq name (codes "explain") ≡ false → bytes_eq name (codes "cues") ≡ false
    → bytes_eq name (codes "look") ≡ false → bytes_eq name (codes "slots") ≡ false
    → bytes_eq name (codes "play") ≡ false → bytes_eq name (codes "live") ≡ false
    → bytes_eq name (codes "rehearse") ≡ false → bytes_eq name (codes "watch") ≡ false
    → name ≡ codes "listen"
last_line name is a b c d e f g h i =
    let last : (bytes_eq name (codes "listen") || false) ≡ true =
    rw (a, b, c, d, e, f, g, h, i) at is in
    (bytes_eq-Decides name (codes "listen")).0 (either (bytes_eq name (codes "listen")) last)
  where
    either : (b : Bool) → (b || false) ≡ true → b ≡ true
    either true e = refl
    either false e = e

-- words that were parsed pass
pub passes_words : (a : App) (words : List Text) → a ≡ program
    → (is_simple_and_free a ≡ true → fault_of a words ≡ []) → Passes words
passes_words a words is none = ap (λ (p : App). fault_of p words) (sym is)
    ∙ none (ap is_simple_and_free is ∙ program_is_free)

not_true : (b : Bool) → (b ≡ true → ⊥) → b ≡ false
not_true true never = absurd (never refl)
not_true false never = refl

-- an error other than that memory ran out has one of the kinds
among : (error : Error) (words : List Text) → kind_of error ≢ OutOfMemory
    → HasKind (fault_of program words) error
    → IsAmong (kind_of error) (fault_of program words)
among error words ample (inl is) = absurd (ample is)
among error words ample (inr is) = is

-- an error of the parse explains the fault that it becomes
pub explained : (a : App) (words : List Text) (error : Error) (fault : Unread) → a ≡ program
    → (takes a words ≡ true → kind_of error ≡ OutOfMemory)
    → (is_simple_and_free a ≡ true → HasKind (fault_of a words) error)
    → RefusedBy error fault → ExplainsUnread words fault
explained a words error (Refused e) is passes kinds by =
    let kind : HasKind (fault_of program words) error =
    subst (λ (p : App). HasKind (fault_of p words) error) is
    (kinds (ap is_simple_and_free is ∙ program_is_free)) in (
      not_true (takes program words)
          (λ t. by.1 (ap kind_of by.0 ∙ passes (ap (λ (p : App). takes p words) is ∙ t))),
      among e words by.1 (subst (λ (x : Error). HasKind (fault_of program words) x) (sym by.0)
          kind),
    )
explained a words error (Unfit misfit) is passes kinds by = absurd by
explained a words error Memory is passes kinds by = tt
