-- Why a night has no job, also as one of `live`.
use Rattle.std.proofs.Common.{◌≡◌, ◌≤◌, List, [], ◌∷◌, ◌++◌, Option, Some, None, Err, codes, ap}
use Rattle.std.specs.Option.{option_or}
use Rattle.clap.specs.Words.{Row, Rule, first_of}
use Rattle.cmd_words.specs.Program.{flag, night_arguments, option}
use Rattle.cmd_words.specs.Job.{IsJobInRange, has_flag, live_of, live_with, night_of}
use Rattle.cmd_words.specs.Job.{follows_of, patience_of, resumes_of, spare_of, start_cue}
use Rattle.cmd_words.specs.Misfit.{Unfit as UnfitArgument, first_misfit, misfit_at, misfit_in}
use Rattle.cmd_words.specs.Asked.{AnswersWords}
use Rattle.cmd_words.specs.declared.fault.Unread.{Unread}
use Rattle.cmd_words.specs.declared.fault.Unread.TheVariants.{Refused, Unfit, Memory}

-- the first misfit stays the first where more arguments follow
first_of_more : (rules more : List Rule) (rows : List Row) (x : UnfitArgument)
    → first_misfit rules rows ≡ Some x → first_misfit (rules ++ more) rows ≡ Some x
first_of_more [] more rows x is = cc
first_of_more (rule ∷ rest) more rows x is =
    go (misfit_at rule.id rows) is (λ later. first_of_more rest more rows x later)
  where
    go : (o : Option UnfitArgument) → option_or o (first_misfit rest rows) ≡ Some x
        → (first_misfit rest rows ≡ Some x → first_misfit (rest ++ more) rows ≡ Some x)
        → option_or o (first_misfit (rest ++ more) rows) ≡ Some x
    go None is later = later is
    go (Some y) is later = is

-- the arguments of `live` behind those of a night
abbrev behind_night : List Rule
behind_night = option (codes "record") ∷ flag (codes "resume") ∷ flag (codes "spare")
    ∷ option (codes "start") ∷ option (codes "follow") ∷ option (codes "patience")
    ∷ flag (codes "end-with-input") ∷ []

pub night_refused : (rows : List Row) (fault : Unread)
    → AnswersWords (λ night. night.priority ≤ 200) (night_of rows)
    (first_misfit night_arguments rows)
    (Err fault)
    → AnswersWords IsJobInRange (live_of rows) (misfit_in (codes "live", rows)) (Err fault)
night_refused rows (Refused error) read = read
night_refused rows (Unfit misfit) read = (
  ap (λ night. live_with night (first_of (codes "record") rows) (resumes_of rows) (spare_of rows)
      (start_cue rows) (first_of (codes "follow") rows) (follows_of rows) (patience_of rows)
      (has_flag (codes "end-with-input") rows)) read.0,
  first_of_more night_arguments behind_night rows _ read.1,
)
night_refused rows Memory read = read
