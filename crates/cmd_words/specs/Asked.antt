-- What a reading of the words answers.
use Rattle.std.specs.Prelude.{◌≡◌, ◌≢◌, List, [], true, false, Option, Some, None, Result, Ok, Err}
use Rattle.std.specs.Prelude.{is_some}
use Rattle.clap.specs.Words.{IsAmong, Text, fault_of, kind_of, takes}
use Rattle.clap.specs.declared.error.Error.{Error}
use Rattle.clap.specs.declared.error.kind.ErrorKind.TheVariants.{OutOfMemory}
use Rattle.cmd_words.specs.Program.{program}
use Rattle.cmd_words.specs.Job.{job_of}
use Rattle.cmd_words.specs.Misfit.{Unfit as UnfitArgument, words_misfit, unfit_of}
use Rattle.cmd_words.specs.declared.job.Job.{Job}
use Rattle.cmd_words.specs.declared.fault.Unread.{Unread}
use Rattle.cmd_words.specs.declared.fault.Unread.TheVariants.{Refused, Unfit, Memory}
use Rattle.cmd_words.specs.declared.fault.WordsFault.{WordsFault}
use Rattle.cmd_words.specs.declared.fault.WordsFault.TheVariants.{Refused as RefusedWords}
use Rattle.cmd_words.specs.declared.fault.WordsFault.TheVariants.{Unfit as UnfitWords}
use Rattle.cmd_words.specs.declared.fault.WordsFault.TheVariants.{Memory as NoMemory}

-- no step of clap's meaning of the program fails at the words
abbrev pub Passes : List Text → Type 0
Passes words = fault_of program words ≡ []

-- the words pass, and ask for the job
abbrev pub IsAsked : List Text → Job → Type 0
IsAsked words job = Passes words × (job_of words ≡ Some job)

-- why there is no job: the program does not take the words, and the error is of a kind that clap's
-- meaning gives for them; or they pass, and one of the line's arguments that is there lacks its
-- form; or memory ran out
abbrev pub ExplainsWords : List Text → WordsFault → Type 0
ExplainsWords words (RefusedWords error) =
    (takes program words ≡ false) × IsAmong (kind_of error) (fault_of program words)
ExplainsWords words UnfitWords =
    Passes words × (job_of words ≡ None) × (is_some (words_misfit words) ≡ true)
ExplainsWords words NoMemory = Unit {0}

-- the same, and which argument is the first that lacks its form
abbrev pub ExplainsUnread : List Text → Unread → Type 0
ExplainsUnread words (Refused error) =
    (takes program words ≡ false) × IsAmong (kind_of error) (fault_of program words)
ExplainsUnread words (Unfit misfit) =
    Passes words × (job_of words ≡ None) × (words_misfit words ≡ Some (unfit_of misfit))
ExplainsUnread words Memory = Unit {0}

-- the fault without its argument
abbrev pub words_fault : Unread → WordsFault
words_fault (Refused error) = RefusedWords error
words_fault (Unfit misfit) = UnfitWords
words_fault Memory = NoMemory

-- what becomes of an error of clap's: it is handed on, unless memory ran out
abbrev pub RefusedBy : Error → Unread → Type 0
RefusedBy error (Refused e) = (e ≡ error) × (kind_of e ≢ OutOfMemory)
RefusedBy error (Unfit misfit) = ⊥
RefusedBy error Memory = kind_of error ≡ OutOfMemory

-- a reading of a line comes to what is asked for, of which P holds, or to the line's misfit, or
-- memory ran out
abbrev pub AnswersWords : {X : Type 0} → (X → Type 0) → Option X → Option UnfitArgument
    → Result X Unread → Type 0
AnswersWords P asked misfit (Ok x) = (asked ≡ Some x) × P x
AnswersWords P asked misfit (Err (Refused error)) = ⊥
AnswersWords P asked misfit (Err (Unfit m)) = (asked ≡ None) × (misfit ≡ Some (unfit_of m))
AnswersWords P asked misfit (Err Memory) = Unit {0}
