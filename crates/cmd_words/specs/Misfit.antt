-- The argument of a line that lacks its form.
use Rattle.std.specs.Prelude.{◌≡◌, ◌&&◌, ◌||◌, not, List, [], ◌∷◌, Bool, true, false, Option, Some}
use Rattle.std.specs.Prelude.{None}
use Rattle.std.specs.Prelude.{Result, Ok, Err, codes, is_some, option_and_then, if◌then◌else◌}
use Rattle.std.specs.Prelude.{option_map, slice_get}
use Rattle.std.specs.Result.{result_err}
use Rattle.std.specs.List.{list_all, list_any}
use Rattle.std.specs.Option.{option_or}
use Rattle.std.specs.Str.{bytes_eq}
use Rattle.clap.specs.Words.{Row, Rule, Text, first_of, subcommand_of}
use Rattle.uuid.specs.Text.{parsed}
use Rattle.ascii_text.specs.Forms.{cue_number_of}
use Rattle.cmd_words.specs.Address.{address_of}
use Rattle.cmd_words.specs.Job.{has_beginning, has_flag, has_no_card, has_no_main}
use Rattle.cmd_words.specs.Job.{has_no_record, is_source_name, texts_of}
use Rattle.cmd_words.specs.Number.{number_between}
use Rattle.cmd_words.specs.Program.{lines, program, rules_of}
use Rattle.cmd_words.specs.Target.{read_all, target_of}
use Rattle.cmd_words.specs.Watched.{misfit_of_universes}
use Rattle.cmd_words.specs.declared.misfit.Form.{Form}
use Rattle.cmd_words.specs.declared.misfit.Form.TheVariants.{Cue, Cid, Address, Priority}
use Rattle.cmd_words.specs.declared.misfit.Form.TheVariants.{Universe, Count, Recorded}
use Rattle.cmd_words.specs.declared.misfit.Form.TheVariants.{Patience, Followed, Alone}
use Rattle.cmd_words.specs.declared.misfit.Form.TheVariants.{Target, Few, ByCard, SourceName}
use Rattle.cmd_words.specs.declared.misfit.Form.TheVariants.{Ttl, Resumed, Sixteen, Once}
use Rattle.cmd_words.specs.declared.misfit.Misfit.{Misfit}

-- the form of an argument's text, by the argument's name; where there is none, any text will do
abbrev pub form_of : Text → Option Form
form_of id = if bytes_eq id (codes "CUE") || bytes_eq id (codes "start") then Some Cue
    else (if bytes_eq id (codes "cid") then Some Cid
    else (if bytes_eq id (codes "ADDR") then Some Address
    else (if bytes_eq id (codes "priority") then Some Priority
    else (if bytes_eq id (codes "base") || bytes_eq id (codes "UNIVERSE") then Some Universe
    else (if bytes_eq id (codes "COUNT") then Some Count
    else (if bytes_eq id (codes "name") then Some SourceName
    else (if bytes_eq id (codes "ttl") then Some Ttl else None)))))))

-- whether a text has a form
abbrev pub fits : Form → Text → Bool
fits Cue text = is_some (cue_number_of text)
fits Cid text = is_some (parsed text)
fits Address text = is_some (address_of text)
fits Target text = is_some (target_of text)
fits Few text = false
fits Priority text = is_some (number_between 0 200 text)
fits Universe text = is_some (number_between 1 63999 text)
fits Sixteen text = false
fits Once text = false
fits Count text = is_some (number_between 1 1000000 text)
fits SourceName text = is_source_name text
fits Ttl text = is_some (number_between 1 255 text)
fits ByCard text = false
fits Recorded text = false
fits Resumed text = false
fits Patience text = is_some (number_between 1 60000 text)
fits Followed text = false
fits Alone text = false

-- the form of an option's text that depends on the others: `resume` wants for a record, `spare` for
-- `resume`, and `any-route` for a card; `follow` goes without another beginning, and `patience`
-- wants for a main
abbrev pub form_by_others : Text → List Row → Option Form
form_by_others id rows = if bytes_eq id (codes "resume")
    then (if has_flag id rows && has_no_record rows then Some Recorded else None)
    else (if bytes_eq id (codes "spare")
    then (if has_flag id rows && not (has_flag (codes "resume") rows) then Some Resumed else None)
    else (if bytes_eq id (codes "any-route")
    then (if has_flag id rows && has_no_card rows then Some ByCard else None)
    else (if bytes_eq id (codes "follow")
    then (if has_beginning rows then Some Alone else None)
    else (if bytes_eq id (codes "patience")
    then (if has_no_main rows then Some Followed else Some Patience) else None))))

-- the form of an argument's text among all arguments of a line
abbrev pub form_in : Text → List Row → Option Form
form_in id rows = option_or (form_of id) (form_by_others id rows)

-- an argument's name, the form that it should have, and the text that lacks it
abbrev pub Unfit : Type 0
Unfit = Text × Form × Text

-- the argument, where its text lacks its form
abbrev pub misfit_with : Text → Option Form → Option Text → Option Unfit
misfit_with id (Some form) (Some text) = if fits form text then None else Some (id, form, text)
misfit_with _ _ _ = None

-- the 65th target, or the first that lacks its form
abbrev pub misfit_among : Text → List Text → Option Unfit
misfit_among id texts = option_or (option_map (λ text. (id, Few, text)) (slice_get texts 64))
    (option_map (λ text. (id, Target, text)) (result_err (read_all texts)))

-- the text of an argument that lacks its form: of the targets and of the universes of a watch any
-- of them
abbrev pub misfit_at : Text → List Row → Option Unfit
misfit_at id rows = if bytes_eq id (codes "to")
    then misfit_among id (texts_of id rows)
    else (if bytes_eq id (codes "UNIVERSES") then misfit_of_universes (texts_of id rows)
    else misfit_with id (form_in id rows) (first_of id rows))

-- each argument of a night that is there has its form
abbrev pub NightFits : List Row → Type 0
NightFits rows = (misfit_at (codes "to") rows ≡ None) × (misfit_at (codes "cid") rows ≡ None)
    × (misfit_at (codes "priority") rows ≡ None) × (misfit_at (codes "base") rows ≡ None)
    × (misfit_at (codes "any-route") rows ≡ None) × (misfit_at (codes "name") rows ≡ None)
    × (misfit_at (codes "ttl") rows ≡ None)

-- the first of the arguments that is there and lacks its form
abbrev pub first_misfit : List Rule → List Row → Option Unfit
first_misfit [] rows = None
first_misfit (rule ∷ rest) rows = option_or (misfit_at rule.id rows) (first_misfit rest rows)

-- that of the line, in the order of its arguments
abbrev pub misfit_in : Text × List Row → Option Unfit
misfit_in line = first_misfit (rules_of line.0) line.1

-- that of the line that clap's meaning of the program gives for the words
abbrev pub words_misfit : List Text → Option Unfit
words_misfit words = option_and_then misfit_in (subcommand_of program words)

-- what a misfit tells
abbrev pub unfit_of : Misfit → Unfit
unfit_of misfit = (misfit.argument.now, misfit.form, misfit.text.now)

-- a reading of an argument comes to its value, or to its misfit
abbrev pub ReadsArgument : {X : Type 0} → Option X → Option Unfit → Result X Misfit → Type 0
ReadsArgument value misfit (Ok x) = (value ≡ Some x) × (misfit ≡ None)
ReadsArgument value misfit (Err m) = (value ≡ None) × (misfit ≡ Some (unfit_of m))

-- each argument that has to be there has a text
abbrev pub has_texts : List Rule → List Row → Bool
has_texts rules rows = list_all (λ rule. not rule.required || is_some (first_of rule.id rows)) rules

-- whether a line has this name
abbrev pub is_line : Text → Bool
is_line name = list_any (λ l. bytes_eq name l.top.name) lines

-- the line is one of the program's, and each of its arguments that has to be there has a text
abbrev pub IsWhole : Text × List Row → Type 0
IsWhole line = (is_line line.0 ≡ true) × (has_texts (rules_of line.0) line.1 ≡ true)
