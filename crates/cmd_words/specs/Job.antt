-- The job that words ask for.
use Rattle.std.specs.Prelude.{ℕ, ◌≤◌, List, Option, Some, None, codes, option_map}
use Rattle.std.specs.Prelude.{Bool, true, false, ◌||◌, ◌&&◌, not, is_some, option_and_then, []}
use Rattle.std.specs.Prelude.{All, if◌then◌else◌, length, nat_eq, nat_le, nat_lt, unwrap_or}
use Rattle.std.specs.List.{list_all}
use Rattle.std.specs.Option.{option_map_or}
use Rattle.std.specs.Str.{bytes_eq}
use Rattle.clap.specs.Words.{Row, Text, all_of, first_of, subcommand_of}
use Rattle.uuid.specs.Text.{parsed}
use Rattle.ascii_text.specs.Forms.{cue_number_of}
use Rattle.cmd_words.specs.Address.{address_of}
use Rattle.cmd_words.specs.Number.{number_between}
use Rattle.cmd_words.specs.Plain.{play_job}
use Rattle.cmd_words.specs.Program.{program}
use Rattle.cmd_words.specs.Target.{targets_of}
use Rattle.cmd_words.specs.Watched.{watch_universes}
use Rattle.targets.specs.declared.target.Target.{Target}
use Rattle.cmd_words.specs.declared.job.Night.{Night}
use Rattle.cmd_words.specs.declared.job.Job.{Job}
use Rattle.cmd_words.specs.declared.job.Job.TheVariants.{Check, CheckStrictly, Explain, Cues}
use Rattle.cmd_words.specs.declared.job.Job.TheVariants.{Look, Slots, Play, PlayNight, Live}
use Rattle.cmd_words.specs.declared.job.Job.TheVariants.{Rehearse, Listen, Watch}

-- the value of an argument that has to be there: its text, read by a form
abbrev pub value_by : {X : Type 0} → (Text → Option X) → Text → List Row → Option X
value_by form id rows = option_and_then form (first_of id rows)

-- the value of an argument that may be absent, and is this then
abbrev pub value_or : {X : Type 0} → X → (Text → Option X) → Text → List Row → Option X
value_or absent form id rows = option_map_or form (first_of id rows) (Some absent)

-- whether a flag was given: clap has `true` for one that was, and `false` for one that was not
abbrev pub has_flag : Text → List Row → Bool
has_flag id rows = option_map_or (λ text. bytes_eq text (codes "true")) (first_of id rows) false

-- the job of `check SHOW [--strict]`
abbrev pub check_of : List Row → Option Job
check_of rows =
    option_map (if has_flag (codes "strict") rows then CheckStrictly else Check)
    (first_of (codes "SHOW") rows)

-- the job of `explain SHOW`
abbrev pub explain_of : List Row → Option Job
explain_of rows = option_map Explain (first_of (codes "SHOW") rows)

-- the job of `cues SHOW [--json]`
abbrev pub cues_of : List Row → Option Job
cues_of rows =
    option_map (λ show. Cues show (has_flag (codes "json") rows)) (first_of (codes "SHOW") rows)

-- a look, where each of its values is there
abbrev pub look_with : Option Text → Option ℕ → Option (List ℕ) → Option Job
look_with (Some show) (Some cue) (Some cid) = Some (Look show cue cid)
look_with _ _ _ = None

-- the job of `look SHOW CUE --cid UUID`
abbrev pub look_of : List Row → Option Job
look_of rows = look_with (first_of (codes "SHOW") rows) (value_by cue_number_of (codes "CUE") rows)
    (value_by parsed (codes "cid") rows)

-- slots, where each of its values is there
abbrev pub slots_with : Option Text → Option ℕ → Option ℕ → Option Job
slots_with (Some show) (Some cue) (Some base) = Some (Slots show cue base)
slots_with _ _ _ = None

-- the job of `slots SHOW CUE [--base U]`: the base is a universe number, 1 where it is absent
abbrev pub slots_of : List Row → Option Job
slots_of rows = slots_with (first_of (codes "SHOW") rows)
    (value_by cue_number_of (codes "CUE") rows)
    (value_or 1 (number_between 1 63999) (codes "base") rows)

-- all texts of an option, in the order in which they were given
abbrev pub texts_of : Text → List Row → List Text
texts_of id rows = unwrap_or (all_of id rows) []

-- whether there is no card to send by
abbrev pub has_no_card : List Row → Bool
has_no_card rows = not (is_some (first_of (codes "interface") rows))

-- whether a night goes by any route, which goes with a card
abbrev pub any_route_of : List Row → Option Bool
any_route_of rows = if has_flag (codes "any-route") rows
    then (if has_no_card rows then None else Some true)
    else Some false

-- whether a byte is none of the control characters of ASCII
abbrev pub is_no_control : ℕ → Bool
is_no_control byte = nat_le 32 byte && not (nat_eq byte 127)

-- whether a text names a source: 1 to 63 bytes (E1.31-2018, source name), without control
-- characters, since it stands in lines of text
abbrev pub is_source_name : Text → Bool
is_source_name text =
    nat_lt 0 (length text) && nat_le (length text) 63 && list_all is_no_control text

-- the name of who sends, which may be absent
abbrev pub source_name_of : List Row → Option (Option Text)
source_name_of rows = value_or None
    (λ text. if is_source_name text then Some (Some text) else None) (codes "name") rows

-- a night, where each of its values is there
abbrev pub night_with : Option Text → Option (List Target) → Option (List ℕ) → Option ℕ → Option ℕ
    → Option Text → Option Bool → Option (Option Text) → Option ℕ → Option Night
night_with (Some show) (Some targets) (Some cid) (Some priority) (Some base) interface
    (Some any_route) (Some name) (Some ttl) = Some record {
      show = show;
      targets = targets;
      cid = cid;
      priority = priority;
      base = base;
      interface = interface;
      any_route = any_route;
      name = name;
      ttl = ttl;
    }
night_with _ _ _ _ _ _ _ _ _ = None

-- the night of `SHOW --to TARGET.. --cid UUID [--priority P] [--base U] [--interface CARD]
-- [--any-route] [--name TEXT] [--ttl HOPS]`: a priority is 0 to 200 and 100 where it is absent
-- (E1.31-2018, priority), the base a universe number, and it and the TTL are 1 where absent
abbrev pub night_of : List Row → Option Night
night_of rows = night_with (first_of (codes "SHOW") rows) (targets_of (texts_of (codes "to") rows))
    (value_by parsed (codes "cid") rows)
    (value_or 100 (number_between 0 200) (codes "priority") rows)
    (value_or 1 (number_between 1 63999) (codes "base") rows)
    (first_of (codes "interface") rows) (any_route_of rows) (source_name_of rows)
    (value_or 1 (number_between 1 255) (codes "ttl") rows)

-- the job of `play`, which has the arguments of a night
abbrev pub play_of : List Row → Option Job
play_of rows = option_map play_job (night_of rows)

-- whether there is no record to take up
abbrev pub has_no_record : List Row → Bool
has_no_record rows = not (is_some (first_of (codes "record") rows))

-- whether a night is taken up from its record, which has to be there then
abbrev pub resumes_of : List Row → Option Bool
resumes_of rows = if has_flag (codes "resume") rows
    then (if has_no_record rows then None else Some true)
    else Some false

-- whether a night is a spare, which goes with one that is taken up
abbrev pub spare_of : List Row → Option Bool
spare_of rows = if has_flag (codes "spare") rows
    then (if has_flag (codes "resume") rows then Some true else None)
    else Some false

-- the cue that a night starts in, which may be absent
abbrev pub start_cue : List Row → Option (Option ℕ)
start_cue rows = value_or None (λ text. option_map Some (cue_number_of text)) (codes "start") rows

-- whether a night begins in a way of its own: behind its record, or in a cue
abbrev pub has_beginning : List Row → Bool
has_beginning rows = has_flag (codes "resume") rows || is_some (first_of (codes "start") rows)

-- whether a night follows a main, which has none of those ways then
abbrev pub follows_of : List Row → Option Bool
follows_of rows = if is_some (first_of (codes "follow") rows)
    then (if has_beginning rows then None else Some true)
    else Some false

-- whether there is no main to follow
abbrev pub has_no_main : List Row → Bool
has_no_main rows = not (is_some (first_of (codes "follow") rows))

-- how long a main may be silent, in milliseconds, which goes with a main; 1000 where it is absent
abbrev pub patience_of : List Row → Option ℕ
patience_of rows = option_map_or
    (λ text. if has_no_main rows then None else number_between 1 60000 text)
    (first_of (codes "patience") rows) (Some 1000)

-- a live night, where each of its values is there
abbrev pub live_with : Option Night → Option Text → Option Bool → Option Bool → Option (Option ℕ)
    → Option Text → Option Bool → Option ℕ → Bool → Option Job
live_with (Some night) record_file (Some resumes) (Some is_spare) (Some start) main_file
    (Some follows) (Some patience) ends_with_input =
    Some (Live night record {
      record_file = record_file;
      resumes = resumes;
      is_spare = is_spare;
      start = start;
      main_file = main_file;
      patience = patience;
      ends_with_input = ends_with_input;
    })
live_with _ _ _ _ _ _ _ _ _ = None

-- the job of `live`, which has those of a night, and `[--record FILE] [--resume] [--spare]
-- [--start N] [--follow FILE] [--patience MS] [--end-with-input]`
abbrev pub live_of : List Row → Option Job
live_of rows = live_with (night_of rows) (first_of (codes "record") rows) (resumes_of rows)
    (spare_of rows) (start_cue rows) (first_of (codes "follow") rows) (follows_of rows)
    (patience_of rows)
    (has_flag (codes "end-with-input") rows)

-- a rehearsal, where both of its values are there
abbrev pub rehearse_with : Option Text → Option Text → Option Job
rehearse_with (Some show) (Some script) = Some (Rehearse show script)
rehearse_with _ _ = None

-- the job of `rehearse SHOW SCRIPT`
abbrev pub rehearse_of : List Row → Option Job
rehearse_of rows =
    rehearse_with (first_of (codes "SHOW") rows) (first_of (codes "SCRIPT") rows)

-- a listen, where each of its values is there
abbrev pub listen_with : Option (List ℕ × ℕ) → Option ℕ → Option ℕ → Option Job
listen_with (Some at) (Some universe) (Some count) = Some (Listen at universe count)
listen_with _ _ _ = None

-- the job of `listen ADDR UNIVERSE COUNT`; a universe number is 1 to 63999 (E1.31-2018, universe)
abbrev pub listen_of : List Row → Option Job
listen_of rows = listen_with (value_by address_of (codes "ADDR") rows)
    (value_by (number_between 1 63999) (codes "UNIVERSE") rows)
    (value_by (number_between 1 1000000) (codes "COUNT") rows)

-- the job of `watch UNIVERSE..`
abbrev pub watch_job : List Row → Option Job
watch_job rows = option_map Watch (watch_universes (texts_of (codes "UNIVERSES") rows))

-- the numbers of a job are in the ranges that its run asks for
abbrev pub IsJobInRange : Job → Type 0
IsJobInRange (Listen at universe count) = (1 ≤ universe) × (universe ≤ 63999)
IsJobInRange (Play show to cid priority base) = priority ≤ 200
IsJobInRange (PlayNight night) = night.priority ≤ 200
IsJobInRange (Live night options) = night.priority ≤ 200
IsJobInRange (Watch universes) = All (λ u. (1 ≤ u) × (u ≤ 63999)) universes
IsJobInRange _ = Unit {0}

-- the job of a line, by its name and the texts of its arguments
abbrev pub job_of_line : Text × List Row → Option Job
job_of_line line = if bytes_eq line.0 (codes "check") then check_of line.1
    else (if bytes_eq line.0 (codes "explain") then explain_of line.1
    else (if bytes_eq line.0 (codes "cues") then cues_of line.1
    else (if bytes_eq line.0 (codes "look") then look_of line.1
    else (if bytes_eq line.0 (codes "slots") then slots_of line.1
    else (if bytes_eq line.0 (codes "play") then play_of line.1
    else (if bytes_eq line.0 (codes "live") then live_of line.1
    else (if bytes_eq line.0 (codes "rehearse") then rehearse_of line.1
    else (if bytes_eq line.0 (codes "watch") then watch_job line.1
    else (if bytes_eq line.0 (codes "listen") then listen_of line.1 else None)))))))))

-- the job of the line that clap's meaning of the program gives for the words, where each of the
-- texts that this meaning gives has its form
abbrev pub job_of : List Text → Option Job
job_of words = option_and_then job_of_line (subcommand_of program words)
