-- Words that are written out, by evaluation.
use Rattle.std.proofs.Common.{ℕ, List, [], ◌∷◌, Option, true, false, Some, None, ◌≡◌, refl, codes}
use Rattle.clap.specs.Words.{Text, fault_of, takes}
use Rattle.clap.specs.declared.error.kind.ErrorKind.TheVariants.{MissingRequiredArgument}
use Rattle.clap.proofs.OnLiterals.{clap_on_literals}
use Rattle.uuid.proofs.OnLiterals.{uuid_on_literals}
use Rattle.cmd_words.specs.Program.{program}
use Rattle.cmd_words.specs.Address.{address_of}
use Rattle.cmd_words.specs.Job.{job_of}
use Rattle.cmd_words.specs.Number.{number_between}
use Rattle.cmd_words.specs.Misfit.{words_misfit}
use Rattle.cmd_words.specs.Target.{target_of}
use Rattle.cmd_words.specs.Asked.{Passes}
use Rattle.targets.specs.declared.target.Target.{Target}
use Rattle.targets.specs.declared.target.Universes.{Universes}
use Rattle.cmd_words.specs.declared.misfit.Form.TheVariants.{Recorded, Patience, Followed}
use Rattle.cmd_words.specs.declared.misfit.Form.TheVariants.{Alone, ByCard, Resumed}
use Rattle.cmd_words.specs.declared.misfit.Form.TheVariants.{Target as TargetForm}
use Rattle.cmd_words.specs.declared.misfit.Form.TheVariants.{Once, Sixteen, Universe}
use Rattle.cmd_words.specs.declared.job.Night.{Night}
use Rattle.cmd_words.specs.declared.job.LiveOptions.{LiveOptions}
use Rattle.cmd_words.specs.declared.job.Job.TheVariants.{Check, CheckStrictly, Explain, Cues}
use Rattle.cmd_words.specs.declared.job.Job.TheVariants.{Look, Slots, Play, PlayNight, Live}
use Rattle.cmd_words.specs.declared.job.Job.TheVariants.{Rehearse, Listen, Watch}

-- `check a.asc`, with more options
abbrev check_words : List Text → List Text
check_words more = codes "cueplayer" ∷ codes "check" ∷ codes "a.asc" ∷ more

-- `look - CUE --cid CID`
abbrev look_words : Text → List Text
look_words cue = codes "cueplayer" ∷ codes "look" ∷ codes "-" ∷ cue ∷ codes "--cid"
    ∷ codes "c0ffee00-0000-4000-8000-00000000e131" ∷ []

-- `look - CUE`
abbrev short_words : Text → List Text
short_words cue = codes "cueplayer" ∷ codes "look" ∷ codes "-" ∷ cue ∷ []

-- `listen ADDR UNIVERSE 3`
abbrev listen_words : Text → Text → List Text
listen_words address universe =
    codes "cueplayer" ∷ codes "listen" ∷ address ∷ universe ∷ codes "3" ∷ []

check_passes : Passes (check_words (codes "--strict" ∷ []))
unfolding clap_on_literals
check_passes = refl

check_job : (job_of (check_words []) ≡ Some (Check (codes "a.asc")))
    × (job_of (check_words (codes "--strict" ∷ [])) ≡ Some (CheckStrictly (codes "a.asc")))
unfolding clap_on_literals
check_job = (refl, refl)

-- `explain -`
explain_passes : Passes (codes "cueplayer" ∷ codes "explain" ∷ codes "-" ∷ [])
unfolding clap_on_literals
explain_passes = refl

explain_job : job_of (codes "cueplayer" ∷ codes "explain" ∷ codes "-" ∷ [])
    ≡ Some (Explain (codes "-"))
unfolding clap_on_literals
explain_job = refl

-- `cues a.asc`, with more options
abbrev cues_words : List Text → List Text
cues_words more = codes "cueplayer" ∷ codes "cues" ∷ codes "a.asc" ∷ more

cues_passes : Passes (cues_words (codes "--json" ∷ []))
unfolding clap_on_literals
cues_passes = refl

cues_job : (job_of (cues_words []) ≡ Some (Cues (codes "a.asc") false))
    × (job_of (cues_words (codes "--json" ∷ [])) ≡ Some (Cues (codes "a.asc") true))
unfolding clap_on_literals
cues_job = (refl, refl)

look_passes : Passes (look_words (codes "1"))
unfolding clap_on_literals
look_passes = refl

look_job : job_of (look_words (codes "1")) ≡ Some (Look (codes "-") 1000
    (192 ∷ 255 ∷ 238 ∷ 0 ∷ 0 ∷ 0 ∷ 64 ∷ 0 ∷ 128 ∷ 0 ∷ 0 ∷ 0 ∷ 0 ∷ 0 ∷ 225 ∷ 49 ∷ []))
unfolding clap_on_literals uuid_on_literals
look_job = refl

-- `slots a.asc CUE`, with more options
abbrev slots_words : Text → List Text → List Text
slots_words cue more = codes "cueplayer" ∷ codes "slots" ∷ codes "a.asc" ∷ cue ∷ more

slots_passes : Passes (slots_words (codes "1.5") [])
unfolding clap_on_literals
slots_passes = refl

slots_job : (job_of (slots_words (codes "1.5") []) ≡ Some (Slots (codes "a.asc") 1500 1))
    × (job_of (slots_words (codes ".25") (codes "--base" ∷ codes "63999" ∷ []))
    ≡ Some (Slots (codes "a.asc") 250 63999))
    × (job_of (slots_words (codes "1") (codes "--base" ∷ codes "0" ∷ [])) ≡ None)
unfolding clap_on_literals
slots_job = (refl, refl, refl)

unfit_passes : Passes (look_words (codes "x"))
unfolding clap_on_literals
unfit_passes = refl

unfit_job : job_of (look_words (codes "x")) ≡ None
unfolding clap_on_literals uuid_on_literals
unfit_job = refl

not_taken : takes program (short_words (codes "1")) ≡ false
unfolding clap_on_literals
not_taken = refl

missing : fault_of program (short_words (codes "x")) ≡ MissingRequiredArgument ∷ []
unfolding clap_on_literals
missing = refl

listen_passes : Passes (listen_words (codes "127.0.0.1:5000") (codes "1"))
unfolding clap_on_literals
listen_passes = refl

listen_job : job_of (listen_words (codes "127.0.0.1:5000") (codes "1"))
    ≡ Some (Listen (127 ∷ 0 ∷ 0 ∷ 1 ∷ [], 5000) 1 3)
unfolding clap_on_literals
listen_job = refl

listen_default_port : job_of (listen_words (codes "239.255.0.1") (codes "63999"))
    ≡ Some (Listen (239 ∷ 255 ∷ 0 ∷ 1 ∷ [], 5568) 63999 3)
unfolding clap_on_literals
listen_default_port = refl

listen_unfit_job : job_of (listen_words (codes "127.0.0.1:") (codes "1")) ≡ None
unfolding clap_on_literals
listen_unfit_job = refl

-- `LINE a.asc --to ADDR --cid CID`, with more options
abbrev sending_words : Text → Text → List Text → List Text
sending_words line address more = codes "cueplayer" ∷ line ∷ codes "a.asc" ∷ codes "--to" ∷ address
    ∷ codes "--cid" ∷ codes "c0ffee00-0000-4000-8000-00000000e131" ∷ more

abbrev play_words : Text → List Text → List Text
play_words = sending_words (codes "play")

abbrev cid : List ℕ
cid = 192 ∷ 255 ∷ 238 ∷ 0 ∷ 0 ∷ 0 ∷ 64 ∷ 0 ∷ 128 ∷ 0 ∷ 0 ∷ 0 ∷ 0 ∷ 0 ∷ 225 ∷ 49 ∷ []

-- a target at a host and a port
abbrev target : Option Universes → List ℕ → ℕ → Target
target universes host port = record {
  universes = universes;
  address = record { host = host; port = port };
}

-- a night of `a.asc`, sent by this CID
abbrev night : List ℕ × ℕ → ℕ → ℕ → Night
night to priority base = record {
  show = codes "a.asc";
  targets = target None to.0 to.1 ∷ [];
  cid = cid;
  priority = priority;
  base = base;
  interface = None;
  any_route = false;
  name = None;
  ttl = 1;
}

play_passes : Passes (play_words (codes "127.0.0.1") [])
unfolding clap_on_literals
play_passes = refl

play_job : job_of (play_words (codes "127.0.0.1") [])
    ≡ Some (Play (codes "a.asc") (127 ∷ 0 ∷ 0 ∷ 1 ∷ [], 5568) cid 100 1)
unfolding clap_on_literals uuid_on_literals
play_job = refl

play_options : job_of (play_words (codes "10.0.0.9:5000")
    (codes "--base" ∷ codes "63999" ∷ codes "--priority" ∷ codes "200" ∷ []))
    ≡ Some (Play (codes "a.asc") (10 ∷ 0 ∷ 0 ∷ 9 ∷ [], 5000) cid 200 63999)
unfolding clap_on_literals uuid_on_literals
play_options = refl

-- three targets, a card, any route to it, a name and a TTL
play_by_card : job_of
    (play_words (codes "239.255.0.0") (codes "--to" ∷ codes "3=10.0.0.7" ∷ codes "--to"
    ∷ codes "1-8=10.0.0.5:5569" ∷ codes "--interface" ∷ codes "eth0" ∷ codes "--any-route"
    ∷ codes "--name" ∷ codes "main" ∷ codes "--ttl" ∷ codes "255" ∷ []))
    ≡ Some (PlayNight (record (night (239 ∷ 255 ∷ 0 ∷ 0 ∷ [], 5568) 100 1) {
      targets = target None (239 ∷ 255 ∷ 0 ∷ 0 ∷ []) 5568
          ∷ target (Some record { first = 3; last = 3 }) (10 ∷ 0 ∷ 0 ∷ 7 ∷ []) 5568
          ∷ target (Some record { first = 1; last = 8 }) (10 ∷ 0 ∷ 0 ∷ 5 ∷ []) 5569 ∷ [];
      interface = Some (codes "eth0");
      any_route = true;
      name = Some (codes "main");
      ttl = 255;
    }))
unfolding clap_on_literals uuid_on_literals
play_by_card = refl

-- one target, for one universe
play_to_one_universe : job_of (play_words (codes "3=10.0.0.7") [])
    ≡ Some (PlayNight (record (night (10 ∷ 0 ∷ 0 ∷ 7 ∷ [], 5568) 100 1) {
      targets = target (Some record { first = 3; last = 3 }) (10 ∷ 0 ∷ 0 ∷ 7 ∷ []) 5568 ∷ [];
    }))
unfolding clap_on_literals uuid_on_literals
play_to_one_universe = refl

-- a TTL of its own
play_with_ttl : job_of (play_words (codes "127.0.0.1") (codes "--ttl" ∷ codes "2" ∷ []))
    ≡ Some (PlayNight (record (night (127 ∷ 0 ∷ 0 ∷ 1 ∷ [], 5568) 100 1) { ttl = 2 }))
unfolding clap_on_literals uuid_on_literals
play_with_ttl = refl

second_target_told : words_misfit
    (play_words (codes "10.0.0.7") (codes "--to" ∷ codes "8-1=10.0.0.7" ∷ []))
    ≡ Some (codes "to", TargetForm, codes "8-1=10.0.0.7")
unfolding clap_on_literals uuid_on_literals
second_target_told = refl

lone_any_route_told : words_misfit (play_words (codes "10.0.0.7") (codes "--any-route" ∷ []))
    ≡ Some (codes "any-route", ByCard, codes "true")
unfolding clap_on_literals uuid_on_literals
lone_any_route_told = refl

play_unfit_job : job_of (play_words (codes "127.0.0.1") (codes "--priority" ∷ codes "201" ∷ []))
    ≡ None
unfolding clap_on_literals uuid_on_literals
play_unfit_job = refl

-- `live` without options of its own
abbrev no_options : LiveOptions
no_options = record {
  record_file = None;
  resumes = false;
  is_spare = false;
  start = None;
  main_file = None;
  patience = 1000;
  ends_with_input = false;
}

live_passes : Passes (sending_words (codes "live") (codes "127.0.0.1") [])
unfolding clap_on_literals
live_passes = refl

live_job : job_of (sending_words (codes "live") (codes "127.0.0.1") [])
    ≡ Some (Live (night (127 ∷ 0 ∷ 0 ∷ 1 ∷ [], 5568) 100 1) no_options)
unfolding clap_on_literals uuid_on_literals
live_job = refl

live_recorded : job_of (sending_words (codes "live") (codes "127.0.0.1:9")
    (codes "--record" ∷ codes "b.play" ∷ codes "--priority" ∷ codes "150" ∷ []))
    ≡ Some (Live (night (127 ∷ 0 ∷ 0 ∷ 1 ∷ [], 9) 150 1)
    (record no_options { record_file = Some (codes "b.play") }))
unfolding clap_on_literals uuid_on_literals
live_recorded = refl

live_ends : job_of (sending_words (codes "live") (codes "127.0.0.1:9")
    (codes "--end-with-input" ∷ codes "--record" ∷ codes "b.play" ∷ []))
    ≡ Some (Live (night (127 ∷ 0 ∷ 0 ∷ 1 ∷ [], 9) 100 1)
    (record no_options { record_file = Some (codes "b.play"); ends_with_input = true }))
unfolding clap_on_literals uuid_on_literals
live_ends = refl

live_resumes : job_of (sending_words (codes "live") (codes "127.0.0.1:9")
    (codes "--record" ∷ codes "b.play" ∷ codes "--resume" ∷ codes "--start" ∷ codes "2.5" ∷ []))
    ≡ Some (Live (night (127 ∷ 0 ∷ 0 ∷ 1 ∷ [], 9) 100 1)
    (record no_options { record_file = Some (codes "b.play"); resumes = true; start = Some 2500 }))
unfolding clap_on_literals uuid_on_literals
live_resumes = refl

live_lone_resume : job_of (sending_words (codes "live") (codes "127.0.0.1:9")
    (codes "--resume" ∷ [])) ≡ None
unfolding clap_on_literals uuid_on_literals
live_lone_resume = refl

lone_resume_told : words_misfit (sending_words (codes "live") (codes "127.0.0.1:9")
    (codes "--resume" ∷ codes "--start" ∷ codes "0" ∷ []))
    ≡ Some (codes "resume", Recorded, codes "true")
unfolding clap_on_literals uuid_on_literals
lone_resume_told = refl

live_spare : job_of (sending_words (codes "live") (codes "127.0.0.1:9")
    (codes "--record" ∷ codes "b.play" ∷ codes "--resume" ∷ codes "--spare" ∷ []))
    ≡ Some (Live (night (127 ∷ 0 ∷ 0 ∷ 1 ∷ [], 9) 100 1)
    (record no_options { record_file = Some (codes "b.play"); resumes = true; is_spare = true }))
unfolding clap_on_literals uuid_on_literals
live_spare = refl

lone_spare_told : words_misfit (sending_words (codes "live") (codes "127.0.0.1:9")
    (codes "--record" ∷ codes "b.play" ∷ codes "--spare" ∷ []))
    ≡ Some (codes "spare", Resumed, codes "true")
unfolding clap_on_literals uuid_on_literals
lone_spare_told = refl

live_follows : job_of (sending_words (codes "live") (codes "127.0.0.1:9")
    (codes "--follow" ∷ codes "b.play" ∷ codes "--patience" ∷ codes "060000" ∷ []))
    ≡ Some (Live (night (127 ∷ 0 ∷ 0 ∷ 1 ∷ [], 9) 100 1)
    (record no_options { main_file = Some (codes "b.play"); patience = 60000 }))
unfolding clap_on_literals uuid_on_literals
live_follows = refl

live_follows_anew : job_of (sending_words (codes "live") (codes "127.0.0.1:9")
    (codes "--start" ∷ codes "1" ∷ codes "--follow" ∷ codes "b.play" ∷ [])) ≡ None
unfolding clap_on_literals uuid_on_literals
live_follows_anew = refl

following_anew_told : words_misfit (sending_words (codes "live") (codes "127.0.0.1:9")
    (codes "--start" ∷ codes "1" ∷ codes "--follow" ∷ codes "b.play" ∷ codes "--patience"
    ∷ codes "0" ∷ [])) ≡ Some (codes "follow", Alone, codes "b.play")
unfolding clap_on_literals uuid_on_literals
following_anew_told = refl

lone_patience_told : words_misfit (sending_words (codes "live") (codes "127.0.0.1:9")
    (codes "--patience" ∷ codes "100" ∷ [])) ≡ Some (codes "patience", Followed, codes "100")
unfolding clap_on_literals uuid_on_literals
lone_patience_told = refl

no_patience_told : words_misfit (sending_words (codes "live") (codes "127.0.0.1:9")
    (codes "--follow" ∷ codes "b.play" ∷ codes "--patience" ∷ codes "60001" ∷ []))
    ≡ Some (codes "patience", Patience, codes "60001")
unfolding clap_on_literals uuid_on_literals
no_patience_told = refl

-- `rehearse a.asc b.script`
abbrev rehearse_words : List Text
rehearse_words =
    codes "cueplayer" ∷ codes "rehearse" ∷ codes "a.asc" ∷ codes "b.script" ∷ []

rehearse_passes : Passes rehearse_words
unfolding clap_on_literals
rehearse_passes = refl

rehearse_job : job_of rehearse_words ≡ Some (Rehearse (codes "a.asc") (codes "b.script"))
unfolding clap_on_literals
rehearse_job = refl

-- `watch`, and these words behind it
abbrev watch_words : List Text → List Text
watch_words more = codes "cueplayer" ∷ codes "watch" ∷ more

-- 17 universes, the last of them one that stands before
abbrev seventeen : List Text
seventeen = codes "1" ∷ codes "2" ∷ codes "3" ∷ codes "4" ∷ codes "5" ∷ codes "6" ∷ codes "7"
    ∷ codes "8" ∷ codes "9" ∷ codes "10" ∷ codes "11" ∷ codes "12" ∷ codes "13" ∷ codes "14"
    ∷ codes "15" ∷ codes "16" ∷ codes "1" ∷ []

watch_passes : Passes (watch_words (codes "1" ∷ codes "2" ∷ []))
unfolding clap_on_literals
watch_passes = refl

watch_job : job_of (watch_words (codes "63999" ∷ codes "01" ∷ codes "2" ∷ []))
    ≡ Some (Watch (63999 ∷ 1 ∷ 2 ∷ []))
unfolding clap_on_literals
watch_job = refl

nothing_watched : fault_of program (watch_words []) ≡ MissingRequiredArgument ∷ []
unfolding clap_on_literals
nothing_watched = refl

watched_told : (words_misfit (watch_words (codes "1" ∷ codes "64000" ∷ codes "1" ∷ []))
    ≡ Some (codes "UNIVERSE", Universe, codes "64000"))
    × (words_misfit (watch_words (codes "0" ∷ [])) ≡ Some (codes "UNIVERSE", Universe, codes "0"))
    × (words_misfit (watch_words (codes "7" ∷ codes "8" ∷ codes "07" ∷ []))
    ≡ Some (codes "UNIVERSE", Once, codes "07"))
    × (words_misfit (watch_words seventeen) ≡ Some (codes "UNIVERSE", Sixteen, codes "1"))
unfolding clap_on_literals
watched_told = (refl, refl, refl, refl)

-- the forms of an address
addresses : (address_of (codes "127.000.000.001:0") ≡ Some (127 ∷ 0 ∷ 0 ∷ 1 ∷ [], 0))
    × (address_of (codes "255.255.255.255:65535") ≡ Some (255 ∷ 255 ∷ 255 ∷ 255 ∷ [], 65535))
addresses = (refl, refl)

no_addresses : (address_of (codes "127.0.0.1:") ≡ None)
    × (address_of (codes "127.0.0.1:65536") ≡ None)
    × (address_of (codes "127.0.0.256") ≡ None)
    × (address_of (codes "127.0.1") ≡ None)
    × (address_of (codes "127.0.0.0.1") ≡ None)
    × (address_of (codes "127.0.0.1:1:1") ≡ None)
    × (address_of (codes "127.0.0.0000000001") ≡ None)
    × (address_of (codes "localhost") ≡ None)
no_addresses = (refl, refl, refl, refl, refl, refl, refl, refl)

-- the forms of a target
targets : (target_of (codes "63999=10.0.0.7")
    ≡ Some (target (Some record { first = 63999; last = 63999 }) (10 ∷ 0 ∷ 0 ∷ 7 ∷ []) 5568))
    × (target_of (codes "7-7=10.0.0.7:1")
    ≡ Some (target (Some record { first = 7; last = 7 }) (10 ∷ 0 ∷ 0 ∷ 7 ∷ []) 1))
targets = (refl, refl)

no_targets : (target_of (codes "0=10.0.0.7") ≡ None)
    × (target_of (codes "64000=10.0.0.7") ≡ None)
    × (target_of (codes "3-2=10.0.0.7") ≡ None)
    × (target_of (codes "1-2-3=10.0.0.7") ≡ None)
    × (target_of (codes "-2=10.0.0.7") ≡ None)
    × (target_of (codes "=10.0.0.7") ≡ None)
    × (target_of (codes "1=2=10.0.0.7") ≡ None)
    × (target_of (codes "10.0.0.7=1") ≡ None)
no_targets = (refl, refl, refl, refl, refl, refl, refl, refl)

numbers : (number_between 1 63999 (codes "63999") ≡ Some 63999)
    × (number_between 1 63999 (codes "64000") ≡ None)
    × (number_between 1 63999 (codes "0") ≡ None)
    × (number_between 1 1000000 (codes "001000000") ≡ Some 1000000)
numbers = (refl, refl, refl, refl)
