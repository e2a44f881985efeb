-- Lines that a night tells, evaluated: the texts are those of the tests of the program.
use Rattle.std.specs.Prelude.{◌≡◌, [], ◌∷◌, refl, codes, Some, None}
use Rattle.std.specs.Fmt.{digits}
use Rattle.night_lines.specs.Clock.{clock_text}
use Rattle.night_lines.specs.Contents.{contents_line, doubts_text}
use Rattle.night_lines.specs.Records.{place_text}
use Rattle.night_lines.specs.Targets.{target_line, targets_text}
use Rattle.night_lines.specs.Routes.{no_route_line}
use Rattle.night_lines.specs.Notices.{silent_text}

clocks : (clock_text 3723999 ≡ codes "1:02:03") × (clock_text 999 ≡ codes "0:00:00")
    × (clock_text 360000000 ≡ codes "100:00:00")
unfolding digits
clocks = (refl, refl, refl)

contents : contents_line (record { cues = 2; subs = 1; groups = 0; dimmers = 2 }) 0 0
    ≡ codes "show: 2 cues, 1 submaster, 0 groups, 2 dimmers\n"
unfolding digits
contents = refl

doubts : (doubts_text 0 0 ≡ codes "")
    × (doubts_text 1 1 ≡ codes "; 1 line skipped, 1 note of weight: see cueplayer explain")
    × (doubts_text 0 2 ≡ codes "; 2 notes of weight: see cueplayer explain")
unfolding digits
doubts = (refl, refl, refl)

places : (place_text (record { moment = 5000; cue = Some 2500 })
    ≡ codes "0:00:05 of the night, cue 2.5")
    × (place_text (record { moment = 0; cue = None })
    ≡ codes "0:00:00 of the night, before its first cue")
unfolding digits
places = (refl, refl)

-- the targets of a night are told one by one unless there is one for all universes
targets : (target_line (record {
  universes = Some (record { first = 1; last = 2 });
  address = record { host = 127 ∷ 0 ∷ 0 ∷ 2 ∷ []; port = 5568 };
})
    ≡ codes "target: universes 1-2 to 127.0.0.2:5568\n")
    × (targets_text ((record {
      universes = None;
      address = record { host = 239 ∷ 255 ∷ 0 ∷ 0 ∷ []; port = 6000 };
    }) ∷ [])
    ≡ codes " to 239.255.0.0:6000 (multicast)")
unfolding digits
targets = (refl, refl)

routes : no_route_line (10 ∷ 0 ∷ 0 ∷ 7 ∷ [])
    ≡ codes "no route to 10.0.0.7: nodes get nothing until there is one\n"
unfolding digits
routes = refl

-- a gateway that does not answer is told as one
answers : (silent_text (10 ∷ 101 ∷ 2 ∷ 77 ∷ []) None
    ≡ codes "no answer from 10.101.2.77: nothing has that address; check the node and --to")
    × (silent_text (10 ∷ 0 ∷ 0 ∷ 7 ∷ []) (Some (10 ∷ 101 ∷ 2 ∷ 254 ∷ []))
    ≡ codes "no answer from 10.101.2.254: nothing has that address; check the gateway to 10.0.0.7")
unfolding digits
answers = (refl, refl)
