-- Printed texts, evaluated.
use Rattle.std.specs.Prelude.{◌≡◌, refl, codes, ◌∷◌, replicate}
use Rattle.std.specs.Fmt.{digits}
use Rattle.cmd_show.specs.Texts.{counts_line}
use Rattle.cmd_show.specs.Slots.{universe_lines}

empty_show : counts_line 0 0 0 0 0 0 ≡ codes "lines 0 cues 0 subs 0 groups 0 dimmers 0 skipped 0\n"
unfolding digits
empty_show = refl

skipped_lines : counts_line 8 1 0 0 0 5
    ≡ codes "lines 8 cues 1 subs 0 groups 0 dimmers 0 skipped 5\n"
unfolding digits
skipped_lines = refl

console_style_file : counts_line 12 1 0 0 2 1
    ≡ codes "lines 12 cues 1 subs 0 groups 0 dimmers 2 skipped 1\n"
unfolding digits
console_style_file = refl

universe_of_look_one : universe_lines 7 (64 ∷ replicate 511 0) ≡ codes "universe 7\nslots 1:64\n"
unfolding digits
universe_of_look_one = refl
