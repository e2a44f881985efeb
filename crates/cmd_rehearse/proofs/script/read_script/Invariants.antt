use Rattle.std.proofs.Common.{◌≡◌, ◌+◌, ◌≤◌, length}
use Rattle.ascii_text.specs.LinesLeft.{lines_left}
use Rattle.ascii_text.specs.Text.{lines_of, numbered_from}
use Rattle.cmd_rehearse.specs.Script.{parts, script_of, read_below, first_words}
use Rattle.cmd_rehearse.proofs.Sizes.{line_sizes}
use Rattle.cmd_rehearse.proofs.Reading.{AreSound, Begun}
use Rattle.cmd_rehearse.proofs.script.read_script.Given as goal

-- the lines that are left make the script of those so far what the text means
abbrev pub invariant-loop-line : goal.invariant-loop-line
invariant-loop-line l = record {
  means : script_of l.text ≡ read_below (parts l.script) (lines_left l.line-iterator);
  room : length l.script.strays.items + line_sizes (lines_left l.line-iterator) ≤ length l.text;
  sound : AreSound (parts l.script);
  begun : Begun (first_words (numbered_from 1 (lines_of l.text))) (parts l.script)
      (lines_left l.line-iterator);
}
