use Rattle.std.proofs.Common.{◌≡◌, drop}
use Rattle.ascii_text.specs.Text.{words_of}
use Rattle.night_files.proofs.lock_list.word_at.Given as goal

abbrev pub invariant-loop : goal.invariant-loop
invariant-loop l = l.words ≡ drop l.counter (words_of l.line)
