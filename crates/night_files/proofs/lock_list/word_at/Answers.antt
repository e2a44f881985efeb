use Rattle.std.proofs.Common.{◌∙◌, ap, drop}
use Rattle.std.proofs.Math.Seq.{drop-drop}
use Rattle.ascii_text.specs.Text.{words_of}
use Rattle.night_files.proofs.lock_list.word_at.Goals as goal

pub loop-preserved : goal.loop-preserved
loop-preserved c = c.skip_word.ensures ∙ ap (drop 1) c.loop.invariant
    ∙ drop-drop 1 c.loop.counter (words_of c.args.line.now)
