use Rattle.clap.specs.Words.{found_of, rows_of}
use Rattle.cmd_words.proofs.Refusals.{night_refused}
use Rattle.cmd_words.proofs.read.read_live.Goals as goal

pub returns-in-Err : goal.returns-in-Err
returns-in-Err c =
    night_refused (rows_of (found_of c.args.matches.now)) c.in-Err.fault c.in-Err.ensures.night
