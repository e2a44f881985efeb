use Rattle.show_line.proofs.Terms.{sym, subst, words_of, may_own, desk_limits, IsSound}
use Rattle.show_line.proofs.Ranged.{said_is, said_sound}
use Rattle.show_line.proofs.line.read_line.Goals as goal

pub returns-clause-sound : goal.returns-clause-sound
returns-clause-sound c =
    let keyword = c.keyword_of-keyword.result in
    subst IsSound (sym c.statement.ensures) (said_sound c.args.owner (may_own keyword) _
    (said_is desk_limits c.args.owner keyword (words_of c.rest.result.now)))
