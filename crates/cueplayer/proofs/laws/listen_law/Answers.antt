use Rattle.cueplayer.proofs.Listening.{listen_law, play_to_listen}
use Rattle.cueplayer.proofs.laws.listen_law.Goals as goal

pub returns-clause-text : goal.returns-clause-text
returns-clause-text c = listen_law

pub returns-clause-programs : goal.returns-clause-programs
returns-clause-programs c = play_to_listen
