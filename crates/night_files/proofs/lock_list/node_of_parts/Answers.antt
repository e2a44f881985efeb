use Rattle.std.proofs.Common.{rules}
use mathlib.Core.List.{append_assoc}
use Rattle.night_files.proofs.lock_list.node_of_parts.Goals as goal

pub returns : goal.returns
returns c = search (rules, append_assoc)
