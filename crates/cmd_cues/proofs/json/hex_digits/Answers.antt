use Rattle.cmd_cues.proofs.Terms.{rules, encode_with}
use Rattle.cmd_cues.proofs.json.hex_digits.Goals as goal

pub returns : goal.returns
unfolding encode_with
returns c = search rules
