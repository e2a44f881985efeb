use Rattle.live_input.proofs.Terms.{arith, length, drop, ◌-◌, length-take}
use Rattle.live_input.proofs.live.LiveInput.type_again.Goals as goal

pub take_bytes-requires-in-Order : goal.take_bytes-requires-in-Order
take_bytes-requires-in-Order c = record {
  taken = c.requires.taken;
  short =
      let words = drop c.min-words.result c.args.line.now in
      let t = length-take (length c.args.line.now - c.min-words.result) words in
      let s = c.requires.short in
      omega (arith, t, s);
}
