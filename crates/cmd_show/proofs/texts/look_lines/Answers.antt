use Rattle.std.proofs.Common.{◌≡◌, ◌++◌, ◌∷◌, []}
use Rattle.hex.specs.Hex.{encode_lower}
use Rattle.cmd_show.proofs.Packets.{line_added}
use Rattle.cmd_show.proofs.texts.look_lines.Goals as goal

pub loop-ordinal-preserved : goal.loop-ordinal-preserved
loop-ordinal-preserved c =
    let packet = c.look_packet-packet.result in
    let text = c.loop-ordinal.text.items in
    let longer = c.push.new.self.items in
    let added : longer ≡ (text ++ encode_lower packet) ++ 10 ∷ [] = cc (
      c.in_ok-push.ensures.items,
      c.in_ok-extend_from_slice.ensures.items,
      c.as_bytes.ensures.value,
      c.in_ok-digits.ensures,
    ) in
    line_added c.args.look.now.levels c.args.show.now.patch c.args.cid
    c.args.ordinals.now c.loop-ordinal.ordinal-index text packet c.cue_slots.result longer
    c.loop-ordinal-test.true c.loop-ordinal.invariant c.look_packet-packet.ensures
    c.cue_slots.ensures added
