use Rattle.std.proofs.Common.{◌≡◌, ◌∙◌, length, ap, arith}
use Rattle.uuid.proofs.TextLemmas.{by_index_length}
use Rattle.night_record.proofs.head.push_cid.Goals as goal

pub push-requires : goal.push-requires
push-requires c =
    let long : length c.as_bytes.result.now ≡ 36 =
    ap length (c.as_bytes.ensures.value ∙ c.encode_lower-text.ensures.text)
    ∙ by_index_length 36 _ in
    omega (arith, long, c.requires)

pub returns-clause-room : goal.returns-clause-room
returns-clause-room c =
    let long : length c.as_bytes.result.now ≡ 36 =
    ap length (c.as_bytes.ensures.value ∙ c.encode_lower-text.ensures.text)
    ∙ by_index_length 36 _ in
    omega (arith, long, c.push.ensures.room)
