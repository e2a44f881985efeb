use Rattle.std.proofs.Common.{◌≡◌, ◌∙◌, ◌++◌, ◌+◌, ℕ, List, ap, arith, length, map, sym, take}
use Rattle.std.proofs.lemmas.List.{take_all, take-map, take_min}
use Rattle.std.proofs.Math.Nat.{min_comm}
use Rattle.std.proofs.Math.Seq.{take-append-add}
use Rattle.cmd_explain.specs.Skipped.{display_byte}
use Rattle.remarks.proofs.remark.push_all.Goals as goal

pub returns : goal.returns
returns c =
    let old : List ℕ = c.args.remark.now.items in
    let bytes : List ℕ = c.args.bytes.now in
    let room = c.remaining_capacity-room.result in
    let i = c.loop-byte.byte-index in
    let told = map display_byte bytes in
    let fitting : List ℕ = take c.min.result bytes in
    let most : length old + room ≡ 512 = omega (arith, c.remaining_capacity-room.ensures) in
    let cut : fitting ≡ take room bytes =
    ap (λ n. take n bytes) (c.min.ensures ∙ min_comm (length bytes) room) ∙ take_min room bytes in
    c.loop-byte.invariant
    ∙ ap (λ l. old ++ map display_byte l)
    (take_all i fitting (omega (arith, c.loop-byte-test.false)) ∙ cut)
    ∙ ap (λ l. old ++ l) (sym (take-map display_byte room bytes))
    ∙ sym (take-append-add old told room) ∙ ap (λ n. take n (old ++ told)) most
