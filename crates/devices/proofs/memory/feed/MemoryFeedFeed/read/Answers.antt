use Rattle.std.proofs.Common.{◌≡◌, ℕ, ◌+◌, ◌-◌, List, ◌++◌, length, take, drop, ap, sym, ◌∙◌, arith}
use Rattle.std.proofs.Math.Seq.{take-add}
use Rattle.std.proofs.lemmas.List.{take_at}
use Rattle.std.proofs.lemmas.Grind.{common_steps}
use Rattle.devices.specs.Tape.{Tape}
use Rattle.devices.proofs.memory.feed.MemoryFeedFeed.read.Goals as goal

abbrev tape_of : List ℕ → ℕ → Tape ℕ
tape_of items failures = record { items = items; failures = failures }

-- the bytes that were given, with those at the front of the buffer
given_more : (bytes front behind : List ℕ) (next count : ℕ)
    → length front ≡ count → front ≡ take ((next + count) - next) (drop next bytes)
    → take (next + count) bytes ≡ take next bytes ++ take count (front ++ behind)
given_more bytes front behind next count long is =
    let much : (next + count) - next ≡ count = omega arith in
    take-add next count bytes
    ∙ ap (λ xs. take next bytes ++ xs)
    (sym (take_at front behind count long ∙ is ∙ ap (λ n. take n (drop next bytes)) much))

tapes_same : {items more : List ℕ} {failures fails : ℕ} → items ≡ more → failures ≡ fails
    → tape_of items failures ≡ tape_of more fails
tapes_same {items} {more} {failures} {fails} same counted = cc

pub returns-clause-ok : goal.returns-clause-ok
returns-clause-ok c = λ _.
    let n = c.min-count.result in
    let copied = c.copy_from_slice.ensures in
    let long : length c.copy_from_slice.new.self ≡ n = grind (arith, common_steps) in
    tapes_same (given_more c.args.self.now.bytes.now c.copy_from_slice.new.self _
    c.args.self.now.next n long copied.after)
    (rw (← c.in_ok-count.ensures.fails) at c.in_ok-count.ensures.counts.failed)
