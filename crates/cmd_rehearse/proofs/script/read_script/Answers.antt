use Rattle.std.proofs.Common.{◌≡◌, ℕ, ◌+◌, ◌≤◌, List, ◌∷◌, length, refl, sym, ap, subst, ◌∙◌}
use Rattle.std.proofs.Common.{arith, inl}
use Rattle.std.specs.Prelude.{Err}
use Rattle.std.proofs.lemmas.Result.{err_from_is_err_and}
use Rattle.cmd_rehearse.specs.declared.script.ScriptFault.{ScriptFault}
use Rattle.cmd_rehearse.specs.declared.script.ScriptFault.TheVariants.{Line, Memory}
use Rattle.std.proofs.lemmas.Grind.{common_steps}
use Rattle.ascii_text.specs.Text.{lines_of, numbered_from}
use Rattle.cmd_rehearse.specs.Script.{Parts, parts, no_parts, script_of, read_below, first_words}
use Rattle.cmd_rehearse.specs.Script.{with_said, said_below, ExplainsScript, ExplainsLine}
use Rattle.cmd_rehearse.proofs.Sizes.{line_sizes, text-size}
use Rattle.cmd_rehearse.proofs.Reading.{AreSound, Begun, begun_on, begun_stops, read_on, read_stops}
use Rattle.cmd_rehearse.proofs.Reading.{sound_below, few_more, sound_none}
use Rattle.cmd_rehearse.proofs.script.read_script.Goals as goal

-- why a line was not taken is why the text gives no script
explained : (text : List ℕ) (p : Parts) (line : ℕ × List ℕ) (rest : List (ℕ × List ℕ))
    (fault : ScriptFault) → script_of text ≡ read_below p (line ∷ rest)
    → Begun (first_words (numbered_from 1 (lines_of text))) p (line ∷ rest)
    → ExplainsLine p line.0 line.1 fault → ExplainsScript text fault
explained text p line rest (Line n) means begun h =
    means ∙ read_stops p line rest h.1 ∙ ap Err (sym h.0)
explained text p line rest Memory means begun h =
    begun_stops (first_words (numbered_from 1 (lines_of text))) p line rest begun h

pub loop-line-init : goal.loop-line-init
loop-line-init c =
    let text = c.args.text.now in
    let given : c.into_iter-line-iterator.result ≡ numbered_from 1 (lines_of text)
    = grind (arith, common_steps) in
    let none : parts c.new-script.result ≡ no_parts = c.new-script.ensures in
    let empty : length c.new-script.result.strays.items ≡ 0
    = ap (λ (p : Parts). length p.strays) none in
    record {
      means = rw (none, given) refl;
      room = rw given (omega (arith, empty, text-size 1 text));
      sound = subst AreSound (sym none) sound_none;
      begun = rw given (inl (none, refl));
    }

pub loop-line-preserved : goal.loop-line-preserved
loop-line-preserved c =
    let line : ℕ × List ℕ = (c.in-Some.line.number, c.in-Some.line.bytes.now) in
    let rest = c.next.new.self in
    let p = parts c.loop-line.script in
    let front : c.loop-line.line-iterator ≡ line ∷ rest = c.in-Some.ensures.steps in
    let more : parts c.take.new.self ≡ with_said p line.0 (said_below p line.1)
    = c.in_ok-take.ensures.more in
    let sound = c.in_ok-take.ensures.sound in
    let size = few_more p line.0 line.1 in
    let now : length c.take.new.self.strays.items
    ≡ length (with_said p line.0 (said_below p line.1)).strays
    = ap (λ (q : Parts). length q.strays) more in
    let room : length c.loop-line.script.strays.items + line_sizes (line ∷ rest)
    ≤ length c.args.text.now
    = subst (λ ls. length c.loop-line.script.strays.items + line_sizes ls ≤ length c.args.text.now)
    front c.loop-line.invariant.room in
    let first = first_words (numbered_from 1 (lines_of c.args.text.now)) in
    record {
      means = c.loop-line.invariant.means ∙ ap (read_below p) front ∙ read_on p line rest sound
          ∙ ap (λ q. read_below q rest) (sym more);
      room = omega (arith, room, size, now);
      sound = subst AreSound (sym more) (sound_below p line.0 line.1 c.loop-line.invariant.sound);
      begun = subst (λ q. Begun first q rest) (sym more) (begun_on first p line rest
          (subst (Begun first p) front c.loop-line.invariant.begun) sound);
    }

pub take-requires : goal.take-requires
take-requires c =
    let line : ℕ × List ℕ = (c.in-Some.line.number, c.in-Some.line.bytes.now) in
    let front : c.loop-line.line-iterator ≡ line ∷ c.next.new.self = c.in-Some.ensures.steps in
    let room : length c.loop-line.script.strays.items + line_sizes (line ∷ c.next.new.self)
    ≤ length c.args.text.now
    = subst (λ ls. length c.loop-line.script.strays.items + line_sizes ls ≤ length c.args.text.now)
    front c.loop-line.invariant.room in
    omega (arith, room, c.requires)

pub returns-in_err-take-clause-fault : goal.returns-in_err-take-clause-fault
returns-in_err-take-clause-fault c =
    let line : ℕ × List ℕ = (c.in-Some.line.number, c.in-Some.line.bytes.now) in
    let rest = c.next.new.self in
    let p = parts c.loop-line.script in
    let front : c.loop-line.line-iterator ≡ line ∷ rest = c.in-Some.ensures.steps in
    let first = first_words (numbered_from 1 (lines_of c.args.text.now)) in
    let means = c.loop-line.invariant.means ∙ ap (read_below p) front in
    let begun = subst (Begun first p) front c.loop-line.invariant.begun in
    let r = err_from_is_err_and c.from_residual.result c.from_residual.ensures.1 in
    rw (r.1, r.2) (explained c.args.text.now p line rest c.in_err-take.field-0.0 means begun
    c.in_err-take.ensures.fault)

pub returns-clause-strays : goal.returns-clause-strays
returns-clause-strays c = c.loop-line.invariant.sound.within

pub returns-clause-lines : goal.returns-clause-lines
returns-clause-lines c = c.loop-line.invariant.sound.counted
