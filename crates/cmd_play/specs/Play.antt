-- A play over a whole input.
use Rattle.std.specs.Prelude.{◌≡◌, ◌⊎◌, ◌≤◌, ◌++◌, ◌∷◌, ℕ, Bool, true, false, List, Result, Ok}
use Rattle.std.specs.Prelude.{Err, Some, None, IsTrue, IsFalse}
use Rattle.devices.specs.Tape.{Tape, with_failure, with_more}
use Rattle.show_line.specs.Said.{desk_limits}
use Rattle.show_reader.specs.Reading.{text_fault}
use Rattle.show_reader.specs.declared.fault.ShowFault.TheVariants as show_fault
use Rattle.show_reader.specs.ItsShow.{OfItsShow}
use Rattle.patch_core.specs.Frame.{is_base}
use Rattle.console.specs.Streams.{Production}
use Rattle.cmd_faults.specs.declared.fault.RunFault.{RunFault}
use Rattle.cmd_faults.specs.declared.fault.RunFault.TheVariants as run
use Rattle.cmd_play.specs.declared.fault.PlayFault.{PlayFault}
use Rattle.cmd_play.specs.declared.fault.PlayFault.TheVariants as early
use Rattle.ascii_text.specs.Lines.{with_last_lf, cut_of}
use Rattle.cmd_play.specs.Lines.{ArePlayLines}
use Rattle.cmd_play.specs.Run.{Emission, Ran}
use Rattle.cmd_play.specs.Stage.{EndsPlay, PlayLeaves}

-- the input was read to its end without a failed read, each of its lines was carried out, and so
-- many packets were lost
pub record PlaysAll (p : Production) (ended : Type 0) (fed feeds : Tape ℕ)
    (before after : Emission) (lost : ℕ)
    : Type 0 where
  pub bytes : List ℕ
  pub read : feeds ≡ with_more fed bytes
  pub at_end : ended
  pub fine : ArePlayLines (cut_of (with_last_lf bytes)).lines
  pub ran : Ran p (cut_of (with_last_lf bytes)).lines before after lost

-- a read failed, and each line that LF had ended before it was carried out
pub record PlayFailsToRead (p : Production) (fault : PlayFault) (fed feeds : Tape ℕ)
    (before after : Emission)
    : Type 0 where
  pub fault_is : fault ≡ early.Device
  pub bytes : List ℕ
  pub read : feeds ≡ with_failure (with_more fed bytes)
  pub fine : ArePlayLines (cut_of bytes).lines
  pub lost : ℕ
  pub ran : Ran p (cut_of bytes).lines before after lost

-- a byte of the input ends the play, no read failed, and each line before was carried out; at the
-- end of the input a last line without LF has one
pub record PlayEndsAtByte (p : Production) (fault : PlayFault) (ended : Type 0) (fed feeds : Tape ℕ)
    (before after : Emission) : Type 0 where
  pub bytes : List ℕ
  pub read : feeds ≡ with_more fed bytes
  pub front : List ℕ
  pub byte : ℕ
  pub rest : List ℕ
  pub bytes_are : (bytes ≡ front ++ byte ∷ rest)
      ⊎ (ended × (with_last_lf bytes ≡ front ++ byte ∷ rest))
  pub fine : ArePlayLines (cut_of front).lines
  pub ends : EndsPlay fault (cut_of front) byte
  pub leaves : PlayLeaves fault p (cut_of front) before after

-- why a play ends early, and what it leaves
abbrev pub PlayEndsEarly : Production → PlayFault → Type 0 → Tape ℕ → Tape ℕ → Emission → Emission
    → Type 0
PlayEndsEarly p fault ended fed feeds before after =
    PlayFailsToRead p fault fed feeds before after
    ⊎ PlayEndsAtByte p fault ended fed feeds before after

-- a play, by its answer
abbrev pub Plays : {X : Type 0} → Production → Result X RunFault → Type 0 → Tape ℕ → Tape ℕ
    → Emission → Emission → Type 0
Plays p (Ok x) ended fed feeds before after = PlaysAll p ended fed feeds before after 0
Plays p (Err (run.Lost n)) ended fed feeds before after =
    (1 ≤ n) × PlaysAll p ended fed feeds before after n
Plays p (Err (run.Line n)) ended fed feeds before after =
    PlayEndsEarly p (early.Line n) ended fed feeds before after
Plays p (Err run.Device) ended fed feeds before after =
    PlayEndsEarly p early.Device ended fed feeds before after
Plays p (Err _) ended fed feeds before after = ⊥

-- the answers of a play that took its input
abbrev pub has_begun : {X : Type 0} → Result X RunFault → Bool
has_begun (Ok x) = true
has_begun (Err (run.Lost n)) = true
has_begun (Err (run.Line n)) = true
has_begun (Err run.Device) = true
has_begun (Err _) = false

-- whether a play begins: its show has no fault and its universes have numbers; or why not. Want of
-- memory may come in place of any other reason, and no other fault comes
abbrev pub PlayBegins : {X : Type 0} → Result X RunFault → List ℕ → ℕ → Type 0
PlayBegins (Err (run.Show show_fault.Memory)) show base = ⊥
PlayBegins (Err (run.Show f)) show base = text_fault desk_limits show ≡ Some f
PlayBegins (Err run.Base) show base =
    (text_fault desk_limits show ≡ None) × OfItsShow show (λ s. IsFalse (is_base s.patch base))
PlayBegins (Err run.Memory) show base = Unit {0}
PlayBegins (Err run.NoCue) show base = ⊥
PlayBegins (Err run.Script) show base = ⊥
PlayBegins (Err (run.Setup f)) show base = ⊥
PlayBegins _ show base =
    (text_fault desk_limits show ≡ None) × OfItsShow show (λ s. IsTrue (is_base s.patch base))
