-- Why a rehearsal begins, or not.
use Rattle.std.proofs.Common.{◌≡◌, ◌⊎◌, inl, inr, ℕ, ◌+◌, ◌≤◌, ◌<◌, Bool, true, false, not, List}
use Rattle.std.proofs.Common.{[], ◌∷◌, length, Option, Some, None, Result, Ok, Err, IsOkAnd}
use Rattle.std.proofs.Common.{ap, refl, sym, subst, ◌∙◌, arith}
use Rattle.std.specs.Prelude.{◌&&◌, if◌then◌else◌, nat_le, nat_lt, option_map}
use Rattle.std.specs.List.{list_all, range_with_len}
use Rattle.std.specs.Option.{option_or}
use Rattle.std.proofs.lemmas.Bool.Decides.{nat_tests}
use Rattle.std.proofs.lemmas.List.{length-map}
use Rattle.std.proofs.lemmas.List.FromFn.{length-range_with_len}
use Rattle.show_core.specs.Tables.{Tables}
use Rattle.show_line.specs.declared.fault.LineFault.{LineFault}
use Rattle.show_line.specs.declared.fault.LineFault.TheVariants as line
use Rattle.show_line.specs.declared.statement.Statement.{Statement}
use Rattle.show_line.specs.Said.{desk_limits}
use Rattle.show_reader.specs.declared.fault.ShowFault.{ShowFault}
use Rattle.show_reader.specs.declared.fault.ShowFault.TheVariants as show_fault
use Rattle.show_reader.specs.Reading.{fault_at, fault_below, text_fault, first_fault, longest_text}
use Rattle.show_reader.specs.Reading.{NothingGrows}
use Rattle.show_reader.specs.Shows.{IsShowOf}
use Rattle.show_reader.specs.Text.{statements_of}
use Rattle.show_reader.proofs.OneShow.{of_its_show}
use Rattle.cmd_rehearse.specs.Script.{Parts, script_of}
use Rattle.rehearsal_faults.specs.declared.fault.Fault.{Fault}
use Rattle.rehearsal_faults.specs.declared.fault.Fault.TheVariants.{Consoles, Receivers, NoShow}
use Rattle.rehearsal_faults.specs.declared.fault.Fault.TheVariants.{Universe, Memory}
use Rattle.wire_world.specs.declared.setup.Setup.{Setup}
use Rattle.sacn_receiver.specs.Shown.{shown_slots}
use Rattle.wire_world.specs.Happened.{accepted_by}
use Rattle.wire_world.specs.Replies.{events_done, last_event_moment}
use Rattle.wire_world.specs.Promised.{IsPromised}
use Rattle.wire_world.specs.Reported.{IsReportOf, RehearsalReport}
use Rattle.wire_world.specs.Refusing.{AnswersSetup, are_consoles, are_receivers, has_base, has_show}
use Rattle.wire_world.specs.Refusing.{setup_fault}
use Rattle.wire_world.proofs.Refusals.{fine}
use Rattle.cmd_faults.specs.Runs.{of_setup, of_show}
use Rattle.cmd_rehearse.specs.Begins.{IsSetUp, Prevents, longest_script}
use Rattle.cmd_rehearse.specs.Printed.{AreLinesOf, ArePromisedLines, world}
use Rattle.cmd_rehearse.specs.Texts.{rehearsal_lines}

-- ---- the show

-- that memory ran out is no fault of a text
no_line_fault : (n : ℕ) (f : LineFault) → fault_at n f ≡ show_fault.Memory → ⊥
no_line_fault n line.Ident e = cc
no_line_fault n f e = cc

not_at : (n : ℕ) (o : Option LineFault) (above : Option ShowFault)
    → (above ≡ Some show_fault.Memory → ⊥)
    → option_or above (option_map (fault_at n) o) ≡ Some show_fault.Memory → ⊥
not_at n o (Some f) rest e = rest e
not_at n None None rest e = cc
not_at n (Some f) None rest e =
    let same : fault_at n f ≡ show_fault.Memory = cc in no_line_fault n f same

not_below : (ss : List Statement) → first_fault ss ≡ Some show_fault.Memory → ⊥
not_below [] e = cc
not_below (newest ∷ above) e =
    not_at (length above + 1) (fault_below above newest) (first_fault above) (not_below above) e

not_here : (b : Bool) (o : Option ShowFault) → (o ≡ Some show_fault.Memory → ⊥)
    → (if b then Some show_fault.TooLong else o) ≡ Some show_fault.Memory → ⊥
not_here true o rest e = cc
not_here false o rest e = rest e

no_memory_fault : (text : List ℕ) → text_fault desk_limits text ≡ Some show_fault.Memory → ⊥
no_memory_fault text =
    not_here (nat_lt longest_text (length text)) (first_fault (statements_of desk_limits text))
    (not_below (statements_of desk_limits text))

-- the fault that was found, where memory did not run out
found : (text : List ℕ) (fault : ShowFault) → (fault ≡ show_fault.Memory → ⊥)
    → (fault ≡ show_fault.Memory) ⊎ (text_fault desk_limits text ≡ Some fault)
    → text_fault desk_limits text ≡ Some fault
found text fault other (inl memory) = absurd (other memory)
found text fault other (inr is) = is

-- a show that was not read prevents the rehearsal
pub unread : (show script : List ℕ) (fault : ShowFault)
    → (fault ≡ show_fault.Memory) ⊎ (text_fault desk_limits show ≡ Some fault)
    → (NothingGrows desk_limits show → text_fault desk_limits show ≡ Some fault)
    → (1048576 < length show → fault ≡ show_fault.TooLong)
    → Prevents show script (of_show fault)
unread show script show_fault.Memory why sure long =
    let short : 1048576 < length show → ⊥ = λ over. let e = long over in cc in
    inl (omega (arith, short), λ nothing. no_memory_fault show (sure nothing))
unread show script fault why sure long = found show fault (λ e. cc) why

-- ---- the consoles and receivers

-- that memory ran out is no fault of theirs
no_setup_memory : (shows : List Tables) (setups : List Setup) (universes : List ℕ)
    → setup_fault shows setups universes ≡ Some Memory → ⊥
no_setup_memory shows setups universes =
    go (are_consoles (length setups)) (are_receivers universes)
    (list_all (has_show shows) setups) (list_all (has_base shows) setups)
  where
    go : (a b c d : Bool) → (if not a then Some Consoles else (if not b then Some Receivers
        else (if not c then Some NoShow else (if not d then Some Universe else None))))
        ≡ Some Memory → ⊥
    go false b c d e = cc
    go true false c d e = cc
    go true true false d e = cc
    go true true true false e = cc
    go true true true true e = cc

-- what was read of a show and of a script
pub record IsRead (show script : List ℕ) (s : Tables) (p : Parts) : Type 0 where
  pub faultless : text_fault desk_limits show ≡ None
  pub short : length script ≤ longest_script
  pub show_is : IsShowOf (statements_of desk_limits show) s
  pub script_is : script_of script ≡ Ok p

pub is_read : {show script : List ℕ} {s : Tables} {p : Parts} → text_fault desk_limits show ≡ None
    → length script ≤ longest_script → IsShowOf (statements_of desk_limits show) s
    → script_of script ≡ Ok p → IsRead show script s p
is_read faultless short show_is script_is = record {
  faultless = faultless;
  short = short;
  show_is = show_is;
  script_is = script_is;
}

-- of the parts of a script something is known
of_script : (script : List ℕ) (p : Parts) (P : Parts → Type 0) → script_of script ≡ Ok p → P p
    → IsOkAnd (script_of script) P
of_script script p P is known = subst (λ (r : Result Parts ℕ). IsOkAnd r P) (sym is) known

-- their first fault, or none
pub set_up : (show script : List ℕ) (s : Tables) (p : Parts) (fault : Option Fault)
    → IsRead show script s p → setup_fault (s ∷ []) p.consoles p.receivers ≡ fault
    → IsSetUp show script fault
set_up show script s p fault read is = record {
  faultless = read.faultless;
  short = read.short;
  set_up = of_its_show show
      (λ t. IsOkAnd (script_of script) (λ q. setup_fault (t ∷ []) q.consoles q.receivers ≡ fault))
      s read.show_is (of_script script p
      (λ q. setup_fault (s ∷ []) q.consoles q.receivers ≡ fault) read.script_is is);
}

-- the first fault of the consoles and receivers prevents the rehearsal
refused_for : (show script : List ℕ) (s : Tables) (p : Parts) (fault : Fault)
    → IsRead show script s p → setup_fault (s ∷ []) p.consoles p.receivers ≡ Some fault
    → Prevents show script (of_setup fault)
refused_for show script s p Memory read is =
    absurd (no_setup_memory (s ∷ []) p.consoles p.receivers is)
refused_for show script s p fault read is = set_up show script s p (Some fault) read is

-- what a rehearsal answers in place of a report prevents it
pub refused : (X : Type 0) (show script : List ℕ) (s : Tables) (p : Parts) (o : Option Fault)
    (fault : Fault) → IsRead show script s p → setup_fault (s ∷ []) p.consoles p.receivers ≡ o
    → AnswersSetup {X = X} o (Err fault) → Prevents show script (of_setup fault)
refused X show script s p None fault read is answer =
    let P : Fault → Type 0 = λ f. Prevents show script (of_setup f) in
    subst P (sym answer) (inr (inr (set_up show script s p None read is)))
refused X show script s p (Some first) fault read is answer =
    let same : first ≡ fault = cc in
    refused_for show script s p fault read (is ∙ ap Some same)

-- ---- the rehearsal

-- the lines of what was answered
pub lines_of : (show script : List ℕ) (s : Tables) (p : Parts) (report : RehearsalReport)
    → IsRead show script s p → IsReportOf (world s p) p.events report
    → IsPromised (world s p) p.events report
    → AreLinesOf show script (rehearsal_lines p.lines report.replies report.last)
unfolding AreLinesOf
lines_of show script s p report read came promised =
    let lines = rehearsal_lines p.lines report.replies report.last in
    let known : ArePromisedLines s p lines = record {
      lines_are = record { report = report; came = came; are = refl };
      promised = promised;
    } in
    of_its_show show (λ t. IsOkAnd (script_of script) (λ q. ArePromisedLines t q lines)) s
    read.show_is (of_script script p (λ q. ArePromisedLines s q lines) read.script_is known)

few : (n : ℕ) (b : Bool) → (nat_le n 8 && b) ≡ true → n ≤ 8
few n b is = grind (arith, nat_tests)

-- there are at most eight receivers
pub few_receivers : (s : Tables) (p : Parts) (report : RehearsalReport)
    → setup_fault (s ∷ []) p.consoles p.receivers ≡ None
    → IsReportOf (world s p) p.events report → length report.last ≤ 8
few_receivers s p report none came =
    let past = events_done (world s p) p.events in
    let within = few (length p.receivers) _
    (fine (s ∷ []) p.consoles p.receivers none).receivers in
    let as_many = length-map (range_with_len 0 (length p.receivers))
    (λ r. shown_slots (accepted_by (world s p) r past) (last_event_moment past)) in
    let receivers = length-range_with_len 0 (length p.receivers) in
    omega (arith, within, ap length came.last, as_many, receivers)
