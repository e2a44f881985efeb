use Rattle.std.proofs.Common.{◌≡◌, ◌∙◌, sym, ap, is_some, rules}
use Rattle.std.specs.Prelude.{IsTrue, IsFalse}
use Rattle.patch_core.specs.Frame.{is_base}
use Rattle.show_core.specs.Tables.{Tables}
use Rattle.show_reader.proofs.OneShow.{of_its_show}
use Rattle.cmd_show.specs.Slots.{slots_text, SlotsFails}
use Rattle.cmd_show.proofs.Shows.{cue_is_there, of_cue, output_failed}
use Rattle.cmd_show.proofs.levels.slots.Goals as goal

pub returns-then-not-has_numbers-clause-fault : goal.returns-then-not-has_numbers-clause-fault
returns-then-not-has_numbers-clause-fault g c =
    let show = c.in_ok-loaded.loaded.show in
    let lacks : IsFalse (is_base show.patch c.args.base) =
    sym c.has_numbers.ensures ∙ c.if-not-has_numbers.true in (
      (
        c.in_ok-loaded.ensures.faultless,
        cue_is_there c.args.show.now show c.args.cue _ c.in_ok-loaded.ensures.show
            (ap is_some (sym c.cue.ensures ∙ c.in-Some.is)),
      ),
      of_its_show c.args.show.now (λ (s : Tables). IsFalse (is_base s.patch c.args.base)) show
          c.in_ok-loaded.ensures.show lacks,
    )

pub returns-in_err-write-clause-fault : goal.returns-in_err-write-clause-fault
returns-in_err-write-clause-fault g c =
    let show = c.in_ok-loaded.loaded.show in
    let numbers : IsTrue (is_base show.patch c.args.base) =
    sym c.has_numbers.ensures ∙ c.if-not-has_numbers.false in
    output_failed c.from_residual-in_err-write.result
    (SlotsFails c.args.show.now c.args.cue c.args.base)
    c.from_residual-in_err-write.ensures.1 (
      (
        c.in_ok-loaded.ensures.faultless,
        cue_is_there c.args.show.now show c.args.cue _ c.in_ok-loaded.ensures.show
            (ap is_some (sym c.cue.ensures ∙ c.in-Some.is)),
      ),
      of_its_show c.args.show.now (λ (s : Tables). IsTrue (is_base s.patch c.args.base)) show
          c.in_ok-loaded.ensures.show numbers,
    )

pub returns-clause-prints : goal.returns-clause-prints
returns-clause-prints g c = record {
  told = search rules;
  text = λ tells. (
    c.as_slice.result.now,
    of_cue c.args.show.now c.args.cue (λ t l patch. t ≡ slots_text l patch c.args.base) _ _
        c.in_ok-loaded.loaded.show c.in-Some.look c.in_ok-loaded.ensures.show
        (sym c.cue.ensures ∙ c.in-Some.is)
        c.as_slice.ensures.value c.in_ok-text.ensures,
    c.in_ok-write.ensures.ok tells,
  );
}

pub returns-clause-numbered : goal.returns-clause-numbered
returns-clause-numbered g c =
    let show = c.in_ok-loaded.loaded.show in
    let numbers : IsTrue (is_base show.patch c.args.base) =
    sym c.has_numbers.ensures ∙ c.if-not-has_numbers.false in
    of_its_show c.args.show.now (λ (s : Tables). IsTrue (is_base s.patch c.args.base)) show
    c.in_ok-loaded.ensures.show numbers
