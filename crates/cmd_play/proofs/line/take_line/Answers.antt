use Rattle.cmd_play.proofs.Terms.{◌≡◌, [], refl, sym, with_more-none, At, Blank, reading_of}
use Rattle.cmd_play.proofs.Carrying.{answered_quiet}
use Rattle.cmd_play.proofs.Faults.{handed_on}
use Rattle.cmd_play.proofs.line.take_line.Goals as goal

pub returns-in-Blank-clause-carried_out : goal.returns-in-Blank-clause-carried_out
returns-in-Blank-clause-carried_out g c = λ p history s tells_link tells_out.
    let is : reading_of c.args.line.now ≡ Blank = cc in
    rw is (record {
      text = [];
      answered = answered_quiet p history Blank _ _ [] refl refl refl;
      printed_is = sym (with_more-none _);
    })

pub returns-in_err-write-in-At-clause-leaves : goal.returns-in_err-write-in-At-clause-leaves
returns-in_err-write-in-At-clause-leaves g c =
    handed_on _ _ c.from_residual.ensures.1 (λ p history s tells_link tells_out.
    let is : reading_of c.args.line.now ≡ At c.in-At.moment c.in-At.call = cc in
    record {
      text = c.carry_out-text.result.0.bytes;
      lost = c.carry_out-text.result.1;
      answered = rw is (c.carry_out-text.ensures.answered p history s tells_link);
      printed_is = c.in_err-write-in-At.ensures.err tells_out;
    })
