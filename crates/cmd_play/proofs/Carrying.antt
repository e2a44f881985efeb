-- A call that is carried out.
use Rattle.cmd_play.proofs.Terms.{◌≡◌, ℕ, Bool, true, false, cond, refl, ap, arith, sym, ◌∙◌, List}
use Rattle.cmd_play.proofs.Terms.{[], Some, None, Ok, Err, Result, append-nil, Option, count_by}
use Rattle.cmd_play.proofs.Terms.{sum_by-cons, Send, failures_of, Refused, Ticked, Act}
use Rattle.cmd_play.proofs.Terms.{ticks_since_end, outcome, refusal, tick_answer, Identity, Offered}
use Rattle.cmd_play.proofs.Terms.{Quiet, answer_of, AreOffered, none, quiet, sent, OffersDues, Due}
use Rattle.cmd_play.proofs.Terms.{Production, dues_at, tick_at, Call, Order, Tick, act_of, Reading}
use Rattle.cmd_play.proofs.Terms.{At, moment_line, is_lost, IsAnswered, answer_text, dues_after}
use Rattle.cmd_play.proofs.Terms.{dues_by, line_text, Answer, Performs, call_answer, text_of_answer}
use Rattle.cmd_play.specs.declared.performance.Answer.TheVariants as answer
use Rattle.cmd_play.specs.Perform.{lost_of as lost_of_answer}

-- why a call was refused, or that it was not, by its answer
pub accepted : {X : Type 0} (o : Option Refused) (a b : X) (r : Result X Refused) → r ≡ Ok a
    → r ≡ outcome o b → o ≡ None
accepted None a b r is e = refl
accepted (Some q) a b r is e = cc

pub refused : {X : Type 0} (o : Option Refused) (q : Refused) (b : X) (r : Result X Refused)
    → r ≡ Err q
    → r ≡ outcome o b → o ≡ Some q
refused None q b r is e = cc
refused (Some w) q b r is e = cc

-- the lost offers are the failed sends
abbrev lost_of : List (ℕ × Offered) → ℕ
lost_of offers = count_by (λ offer. is_lost offer.1) offers

abbrev one_if : Bool → ℕ
one_if b = cond b 1 0

one_answer : (failed : Bool) (place : ℕ) → one_if (is_lost (answer_of failed place)) ≡ one_if failed
one_answer true place = refl
one_answer false place = refl

pub lost_offers : {source : Identity} {ds : List Due} {ss : List Send} {ps : List (ℕ × Offered)}
    → AreOffered source ds ss ps → lost_of ps ≡ failures_of ss
lost_offers none = refl
lost_offers (quiet d ds ss ps is rest) = omega (
  arith,
  lost_offers rest,
  sum_by-cons (λ (x : ℕ × Offered). cond (is_lost x.1) 1 0) (d.universe, Quiet) ps,
)
lost_offers (sent d p s ds ss ps is rest) = omega (
  arith,
  lost_offers rest,
  one_answer s.failed d.place,
  sum_by-cons (λ (x : ℕ × Offered). cond (is_lost x.1) 1 0) (d.universe, answer_of s.failed d.place)
      ps,
  sum_by-cons (λ (x : Send). cond x.failed 1 0) s ss,
)

-- a line at which nothing is due
pub answered_quiet : (p : Production) (history : List Act) (reading : Reading)
    (before after : List Send) (text : List ℕ) → dues_after p history reading ≡ []
    → after ≡ before → text ≡ line_text p history reading []
    → IsAnswered p history reading before after text 0
answered_quiet p history reading before after text nothing same written = record {
  sends = [];
  offers = [];
  are_offered = rw nothing none;
  after_is = same ∙ sym (append-nil before);
  text_is = written;
  lost_is = refl;
}

-- ---- a call that is performed

-- a call at which nothing is due
pub performed_quiet : (p : Production) (history : List Act) (moment : ℕ) (call : Call)
    (before after : List Send) (answer : Answer) (r : Option Refused)
    → refusal p.show history (act_of moment call) ≡ r
    → dues_by r call (dues_at p history moment) ≡ [] → after ≡ before → answer
    ≡ call_answer r call (ticks_since_end history) []
    → Performs p history moment call before after answer
performed_quiet p history moment call before after answer r e nothing same is = record {
  sends = [];
  offers = [];
  are_offered = rw (e, nothing) none;
  after_is = same ∙ sym (append-nil before);
  answer_is = rw e is;
}

-- a tick that is accepted
pub performed_tick : (p : Production) (history : List Act) (moment : ℕ) (before after : List Send)
    (t : Ticked) (pairs : List (ℕ × Offered))
    → refusal p.show history (tick_at moment) ≡ None → t ≡ tick_answer (ticks_since_end history)
    → OffersDues p.source (dues_at p history moment) pairs before after
    → Performs p history moment Tick before after (answer.Ticked t pairs)
performed_tick p history moment before after t pairs e is offers = record {
  sends = offers.sends;
  offers = pairs;
  are_offered = rw e offers.are_offered;
  after_is = offers.after_is;
  answer_is = rw (e, is) refl;
}

text_same : (m : ℕ) (r : Option Refused) (c : Call) (ticks : Option ℕ) (offers : List (ℕ × Offered))
    → text_of_answer m (call_answer r c ticks offers) ≡ moment_line m (answer_text r c ticks offers)
text_same m (Some refused) c ticks offers = refl
text_same m None (Order instruction) ticks offers = refl
text_same m None Tick ticks offers = refl

lost_same : {source : Identity} (r : Option Refused) (c : Call) (ticks : Option ℕ) (ds : List Due)
    {ss : List Send} {ps : List (ℕ × Offered)} → AreOffered source (dues_by r c ds) ss ps
    → lost_of_answer (call_answer r c ticks ps) ≡ failures_of ss
lost_same (Some refused) c ticks ds none = refl
lost_same None (Order instruction) ticks ds none = refl
lost_same None Tick ticks ds offered = lost_offers offered

-- a call that was performed is answered by its text
pub answered_by : (p : Production) (history : List Act) (moment : ℕ) (call : Call)
    (before after : List Send) (answer : Answer) (text : List ℕ) (lost : ℕ)
    → Performs p history moment call before after answer → text ≡ text_of_answer moment answer
    → lost ≡ lost_of_answer answer
    → IsAnswered p history (At moment call) before after text lost
answered_by p history moment call before after answer text lost did written counted =
    let r = refusal p.show history (act_of moment call) in
    record {
      sends = did.sends;
      offers = did.offers;
      are_offered = did.are_offered;
      after_is = did.after_is;
      text_is = written ∙ ap (text_of_answer moment) did.answer_is
          ∙ text_same moment r call (ticks_since_end history) did.offers;
      lost_is = counted ∙ ap lost_of_answer did.answer_is
          ∙ lost_same r call (ticks_since_end history) (dues_at p history moment) did.are_offered;
    }
