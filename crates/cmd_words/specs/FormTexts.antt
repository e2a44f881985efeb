-- The forms of arguments, in words.
use Rattle.std.specs.Prelude.{ℕ, List, ◌++◌, codes}
use Rattle.cmd_words.specs.declared.misfit.Form.{Form}
use Rattle.cmd_words.specs.declared.misfit.Form.TheVariants as form

abbrev pub form_text : Form → List ℕ
form_text form.Cue = codes "a cue is a number from 0.001 to 9999.999, as 2.5"
form_text form.Cid = codes "a CID is a UUID, 32 hex digits, as uuidgen prints one"
form_text form.Address =
    codes "an address is four numbers, as 10.0.0.7, with or without a port, as 10.0.0.7:5568"
form_text form.Target = codes "a target is an address, as 10.0.0.7 or 10.0.0.7:5568, "
    ++ codes "with or without its universes, as 3=10.0.0.7 or 1-8=10.0.0.7"
form_text form.Few = codes "a night has at most 64 targets"
form_text form.Priority = codes "a priority is a number from 0 to 200"
form_text form.Universe = codes "a universe is a number from 1 to 63999"
form_text form.Sixteen = codes "a watch has at most 16 universes"
form_text form.Once = codes "a watch names a universe once"
form_text form.Count = codes "a count is a number from 1 to 1000000"
form_text form.ByCard = codes "any route goes beside a card: --interface CARD names it"
form_text form.SourceName = codes "a name is a text of 1 to 63 bytes, without control characters"
form_text form.Ttl = codes "a TTL is a number from 1 to 255"
form_text form.Recorded = codes "a night goes on in its record: --record FILE names it"
form_text form.Resumed = codes "a spare takes up a night: give --resume too"
form_text form.Patience = codes "a patience is a number of milliseconds from 1 to 60000"
form_text form.Followed =
    codes "a night waits for the main that it follows: --follow FILE names its record"
form_text form.Alone =
    codes "a night that follows begins where its main is: leave out --resume and --start"
