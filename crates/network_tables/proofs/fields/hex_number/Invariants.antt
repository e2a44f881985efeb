use Rattle.std.proofs.Common.{◌≡◌, ◌<◌, ◌^◌, take, true}
use Rattle.std.specs.List.{list_all}
use Rattle.std.specs.Char.{is_ascii_hexdigit}
use Rattle.std.specs.Str.Parse.{digits_value}
use Rattle.network_tables.proofs.fields.hex_number.Given as goal

abbrev pub invariant-loop-digit : goal.invariant-loop-digit
invariant-loop-digit l = record {
  spelt : l.number ≡ digits_value 16 (take l.digit-index l.digits);
  digits : list_all is_ascii_hexdigit (take l.digit-index l.digits) ≡ true;
  small : l.number < 16 ^ l.digit-index;
}
