use Rattle.std.proofs.Common.{◌≡◌, drop}
use Rattle.network_tables.specs.Fields.{fields_of}
use Rattle.network_tables.proofs.fields.field.Given as goal

abbrev pub invariant-loop : goal.invariant-loop
invariant-loop l = fields_of l.rest ≡ drop l.counter (fields_of l.line)
