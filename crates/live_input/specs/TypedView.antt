-- What was typed and not taken, as contracts see it.
use Rattle.std.specs.Prelude.{drop}
use Rattle.live_input.specs.declared.typed.TypedLines.{TypedLines}
use Rattle.live_input.specs.Kept.{TypedKept}

abbrev pub typed_kept : TypedLines → TypedKept
typed_kept typed = record { unread = drop typed.taken typed.came.items; line = typed.line.items }
