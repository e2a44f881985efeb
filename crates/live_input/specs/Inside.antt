-- What a live input keeps, as contracts see it.
use Rattle.live_input.specs.declared.live.LiveInput.TheInside.{Inside}
use Rattle.live_input.specs.Kept.{InputState}
use Rattle.live_input.specs.TypedView.{typed_kept}

abbrev pub live_view : Inside → InputState
live_view live = record {
  typed = typed_kept live.typed;
  ends = live.ends;
  now = live.now;
  keys = live.keys;
  progress = live.progress;
}
