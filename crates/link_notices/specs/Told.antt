-- What is told after a look.
use Rattle.std.specs.Prelude.{Bool, true, false, Option, Some, None, if◌then◌else◌}
use Rattle.link_notices.specs.declared.notice.PathNotice.{PathNotice}
use Rattle.link_notices.specs.declared.notice.SourceNotice.{SourceNotice}
use Rattle.link_notices.specs.declared.path.Trouble.{Trouble}
use Rattle.link_notices.specs.declared.path.Trouble.TheVariants as trouble
use Rattle.link_notices.specs.declared.source.SourceState.{SourceState}
use Rattle.link_notices.specs.declared.source.SourceState.TheVariants as source
use Rattle.link_notices.specs.declared.watch.PathLook.{PathLook}
use Rattle.link_notices.specs.Same.{same_source, same_trouble}

-- of an address that is another than was told: how it was told to be, and how it is
abbrev pub news_of_source : SourceState → SourceState → Option SourceNotice
news_of_source was is =
    if same_source was is then None else Some (record { was = was; is = is })

-- of one that does not send, again
abbrev pub again_of_source : SourceState → Option SourceNotice
again_of_source source.Sends = None
again_of_source told = Some (record { was = told; is = told })

-- what is told of a way then: while it has no link, what was told before
abbrev pub told_of_path : Trouble → PathLook → Trouble
told_of_path was found = if found.has_link then found.trouble else was

-- of a way that has a link, and whose trouble is another than was told: both troubles
abbrev pub news_of_path : Trouble → PathLook → Option PathNotice
news_of_path was found =
    if same_trouble was (told_of_path was found) then None
    else Some (record { was = was; is = told_of_path was found })

-- of a way that has a link, its trouble again
abbrev pub again_of_path : Trouble → Bool → Option PathNotice
again_of_path trouble.None has_link = None
again_of_path told has_link = if has_link then Some (record { was = told; is = told }) else None

-- a host that no route led to so far can be reached
abbrev pub is_first_route : Trouble → Trouble → Bool
is_first_route trouble.NoRouteYet trouble.None = true
is_first_route was is = false
