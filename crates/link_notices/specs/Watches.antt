-- What is told of a network that was looked at.
use Rattle.std.specs.Prelude.{ℕ, Bool, List, [], ◌∷◌, ◌++◌, map, flat_map}
use Rattle.std.specs.Prelude.{slice_index_or, Option, Some, None, if◌then◌else◌}
use Rattle.std.specs.List.{enumerate_from}
use Rattle.std.specs.Option.{is_some}
use Rattle.link_notices.specs.declared.look.HostPath.{HostPath}
use Rattle.link_notices.specs.declared.look.NetworkLook.{NetworkLook}
use Rattle.link_notices.specs.declared.notice.LinkNotice.{LinkNotice}
use Rattle.link_notices.specs.declared.notice.LinkNotice.TheVariants.{Path, Source}
use Rattle.link_notices.specs.declared.notice.PathNotice.{PathNotice}
use Rattle.link_notices.specs.declared.notice.SourceNotice.{SourceNotice}
use Rattle.link_notices.specs.declared.path.PathState.{PathState}
use Rattle.link_notices.specs.declared.path.PathState.TheVariants.{Elsewhere, Leads, Nowhere}
use Rattle.link_notices.specs.declared.path.Trouble.{Trouble}
use Rattle.link_notices.specs.declared.path.Trouble.TheVariants as trouble
use Rattle.link_notices.specs.declared.source.SourceState.{SourceState}
use Rattle.link_notices.specs.declared.source.SourceState.TheVariants as source
use Rattle.link_notices.specs.declared.watch.PathWatch.{PathWatch}
use Rattle.link_notices.specs.declared.watch.SourceWatch.{SourceWatch}
use Rattle.link_notices.specs.Looks.{has_link, path_look}
use Rattle.link_notices.specs.Told.{again_of_path, again_of_source}
use Rattle.link_notices.specs.Told.{news_of_path, news_of_source, told_of_path}

-- what was told of the address at a place, and of the way there: at first nothing wrong
abbrev pub source_told : List SourceWatch → ℕ → SourceState
source_told watches place = (slice_index_or watches place (record { told = source.Sends })).told

abbrev pub path_told : List PathWatch → ℕ → Trouble
path_told watches place = (slice_index_or watches place (record { told = trouble.None })).told

-- a notice of the address at a place, and of the way there, where there is one
abbrev pub source_notice : ℕ → Option SourceNotice → List LinkNotice
source_notice place None = []
source_notice place (Some notice) = Source place notice ∷ []

abbrev pub path_notice : ℕ → Option PathNotice → List LinkNotice
path_notice place None = []
path_notice place (Some notice) = Path place notice ∷ []

-- what is told of the address at its place, and of the way there, by what was told before
abbrev pub source_news : List SourceWatch → ℕ × SourceState → List LinkNotice
source_news watches (place, is) =
    source_notice place (news_of_source (source_told watches place) is)

abbrev pub path_news : List SourceState → List PathWatch → ℕ × HostPath → List LinkNotice
path_news sources watches (place, path) =
    path_notice place (news_of_path (path_told watches place) (path_look sources path))

-- what is told after a look: of the addresses in their order, and then of the ways in theirs
abbrev pub look_notices : List SourceWatch → List PathWatch → NetworkLook → List LinkNotice
look_notices sources paths look =
    flat_map (source_news sources) (enumerate_from 0 look.sources.items)
    ++ flat_map (path_news look.sources.items paths) (enumerate_from 0 look.paths.items)

-- what was told then
abbrev pub source_watch : SourceState → SourceWatch
source_watch is = record { told = is }

abbrev pub path_watch : List SourceState → List PathWatch → ℕ × HostPath → PathWatch
path_watch sources watches (place, path) =
    record { told = told_of_path (path_told watches place) (path_look sources path) }

abbrev pub path_watches : List PathWatch → NetworkLook → List PathWatch
path_watches watches look =
    map (path_watch look.sources.items watches) (enumerate_from 0 look.paths.items)

-- what is told again of an address, and of a way
abbrev pub source_again : List SourceWatch → ℕ × SourceState → List LinkNotice
source_again watches (place, is) =
    source_notice place (again_of_source (source_told watches place))

abbrev pub path_again : List SourceState → List PathWatch → ℕ × HostPath → List LinkNotice
path_again sources watches (place, path) =
    path_notice place (again_of_path (path_told watches place) (has_link sources path.source))

-- what is told again: of the addresses and the ways of the last look, in their order
abbrev pub again_notices : List SourceWatch → List PathWatch → NetworkLook → List LinkNotice
again_notices sources paths look =
    flat_map (source_again sources) (enumerate_from 0 look.sources.items)
    ++ flat_map (path_again look.sources.items paths) (enumerate_from 0 look.paths.items)

-- at the start it is told to which hosts there is no route, and nothing else
abbrev pub start_trouble : PathState → Bool → Trouble
start_trouble Nowhere has_source = if has_source then trouble.NoRoute else trouble.NoRouteYet
start_trouble (Elsewhere card) has_source = trouble.None
start_trouble Leads has_source = trouble.None

abbrev pub start_watch : HostPath → PathWatch
start_watch path = record { told = start_trouble path.state (is_some path.source) }
