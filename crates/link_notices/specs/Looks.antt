-- What a look at the network of a night found.
use Rattle.std.specs.Prelude.{ℕ, Bool, true, List, slice_index_or, Option, Some, None}
use Rattle.std.specs.Option.{is_some}
use Rattle.link_notices.specs.declared.look.HostPath.{HostPath}
use Rattle.link_notices.specs.declared.source.SourceState.{SourceState}
use Rattle.link_notices.specs.declared.source.SourceState.TheVariants as source
use Rattle.link_notices.specs.declared.watch.PathLook.{PathLook}
use Rattle.link_notices.specs.Paths.{trouble_of}
use Rattle.link_notices.specs.Same.{same_source}

-- the address that the packets of a way come from sends, or there is none yet
abbrev pub has_link : List SourceState → Option ℕ → Bool
has_link sources None = true
has_link sources (Some place) =
    same_source (slice_index_or sources place source.Sends) source.Sends

-- what was found on a way, where the addresses were found like this
abbrev pub path_look : List SourceState → HostPath → PathLook
path_look sources path = record {
  has_link = has_link sources path.source;
  trouble = trouble_of path.state (is_some path.source) path.silence;
}
