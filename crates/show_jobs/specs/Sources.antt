-- Who sends in a night.
use Rattle.std.specs.Prelude.{ℕ, ◌≡◌, List, [], ◌∷◌, Option, Result, Ok, Err, codes}
use Rattle.sacn_packet.specs.Name.{IsSourceName}
use Rattle.sacn_source.specs.Identity.{Identity}
use Rattle.cmd_words.specs.Source.{source_name}
use Rattle.cmd_words.specs.declared.job.Night.{Night}
use Rattle.remarks.specs.Remarks.{remark_of}
use Rattle.remarks.specs.declared.failure.JobFault.{JobFault}
use Rattle.remarks.specs.declared.failure.JobFault.TheVariants.{Words}

-- which names a source can have
abbrev pub name_rule : List ℕ
name_rule = codes "--name has at most 63 bytes, none of them zero"

-- the source of this night, by its CID, its name and its priority; none where no source can have
-- its name
abbrev pub IsSourceOf : Night → Result Identity JobFault → Type 0
IsSourceOf night (Ok source) = source ≡ record {
  cid = night.cid;
  name = source_name night.name;
  priority = night.priority;
}
IsSourceOf night (Err (Words remark)) =
    (IsSourceName (source_name night.name) → ⊥) × (remark.items ≡ remark_of (name_rule ∷ []))
IsSourceOf night (Err fault) = ⊥
