-- What a draft of a show means: its show, with what is kept aside carried out; and what a reader
-- has made of the lines so far. Of use inside the crate: what its public calls answer is said
-- without these.
use Rattle.std.specs.Prelude.{◌≡◌, ℕ, false, IsTrue, IfSome, List, [], Option, Some, None, ◌⊎◌, ◌∷◌}
use Rattle.std.specs.Prelude.{length, count_by, All}
use Rattle.show_reader.specs.Terms.{Tables, Record, Statement}
use Rattle.show_core.specs.Builders.{all_patched}
use Rattle.show_reader.specs.declared.apply.Refusal.{Refusal}
use Rattle.show_reader.specs.declared.apply.Refusal.TheVariants as refusal
use Rattle.show_reader.specs.declared.draft.Draft.{Draft}
use Rattle.show_reader.specs.Keys.{has_record}
use Rattle.show_reader.specs.Reading.{grows, fault_at, first_fault, faultless_front}
use Rattle.show_reader.specs.Applied.{with_pairs, refused_by}
use Rattle.std.specs.FinMap as maps
use Rattle.show_line.specs.Said.{desk_limits}
use Rattle.show_reader.specs.declared.read.Reader.{Reader}
use Rattle.show_reader.specs.declared.fault.ShowFault.{ShowFault}
use Rattle.show_reader.specs.declared.fault.ShowFault.TheVariants as show_fault
use Rattle.show_reader.specs.Text.{Words, owner_below, statements}
use Rattle.show_reader.specs.Meaning.{cue_count, is_skipped}
use Rattle.show_reader.specs.Shows.{IsShowOf}

-- with the levels of pairs in a record, if there is one that they are for
abbrev pub with_listing : Tables → Option Record → List (ℕ × ℕ) → Tables
with_listing show None pairs = show
with_listing show (Some r) pairs = with_pairs show r pairs

-- the show that a draft means
abbrev pub show_of_draft : Draft → Tables
show_of_draft d =
    with_listing (record d.show { patch = all_patched d.show.patch d.patches.items }) d.listing
    d.levels.items

-- its show has the record that levels are kept aside for
abbrev pub IsDraft : Draft → Type 0
IsDraft d = IfSome d.listing (λ r. IsTrue (has_record d.show r))

-- nothing is kept aside
abbrev pub IsSettled : Draft → Type 0
IsSettled d = (d.levels.items ≡ []) × (d.patches.items ≡ [])

-- why a statement was not carried out: the fault that the show has with it; or memory ran out,
-- where something is kept aside, or the show has no fault with it and it grows the show
abbrev pub ExplainsRefusal : Draft → Statement → Refusal → Type 0
ExplainsRefusal d s (refusal.Fault f) = refused_by (show_of_draft d) s ≡ Some f
ExplainsRefusal d s refusal.Memory =
    IsSettled d → (refused_by (show_of_draft d) s ≡ None) × (grows s ≡ false → ⊥)

-- what lines say to this desk, the last line first
abbrev pub statements_in : List Words → List Statement
statements_in lines = statements desk_limits lines

-- no statement above the first that has a fault grows a show
abbrev pub NoneGrows : List Statement → Type 0
NoneGrows ss = All (λ s. grows s ≡ false) (faultless_front ss)

-- the reader stands behind these lines, of which none has a fault
pub record Reads (lines : List Words) (r : Reader) : Type 0 where
  pub shows : IsShowOf (statements_in lines) (show_of_draft r.draft)
  pub drafted : IsDraft r.draft
  pub settled : NoneGrows (statements_in lines) → IsSettled r.draft
  pub faultless : first_fault (statements_in lines) ≡ None
  pub owner : r.owner ≡ owner_below desk_limits lines
  pub count : cue_count (statements_in lines) ≡ maps.len (show_of_draft r.draft).cues
  pub number : r.lines ≡ length (statements_in lines)
  pub skipped : r.skipped ≡ count_by is_skipped (statements_in lines)

-- why reading ended at the line below these: its fault, or memory ran out, where a statement so far
-- grows the show
abbrev pub EndsAt : List Words → Words → ShowFault → Type 0
EndsAt lines l fault =
    ((fault ≡ show_fault.Memory) × (NoneGrows (statements_in (l ∷ lines)) → ⊥))
    ⊎ (first_fault (statements_in (l ∷ lines)) ≡ Some fault)

-- what the refusal of a statement is to a line of this number
abbrev pub refusal_at : ℕ → Refusal → ShowFault
refusal_at line (refusal.Fault f) = fault_at line f
refusal_at line refusal.Memory = show_fault.Memory
