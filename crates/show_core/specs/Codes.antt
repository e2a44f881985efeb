-- The codes of the tables of a show, by which proofs tell their values apart.
use Rattle.std.specs.Prelude.{refl}
use Rattle.std.specs.Coded.{Coded, code_by, coded×, coded_ℕ}
use Rattle.std.specs.FinMap as map
use Rattle.show_core.specs.contracts.cue.CueData as cue_data
use Rattle.show_core.specs.Tables.{CueMap, MasterMap, PatchMap, Tables}

abbrev pub cues_code : Coded CueMap
cues_code = map.code coded_ℕ cue_data.the_row.coded

abbrev pub masters_code : Coded MasterMap
masters_code = map.code coded_ℕ (map.code coded_ℕ coded_ℕ)

abbrev pub patch_code : Coded PatchMap
patch_code = map.code coded_ℕ (coded× coded_ℕ coded_ℕ)

-- four tables, one inside the other
abbrev pub tables_code : Coded Tables
tables_code =
    code_by (CueMap × (MasterMap × (MasterMap × PatchMap)))
    (coded× cues_code (coded× masters_code (coded× masters_code patch_code)))
    (λ s. (s.cues, (s.subs, (s.groups, s.patch))))
    (λ p. record { cues = p.0; subs = p.1.0; groups = p.1.1.0; patch = p.1.1.1 })
    (λ _. refl)
