-- What is remarked of a cue whose levels were printed.
use Rattle.std.specs.Prelude.{ℕ, ◌==◌, List, [], ◌∷◌, codes, if◌then◌else◌, length}
use Rattle.remarks.specs.Remarks.{remark_of}

-- that no dimmer is patched, where nothing was printed
abbrev pub patch_remark : List ℕ → List ℕ
patch_remark printed =
    if length printed == 0 then remark_of (codes "no dimmer is patched" ∷ []) else []
