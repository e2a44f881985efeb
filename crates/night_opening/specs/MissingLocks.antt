-- What is told of the locks that a night lacks.
use Rattle.std.specs.Prelude.{ℕ, Bool, true, false, List, [], ◌∷◌, Option, Some, codes}
use Rattle.remarks.specs.Devices.{no_lock}

-- that of its CID
abbrev pub missing_cid_lock : Bool → List (List ℕ)
missing_cid_lock true = []
missing_cid_lock false = no_lock ∷ []

-- that of its record, where it has one
abbrev pub no_record_lock : List ℕ
no_record_lock = codes "record: no lock can be made, so a second night in this FILE would begin\n"

abbrev pub missing_record_lock : Option Bool → List (List ℕ)
missing_record_lock (Some false) = no_record_lock ∷ []
missing_record_lock _ = []
