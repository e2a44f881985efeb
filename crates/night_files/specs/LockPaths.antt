-- Where the lock of a CID lies.
use Rattle.std.specs.Prelude.{ℕ, Bool, List, [], ◌∷◌, ◌++◌, codes, decimal, length, nat_le}
use Rattle.std.specs.Prelude.{Option, Some, None, Result, Ok, Err, String, option_map}
use Rattle.std.specs.Prelude.{string_bytes}
use Rattle.std.specs.Prelude.{◌&&◌, nat_eq, if◌then◌else◌}
use Rattle.std.specs.declared.env.VarError.{VarError}
use Rattle.std.specs.declared.env.VarError.TheVariants as variable
use Rattle.arrayvec.specs.declared.array_string.ArrayString.{ArrayString}
use Rattle.hex.specs.Hex.{encode_lower}
use Rattle.night_files.specs.declared.cid_lock.FoundFolder.{FoundFolder}
use Rattle.night_files.specs.declared.fault.FileFault.{FileFault}
use Rattle.night_files.specs.declared.fault.FileFault.TheVariants.{Memory}

-- a folder, and no link, that is this user's
abbrev pub is_own_folder : FoundFolder → ℕ → Bool
is_own_folder found user = found.is_folder && nat_eq found.owner user

-- the folder that the system gives a user for what is there while the user is
abbrev pub runtime_folder : ℕ → List ℕ
runtime_folder user = codes "/run/user/" ++ decimal user

-- the folder of the locks: in the one that the environment names, if it names one; else in the
-- user's runtime folder, if there is one; else in /tmp, with the user's number in its name
abbrev pub lock_folder : List ℕ → Bool → ℕ → List ℕ
lock_folder (byte ∷ bytes) has_runtime user = (byte ∷ bytes) ++ codes "/cueplayer"
lock_folder [] has_runtime user =
    if has_runtime then runtime_folder user ++ codes "/cueplayer"
    else codes "/tmp/cueplayer-" ++ decimal user

-- the lock's file in it: 32 hex digits of the CID, and `.lock`
abbrev pub lock_path : List ℕ → List ℕ → List ℕ
lock_path folder cid = folder ++ codes "/" ++ encode_lower cid ++ codes ".lock"

-- a path of more than 512 bytes is refused
abbrev pub short_path : List ℕ → Option (List ℕ)
short_path path = if nat_le (length path) 512 then Some path else None

-- the variable of the user's runtime folder: none where it is too long; an empty text where it is
-- not set, or is no text
abbrev pub named_folder : Result (List ℕ) VarError → Result (Option (List ℕ)) FileFault
named_folder (Ok name) = Ok (short_path name)
named_folder (Err variable.OutOfMemory) = Err Memory
named_folder (Err reason) = Ok (Some [])

-- what is read of a variable, by its bytes, and what is answered
abbrev pub variable_bytes : {A : Type 0} → Result (String A) VarError → Result (List ℕ) VarError
variable_bytes (Ok name) = Ok (string_bytes name)
variable_bytes (Err reason) = Err reason

abbrev pub folder_bytes
    : Result (Option (ArrayString 512)) FileFault → Result (Option (List ℕ)) FileFault
folder_bytes (Ok found) = Ok (option_map (λ path. path.bytes) found)
folder_bytes (Err fault) = Err fault
