-- Which file it is, and by which descriptor the lock of a record is asked for.
use Rattle.std.specs.Prelude.{ℕ, ℤ, pos, Bool, false, ◌&&◌, nat_eq, nat_lt, List, Option, Some}
use Rattle.std.specs.Prelude.{None, if◌then◌else◌}
use Rattle.night_files.specs.LockLists.{descriptor_in}
use Rattle.night_files.specs.declared.file_node.FileNode.{FileNode}

-- one file: the same number on the same device
abbrev pub is_same_file : FileNode → FileNode → Bool
is_same_file left right = nat_eq left.device right.device && nat_eq left.inode right.inode

-- both lead to a file, and that is the same one
abbrev pub lead_to_one : Option FileNode → Option FileNode → Bool
lead_to_one (Some left) (Some right) = is_same_file left right
lead_to_one left right = false

-- a descriptor that there can be; else the file's own
abbrev pub descriptor_or : ℤ → Option ℕ → ℤ
descriptor_or own (Some number) = if nat_lt number 2147483648 then pos number else own
descriptor_or own None = own

-- the one that the name spells, where that leads to the file; else the file's own
abbrev pub lock_descriptor : ℤ → Option FileNode → Option FileNode → List ℕ → ℤ
lock_descriptor own node shared name =
    if lead_to_one node shared then descriptor_or own (descriptor_in name) else own
