-- The concern about a kind of file system.
use Rattle.std.specs.Prelude.{ℕ, nat_eq, Bool, ◌||◌, List, codes, Option, None, Some, if◌then◌else◌}
use Rattle.std.specs.List.{starts_with}
use Rattle.std.specs.Str.{bytes_eq}
use Rattle.mount_table.specs.declared.concerns.Concern.{Concern}
use Rattle.mount_table.specs.declared.concerns.Concern.TheVariants.{InMemory, Served, Layered, Copied, CopiedUnlessOff, Rightless}

-- one of the kinds whose files are another machine's, or another program's
abbrev pub is_served : List ℕ → Bool
is_served kind =
    bytes_eq kind (codes "nfs") || bytes_eq kind (codes "nfs4") || bytes_eq kind (codes "cifs") || bytes_eq kind (codes "smb3")
    || bytes_eq kind (codes "9p") || bytes_eq kind (codes "virtiofs") || bytes_eq kind (codes "ceph") || starts_with nat_eq kind (codes "fuse")

abbrev pub concern_of : List ℕ → Option Concern
concern_of kind =
    if bytes_eq kind (codes "tmpfs") || bytes_eq kind (codes "ramfs") then Some InMemory else
    if is_served kind then Some Served else
    if bytes_eq kind (codes "overlay") then Some Layered else
    if bytes_eq kind (codes "btrfs") then Some CopiedUnlessOff else
    if bytes_eq kind (codes "zfs") || bytes_eq kind (codes "bcachefs") then Some Copied else
    if bytes_eq kind (codes "vfat") || bytes_eq kind (codes "exfat") then Some Rightless else None

-- the words of a note
abbrev pub words_of : Concern → List ℕ
words_of InMemory = codes "its files are lost when the machine stops or restarts"
words_of Served = codes "its server decides what a sync keeps; locks may be local only"
words_of Layered = codes "the file is lost with its container; syncs are the upper layer's"
words_of Copied = codes "rewriting takes new room, and can fail on a full file system"
words_of CopiedUnlessOff = codes "rewriting takes new room and can fail when it is full; see chattr +C"
words_of Rightless = codes "it keeps no owners or rights, and a sync promises less"
