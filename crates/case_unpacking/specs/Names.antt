-- Names of files that may stand below a directory: absolute paths of bytes that
-- no shell and no debugger interprets, with components that are names of files.
use Rattle.std.specs.Prelude.{ℕ, ◌-◌, ◌==◌, Bool, not, ◌&&◌, ◌||◌, nat_eq, nat_le, nat_lt, List, [], ◌∷◌, length, take, Option, None, Some, codes, if◌then◌else◌}
use Rattle.std.specs.Char.{is_ascii_alphanumeric}
use Rattle.std.specs.List.{ends_with, list_all, list_any, slice_split}
use Rattle.std.specs.Str.{bytes_eq}

-- the characters that a component may have besides letters and digits
abbrev pub marks : List ℕ
marks = codes "._+@,=%^-"

-- a byte that a component may have
abbrev pub is_plain_byte : ℕ → Bool
is_plain_byte c = is_ascii_alphanumeric c || list_any (λ mark. mark == c) marks

-- a component of plain bytes that names a file: of one to 255 bytes, and neither `.` nor `..`
abbrev pub is_component : List ℕ → Bool
is_component c = nat_lt 0 (length c) && nat_le (length c) 255 && not (bytes_eq c (codes ".")) && not (bytes_eq c (codes "..")) && list_all is_plain_byte c

-- the texts between slashes
abbrev pub components : List ℕ → List (List ℕ)
components path = slice_split (λ b. b == 47) path

-- a name without the ` (deleted)` that the kernel puts behind the name of a file that was unlinked
abbrev pub without_deleted : List ℕ → List ℕ
without_deleted name = if ends_with nat_eq name (codes " (deleted)") then take (length name - 10) name else name

-- the components after the slash, if they are valid
abbrev pub behind_root : List ℕ → Option (List ℕ)
behind_root [] = None
behind_root (b ∷ path) = if b == 47 && list_all is_component (components path) then Some path else None

-- the path of a plain name, without its first slash
abbrev pub plain_path : List ℕ → Option (List ℕ)
plain_path name = behind_root (without_deleted name)
