-- Mount points, as a line has them and as paths.
use Rattle.std.specs.Prelude.{ℕ, zero, suc, ◌+◌, ◌-◌, ◌*◌, ◌==◌, ◌&&◌, ◌||◌, nat_le, Bool, true, false, List, [], ◌∷◌, length, Option, None, Some, if◌then◌else◌}

-- the digit of an octal number, at most so high
abbrev pub is_octal : ℕ → ℕ → Bool
is_octal most c = nat_le 48 c && nat_le c most

-- the byte of the three octal digits behind a backslash: \040 is a space, \011 a tab, \012 a line's end, \134 a backslash
abbrev pub escape_of : List ℕ → Option ℕ
escape_of [] = None
escape_of (high ∷ []) = None
escape_of (high ∷ middle ∷ []) = None
escape_of (high ∷ middle ∷ low ∷ rest) =
    if is_octal 51 high && is_octal 55 middle && is_octal 55 low then Some (64 * (high - 48) + 8 * (middle - 48) + (low - 48)) else None

-- a byte and the text after it: that of an escape if there is one, else the byte as it stands
abbrev pub byte_then : ℕ → Option ℕ → List ℕ → List ℕ → List ℕ
byte_then c None next behind = c ∷ next
byte_then c (Some byte) next behind = byte ∷ behind

-- the text of a mount point from which an escape has taken n bytes more
abbrev pub unescaped_past : ℕ → List ℕ → List ℕ
unescaped_past zero [] = []
unescaped_past (suc n) [] = []
unescaped_past zero (c ∷ cs) =
    if c == 92 then byte_then c (escape_of cs) (unescaped_past 0 cs) (unescaped_past 3 cs) else c ∷ unescaped_past 0 cs
unescaped_past (suc n) (c ∷ cs) = unescaped_past n cs

-- a mount point without the line's escapes
abbrev pub unescaped : List ℕ → List ℕ
unescaped point = unescaped_past 0 point

-- a path is a directory's, or continues below it: either the directory ends with a slash or the text after it starts with one
abbrev pub goes_on : Bool → List ℕ → List ℕ → Bool
goes_on after_slash [] [] = true
goes_on after_slash [] (c ∷ cs) = after_slash || c == 47
goes_on after_slash (p ∷ ps) [] = false
goes_on after_slash (p ∷ ps) (c ∷ cs) = p == c && goes_on (p == 47) ps cs

-- a mount point is a path, or a directory above it
abbrev pub is_above : List ℕ → List ℕ → Bool
is_above point path = goes_on false point path

-- how many bytes a mount point has that is a path or a directory above it
abbrev pub depth_of : List ℕ → List ℕ → Option ℕ
depth_of point path = if is_above point path then Some (length point) else None
