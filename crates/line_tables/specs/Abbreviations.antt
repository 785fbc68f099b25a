-- Abbreviations (DWARF 4, 7.5.3).
use Rattle.std.specs.Prelude.{ℕ, zero, suc, ◌==◌, ◌&&◌, if◌then◌else◌, Bool, List, length, drop, Option, None, Some}
use Rattle.std.specs.Option.{option_and_then, option_map}
use Rattle.call_frames.specs.Leb.{uleb}
use Rattle.line_tables.specs.Texts.{first_byte}

-- The specification of an attribute: its name and its form, each a ULEB128, and the bytes after them.
unfoldable pub specification : List ℕ → Option (ℕ × ℕ × List ℕ)
specification bytes = option_and_then (λ a. option_map (λ f. (a.0, f.0, f.1)) (uleb a.1)) (uleb bytes)

-- name 0 and form 0 end the specifications of a declaration
abbrev pub is_end : ℕ → ℕ → Bool
is_end name form = name == 0 && form == 0

-- the bytes after the specifications of a declaration; there are at most n
unfoldable pub behind_specifications : ℕ → List ℕ → Option (List ℕ)
behind_specifications zero bytes = None
behind_specifications (suc n) bytes =
    option_and_then (λ s. if is_end s.0 s.1 then Some s.2 else behind_specifications n s.2) (specification bytes)

-- the bytes after a declaration
abbrev pub behind_declaration : List ℕ → Option (List ℕ)
behind_declaration specifications = behind_specifications (length specifications) specifications

-- A declaration: its code, which is not 0, and the bytes that begin with its specifications. They are after the tag, which is a ULEB128,
-- and the byte that says whether there are children. Code 0 ends a table.
abbrev pub behind_tag : List ℕ → Option (List ℕ)
behind_tag bytes = option_and_then (λ t. option_map (λ (b : ℕ × List ℕ). b.1) (first_byte t.1)) (uleb bytes)

unfoldable pub declaration : List ℕ → Option (ℕ × List ℕ)
declaration bytes =
    option_and_then (λ c. if c.0 == 0 then None else option_map (λ specifications. (c.0, specifications)) (behind_tag c.1)) (uleb bytes)

-- the bytes that begin with the specifications of the first declaration of a code; there are at most n declarations
unfoldable pub declared_among : ℕ → ℕ → List ℕ → Option (List ℕ)
declared_among zero code bytes = None
declared_among (suc n) code bytes =
    option_and_then (λ (d : ℕ × List ℕ). if d.0 == code then Some d.1 else option_and_then (declared_among n code) (behind_declaration d.1)) (declaration bytes)

-- in the table at the front
abbrev pub declared_in : List ℕ → ℕ → Option (List ℕ)
declared_in table code = declared_among (length table) code table

-- in the table at place p of .debug_abbrev
unfoldable pub declared_at : List ℕ → ℕ → ℕ → Option (List ℕ)
declared_at debug_abbrev p code = declared_in (drop p debug_abbrev) code
