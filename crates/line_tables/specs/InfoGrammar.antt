-- Declarations and attributes as relations, apart from how they are read.
use Rattle.std.specs.Prelude.{◌≡◌, ℕ, zero, suc, ◌==◌, true, false, List, [], ◌∷◌, Some}
use Rattle.line_tables.specs.Abbreviations.{specification, is_end, declaration}
use Rattle.line_tables.specs.InfoEntries.{AttributeView, attribute_in}

-- The specifications of a declaration: n of them, their end, and the bytes after it.
abbrev pub AreSpecified : ℕ → List ℕ → List ℕ → Type 0
AreSpecified zero bytes rest =
    (s : ℕ × ℕ × List ℕ) × (specification bytes ≡ Some s) × (is_end s.0 s.1 ≡ true) × (s.2 ≡ rest)
AreSpecified (suc n) bytes rest =
    (s : ℕ × ℕ × List ℕ) × (specification bytes ≡ Some s) × (is_end s.0 s.1 ≡ false) × AreSpecified n s.2 rest

-- The declaration of a code in a table, after n of other codes, and the bytes that begin with its specifications.
abbrev pub IsDeclared : ℕ → ℕ → List ℕ → List ℕ → Type 0
IsDeclared zero code table specifications = declaration table ≡ Some (code, specifications)
IsDeclared (suc n) code table specifications =
    (d : ℕ × List ℕ) × (k : ℕ) × (rest : List ℕ) × (declaration table ≡ Some d) × ((d.0 == code) ≡ false) × AreSpecified k d.1 rest × IsDeclared n code rest specifications

-- The attributes by some specifications: none at their end, else the one whose value is at the front, and those after it.
abbrev pub AreAttributes : ℕ → List ℕ → List ℕ → List AttributeView → Type 0
AreAttributes version specifications values [] =
    (s : ℕ × ℕ × List ℕ) × (specification specifications ≡ Some s) × (is_end s.0 s.1 ≡ true)
AreAttributes version specifications values (a ∷ more) =
    (s : ℕ × ℕ × List ℕ) × (rest : List ℕ) × (specification specifications ≡ Some s) × (is_end s.0 s.1 ≡ false) × (attribute_in version s.0 s.1 values ≡ Some (a, rest)) × AreAttributes version s.2 rest more
