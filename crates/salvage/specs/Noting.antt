-- Notes about the copied cases, and the number of the next case.
use Rattle.std.specs.Prelude.{◌≡◌, ℕ, ◌+◌, nat_lt, max, min, List, [], ◌∷◌, Option, None, Some, if◌then◌else◌}
use Rattle.std.specs.List.{Contains}
use Rattle.disk_model.specs.Places.{part}
use Rattle.journal_layout.specs.Case.{Case, case_of}
use Rattle.journal_layout.specs.Standing.{Standing}
use Rattle.salvage.specs.Cases.{IsSameCase}
use Rattle.salvage.specs.Records.{number_of}
use Rattle.salvage.specs.declared.records.Fate.{Fate}
use Rattle.salvage.specs.declared.records.Fate.TheVariants.{Copied, Same, Number, Name, Block, Room}
use Rattle.salvage.specs.declared.records.Read.{Read}
use Rattle.salvage.specs.declared.records.Span.{Span}

-- the number, if the case is copied; 0 if it is not
abbrev pub number_if : Fate → ℕ → ℕ
number_if Copied seq = seq
number_if Same seq = 0
number_if Number seq = 0
number_if Name seq = 0
number_if Block seq = 0
number_if Room seq = 0

-- the highest number of a copied case; 0 if no case was copied
abbrev pub greatest_copied : List Read → ℕ
greatest_copied [] = 0
greatest_copied (r ∷ rest) = max (number_if r.fate r.entry.seq) (greatest_copied rest)

-- The number of the next case, if the records that stand say `next`, the numbers from `bound` on are doubtful, and `last` is the highest
-- number of a copied case. It is the number of the records, but not more than the first doubtful number, unless each is doubtful; and it is
-- higher than each number of a copied case.
abbrev pub next_by : ℕ → ℕ → ℕ → ℕ
next_by next bound last = max (if nat_lt 0 bound then min next bound else next) (last + 1)

-- the text of the Label record at this place of these bytes; none without a record
abbrev pub label_by : List ℕ → Option Span → List ℕ
label_by bytes None = []
label_by bytes (Some place) = part bytes (place.start + 16) (number_of bytes (place.start + 12))

-- The case is that of a read that is copied. It is pinned as the last Pin record of it says that reads, and has the label that the last
-- Label record of it says.
pub record IsNotedBy (bytes : List ℕ) (c : Case) (r : Read) : Type 0 where
  pub fate : r.fate ≡ Copied
  pub same : IsSameCase (case_of r.entry) c
  pub pinned : c.pinned ≡ r.entry.pinned
  pub label : c.label ≡ label_by bytes r.label

-- the same of each of these cases
abbrev pub AreNoted : List ℕ → List Read → List Case → Type 0
AreNoted bytes reads [] = Unit {0}
AreNoted bytes reads (c ∷ rest) = ((r : Read) × Contains reads r × IsNotedBy bytes c r) × AreNoted bytes reads rest

-- The copy keeps the notes: for each case the facts of the records that read, and the number of the next case. The bytes are those before
-- the data blocks.
pub record KeepsNoted (bytes : List ℕ) (first : Standing) (reads : List Read) (bound : ℕ) (s : Standing) : Type 0 where
  pub next : s.next ≡ next_by first.next bound (greatest_copied reads)
  pub cases : AreNoted bytes reads s.cases
