-- Disagreements between the two halves of a journal that no writing leaves: then the half that is taken may be the wrong one.
use Rattle.std.specs.Prelude.{◌≡◌, ◌≢◌, ℕ, ◌-◌, Bool, ◌&&◌, ◌==◌, not, nat_lt, if◌then◌else◌, List, slice_index, Option, None, Some}
use Rattle.std.specs.Option.{unwrap_or}
use Rattle.disk_model.specs.Places.{part}
use Rattle.journal_layout.specs.Folding.{Folded, nothing_yet}
use Rattle.journal_layout.specs.Front.{header_at, header_of_half}
use Rattle.journal_layout.specs.Layout.{half_start}
use Rattle.journal_layout.specs.Standing.{Standing}
use Rattle.journal_layout.specs.Stands.{AreRead, records_area}
use Rattle.journal_layout.specs.declared.shape.Half.{Half}
use Rattle.journal_layout.specs.declared.shape.Half.TheVariants.{A, B}
use Rattle.journal_layout.specs.declared.shape.Shape.{Shape}
use Rattle.archive_checks.specs.declared.gaps.Gap.{Gap}
use Rattle.archive_checks.specs.declared.gaps.Gap.TheVariants.{Generation, Newer}
use Rattle.archive_checks.specs.declared.gaps.HalfHead.{HalfHead}
use Rattle.archive_checks.specs.declared.gaps.HalfSaid.{HalfSaid}

-- the header that these bytes have, with its gate
pub record IsHead (bytes : List ℕ) (h : HalfHead) : Type 0 where
  pub gate : h.gate ≡ slice_index bytes 0
  pub version : h.version ≡ (header_at bytes).version
  pub generation : h.generation ≡ (header_at bytes).generation

-- The records at the front of these bytes say this next number.
abbrev pub SaysNext : ℕ → List ℕ → ℕ → ℕ → Type 0
SaysNext limit bytes version next = (said : Folded) × (used : ℕ) × AreRead limit bytes (nothing_yet version) said used × (said.next ≡ next)

-- The next number that a half with this gate says, if the gate isn't closed and each of its records can be read.
abbrev pub IsNext : ℕ → List ℕ → ℕ → ℕ → Option ℕ → Type 0
IsNext limit bytes gate version (Some next) = (gate ≢ 0) × SaysNext limit bytes version next
IsNext limit bytes gate version None = gate ≢ 0 → (next : ℕ) → SaysNext limit bytes version next → ⊥

-- the gate, the generation and the next number of a half
pub record IsSaid (b : List ℕ) (s : Shape) (half : Half) (h : HalfSaid) : Type 0 where
  pub is_open : h.is_open ≡ (header_of_half s b half).is_open
  pub generation : h.generation ≡ (header_of_half s b half).generation
  pub next : IsNext s.data_blocks (records_area b s half) (slice_index (part b (half_start s half) 32) 0) (header_of_half s b half).version h.next

-- the half of the lower generation, that generation, and the other one
abbrev pub lower_half : HalfSaid → HalfSaid → Half
lower_half a b = if nat_lt a.generation b.generation then A else B

abbrev pub lower : HalfSaid → HalfSaid → ℕ
lower a b = if nat_lt a.generation b.generation then a.generation else b.generation

abbrev pub higher : HalfSaid → HalfSaid → ℕ
higher a b = if nat_lt a.generation b.generation then b.generation else a.generation

-- both halves are open, and the lower generation isn't the one before the higher
abbrev pub is_apart : HalfSaid → HalfSaid → Bool
is_apart a b = a.is_open && b.is_open && not (higher a b - lower a b == 1)

-- the next number that a half says, which is 1 at least, or 0
abbrev pub next_of : HalfSaid → ℕ
next_of h = unwrap_or h.next 0

-- the disagreement of two halves, if the taken one says this next number
abbrev pub gap_between : HalfSaid → HalfSaid → ℕ → Option Gap
gap_between a b taken =
    if is_apart a b then Some (Generation (lower_half a b) (lower a b) (higher a b - 1)) else
    if nat_lt taken (next_of a) then Some (Newer A (next_of a) taken) else
    if nat_lt taken (next_of b) then Some (Newer B (next_of b) taken) else None

-- The disagreement in an archive, or nothing.
abbrev pub IsGapOf : List ℕ → Standing → Option Gap → Type 0
IsGapOf b s gap = (x : HalfSaid) × (y : HalfSaid) × IsSaid b s.shape A x × IsSaid b s.shape B y × (gap ≡ gap_between x y s.next)
