-- The entries of a table of call frame information (DWARF 5, 6.4.1; LSB Core, "Exception Frames").
use Rattle.std.specs.Prelude.{ℕ, ◌+◌, ◌-◌, ◌%◌, ◌^◌, ◌==◌, ◌&&◌, nat_lt, nat_le, if◌then◌else◌, Bool, List, length, drop, Option, None, Some, Result, Ok, Err}
use Rattle.std.specs.Option.{option_and_then, option_map}
use Rattle.std.specs.Result.{result_ok}
use Rattle.elf_view.specs.Field.{field, part}
use Rattle.call_frames.specs.Chain.{checked, and_then}
use Rattle.call_frames.specs.CommonEntry.{CieView, cie_in}
use Rattle.call_frames.specs.Leb.{sized}
use Rattle.call_frames.specs.Pointers.{pointer, extent}
use Rattle.call_frames.specs.declared.common.Format.{Format}
use Rattle.call_frames.specs.declared.common.Format.TheVariants.{EhFrame, DebugFrame}
use Rattle.call_frames.specs.declared.faults.CfiField.{CfiField}
use Rattle.call_frames.specs.declared.faults.CfiField.TheVariants as fields
use Rattle.call_frames.specs.declared.spots.Spot.{Spot}

-- a section of call frame information, with the address of its first byte
pub record TableView : Type 0 where
  pub format : Format
  pub address : ℕ
  pub bytes : List ℕ

-- the length of an entry from after the length on, which is that of 32-bit DWARF: below 0xfffffff0
abbrev pub told_length : List ℕ → ℕ
told_length rest = field rest 0 4

-- the entry at the front of the rest of a table is complete
abbrev pub is_whole : List ℕ → Bool
is_whole rest =
    nat_le 4 (length rest) && nat_lt (told_length rest) 0xfffffff0 && nat_le (4 + told_length rest) (length rest)

-- its bytes from the id on, which has four
unfoldable pub framed : List ℕ → Result (List ℕ) CfiField
framed rest =
    if is_whole rest then (if nat_lt (told_length rest) 4 then Err fields.Id else Ok (part rest 4 (told_length rest)))
    else Err fields.Length

-- CIE_id, or the CIE_pointer of an FDE
abbrev pub id_of : List ℕ → ℕ
id_of body = field body 0 4

abbrev pub cie_id : Format → ℕ
cie_id EhFrame = 0
cie_id DebugFrame = 0xffffffff

unfoldable pub is_cie : Format → List ℕ → Bool
is_cie format body = id_of body == cie_id format

-- The place at which the CIE of an FDE at place p begins: in .eh_frame the CIE_pointer is its distance back from the CIE_pointer's own
-- place, in .debug_frame it is the place itself.
abbrev pub cie_place : Format → ℕ → ℕ → Option ℕ
cie_place EhFrame p id = if nat_le id (p + 4) then Some (p + 4 - id) else None
cie_place DebugFrame p id = Some id

-- the CIE that is an entry's bytes, if it is one without a fault
abbrev pub cie_body : Format → List ℕ → Option CieView
cie_body format body = if is_cie format body then result_ok (cie_in format (drop 4 body)) else None

-- the CIE at place c, which the walk need not come by
unfoldable pub cie_at : TableView → ℕ → Option CieView
cie_at t c = option_and_then (cie_body t.format) (result_ok (framed (drop c t.bytes)))

-- the CIE of an FDE at place p with this CIE_pointer
unfoldable pub cie_of : TableView → ℕ → ℕ → Option CieView
cie_of t p id = option_and_then (cie_at t) (cie_place t.format p id)

-- an FDE: from which address on its program describes how many bytes of code
pub record EntryView : Type 0 where
  pub index : ℕ
  pub place : ℕ
  pub begin : ℕ
  pub range : ℕ
  pub program : List ℕ
  pub cie : CieView

-- the address of the initial_location of an FDE at place p
abbrev pub begin_address : TableView → ℕ → ℕ
begin_address t p = (t.address + (p + 8)) % 2 ^ 64

-- the bytes after the augmentation data, if the CIE says that there are some
unfoldable pub behind_data : Bool → List ℕ → Option (List ℕ)
behind_data augmented bytes = if augmented then option_map (λ (parts : List ℕ × List ℕ). parts.1) (sized bytes) else Some bytes

unfoldable pub fde_in : TableView → Spot → List ℕ → Result EntryView CfiField
fde_in t s body =
    checked (cie_of t s.place (id_of body)) fields.Cie (λ cie.
    checked (pointer cie.encoding (begin_address t s.place) (drop 4 body)) fields.PcBegin (λ begin.
    checked (extent cie.encoding begin.1) fields.PcRange (λ range.
    checked (behind_data cie.augmented range.1) fields.AugmentationLength (λ program.
    Ok (record {
      index = s.index;
      place = s.place;
      begin = begin.0;
      range = range.0;
      program = program;
      cie = cie;
    })))))

-- a CIE, which is no FDE, or an FDE; or the bad field
abbrev pub entry_in : TableView → Spot → List ℕ → Result (Option EntryView) CfiField
entry_in t s body =
    if is_cie t.format body then and_then (cie_in t.format (drop 4 body)) (λ cie. Ok None)
    else and_then (fde_in t s body) (λ entry. Ok (Some entry))

unfoldable pub entry_at : TableView → Spot → Result (Option EntryView) CfiField
entry_at t s = and_then (framed (drop s.place t.bytes)) (entry_in t s)
