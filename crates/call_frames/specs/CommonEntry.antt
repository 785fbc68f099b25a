-- A Common Information Entry (DWARF 5, 6.4.1; LSB Core, "The Common Information Entry Format"), from after its CIE_id on.
use Rattle.std.specs.Prelude.{ℕ, ◌==◌, ◌&&◌, ◌||◌, nat_eq, nat_le, if◌then◌else◌, Bool, true, false, List, [], ◌∷◌, drop, Option, None, Some, Result, Ok, Err}
use Rattle.std.specs.Option.{option_and_then}
use Rattle.std.specs.List.{starts_with}
use Rattle.call_frames.specs.Augmentation.{augmentation, encoding_among, is_signal}
use Rattle.call_frames.specs.Chain.{checked, and_then}
use Rattle.call_frames.specs.Leb.{uleb, sleb, sized}
use Rattle.call_frames.specs.declared.common.Format.{Format}
use Rattle.call_frames.specs.declared.common.Format.TheVariants.{EhFrame, DebugFrame}
use Rattle.call_frames.specs.declared.faults.CfiField.{CfiField}
use Rattle.call_frames.specs.declared.faults.CfiField.TheVariants as fields

-- 1 or 3; in .debug_frame 4 too
abbrev pub is_version : Format → ℕ → Bool
is_version EhFrame v = v == 1 || v == 3
is_version DebugFrame v = v == 1 || v == 3 || v == 4

-- the version, the augmentation string, and the bytes after them and the two sizes
pub record HeadView : Type 0 where
  pub version : ℕ
  pub letters : List ℕ
  pub rest : List ℕ

-- version 4 has an address_size, which is to be 8, and a segment_selector_size, which is to be 0
abbrev pub behind_sizes : ℕ → List ℕ → Option (List ℕ)
behind_sizes version bytes =
    if version == 4 then (if starts_with nat_eq bytes (8 ∷ 0 ∷ []) then Some (drop 2 bytes) else None) else Some bytes

abbrev pub head_behind : ℕ → List ℕ × List ℕ → Result HeadView CfiField
head_behind version parts =
    checked (behind_sizes version parts.1) fields.AddressSize (λ rest. Ok (record { version = version; letters = parts.0; rest = rest }))

unfoldable pub head_in : Format → List ℕ → Result HeadView CfiField
head_in format [] = Err fields.Version
head_in format (version ∷ bytes) =
    if is_version format version then checked (augmentation bytes) fields.Augmentation (head_behind version) else Err fields.Version

-- the alignment factors, the return address register, and the bytes after them
pub record FactorsView : Type 0 where
  pub code_align : ℕ
  pub data_align : ℕ
  pub column : ℕ
  pub rest : List ℕ

abbrev pub first_byte : List ℕ → Option (ℕ × List ℕ)
first_byte [] = None
first_byte (x ∷ xs) = Some (x, xs)

abbrev pub if_register : ℕ × List ℕ → Option (ℕ × List ℕ)
if_register n = if nat_le 1 n.0 && nat_le n.0 31 then Some n else None

-- a byte in version 1, else a ULEB128
abbrev pub number_in : ℕ → List ℕ → Option (ℕ × List ℕ)
number_in version bytes = if version == 1 then first_byte bytes else uleb bytes

-- the register is one of x1 to x31
unfoldable pub column_in : ℕ → List ℕ → Option (ℕ × List ℕ)
column_in version bytes = option_and_then if_register (number_in version bytes)

unfoldable pub factors_in : ℕ → List ℕ → Result FactorsView CfiField
factors_in version bytes =
    checked (uleb bytes) fields.CodeAlign (λ code.
    checked (sleb code.1) fields.DataAlign (λ align.
    checked (column_in version align.1) fields.ReturnColumn (λ column.
    Ok (record { code_align = code.0; data_align = align.0; column = column.0; rest = column.1 }))))

-- the encoding of the FDEs' pointers, 0 if the data do not have it, and the bytes after the augmentation data
pub record DataView : Type 0 where
  pub encoding : ℕ
  pub rest : List ℕ

unfoldable pub data_in : List ℕ → List ℕ → Result DataView CfiField
data_in [] bytes = Ok (record { encoding = 0; rest = bytes })
data_in (z ∷ letters) bytes =
    checked (sized bytes) fields.AugmentationLength (λ parts.
    checked (encoding_among 0 letters parts.0) fields.Encoding (λ e.
    Ok (record { encoding = e; rest = parts.1 })))

-- the fields of a CIE
pub record CieView : Type 0 where
  pub code_align : ℕ
  pub data_align : ℕ
  pub column : ℕ
  pub signal : Bool
  pub encoding : ℕ
  pub augmented : Bool
  pub program : List ℕ

-- there is augmentation data if there is a string
abbrev pub is_augmented : List ℕ → Bool
is_augmented [] = false
is_augmented (z ∷ letters) = true

unfoldable pub cie_in : Format → List ℕ → Result CieView CfiField
cie_in format bytes =
    and_then (head_in format bytes) (λ head.
    and_then (factors_in head.version head.rest) (λ factors.
    and_then (data_in head.letters factors.rest) (λ tail.
    Ok (record {
      code_align = factors.code_align;
      data_align = factors.data_align;
      column = factors.column;
      signal = is_signal head.letters;
      encoding = tail.encoding;
      augmented = is_augmented head.letters;
      program = tail.rest;
    }))))
