-- The meaning of the code's data of sections.
use Rattle.std.specs.Prelude.{ℕ, Bool, true, false, List, Option, None, Some}
use Rattle.inflate.specs.Sections.{DataView}
use Rattle.inflate.specs.declared.section_bytes.SectionBytes.{SectionBytes}
use Rattle.inflate.specs.declared.section_bytes.SectionBytes.TheVariants.{Stored, Decompressed}
use Rattle.inflate.specs.declared.section_bytes.SectionData.{SectionData}
use Rattle.inflate.specs.declared.sections.FoundSection.{FoundSection}
use Rattle.inflate.specs.declared.sections.FoundSection.TheVariants.{Data, Unread, Missing}

abbrev pub bytes_in : SectionBytes → List ℕ
bytes_in (Stored bytes) = bytes.now
bytes_in (Decompressed bytes) = bytes.items

abbrev pub data_view : SectionData → DataView
data_view d = record { addr = d.addr; bytes = bytes_in d.bytes }

-- the data that were found
abbrev pub data_in : FoundSection → Option DataView
data_in (Data d) = Some (data_view d)
data_in Unread = None
data_in Missing = None

abbrev pub is_unread : FoundSection → Bool
is_unread (Data d) = false
is_unread Unread = true
is_unread Missing = false
