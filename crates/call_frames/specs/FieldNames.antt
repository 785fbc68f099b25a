-- The names of the fields of call frame information (DWARF 5, 6.4.1; LSB Core, "Exception Frames").
use Rattle.std.specs.Prelude.{List, ℕ, codes}
use Rattle.call_frames.specs.declared.faults.CfiField.{CfiField}
use Rattle.call_frames.specs.declared.faults.CfiField.TheVariants.{Length, Id, Version, Augmentation, AddressSize, CodeAlign, DataAlign, ReturnColumn, AugmentationLength, Encoding, Cie, PcBegin, PcRange}

abbrev pub cfi_field_name : CfiField → List ℕ
cfi_field_name Length = codes "length"
cfi_field_name Id = codes "id"
cfi_field_name Version = codes "version"
cfi_field_name Augmentation = codes "augmentation"
cfi_field_name AddressSize = codes "address_size"
cfi_field_name CodeAlign = codes "code_align"
cfi_field_name DataAlign = codes "data_align"
cfi_field_name ReturnColumn = codes "return_column"
cfi_field_name AugmentationLength = codes "augmentation_length"
cfi_field_name Encoding = codes "encoding"
cfi_field_name Cie = codes "cie"
cfi_field_name PcBegin = codes "pc_begin"
cfi_field_name PcRange = codes "pc_range"
