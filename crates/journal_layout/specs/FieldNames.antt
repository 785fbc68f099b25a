-- The names of the layout's fields in reports.
use Rattle.std.specs.Prelude.{ℕ, List, codes}
use Rattle.journal_layout.specs.declared.faults.Field.{Field}
use Rattle.journal_layout.specs.declared.faults.Field.TheVariants as field

abbrev pub field_name : Field → List ℕ
field_name field.Shape = codes "shape"
field_name field.Gate = codes "gate"
field_name field.Generation = codes "generation"
field_name field.Kind = codes "kind"
field_name field.Reserved = codes "reserved"
field_name field.Length = codes "length"
field_name field.Seq = codes "seq"
field_name field.CaseKind = codes "case_kind"
field_name field.Pinned = codes "pinned"
field_name field.NameLength = codes "name_length"
field_name field.Runs = codes "runs"
field_name field.Run = codes "run"
field_name field.ImageLength = codes "image_length"
field_name field.Name = codes "name"
field_name field.Padding = codes "padding"
field_name field.Count = codes "count"
field_name field.Flag = codes "flag"
field_name field.Next = codes "next"
field_name field.LabelLength = codes "label_length"
