use Rattle.std.proofs.Common.{◌≡◌, take}
use Rattle.std.specs.List.{flat_map}
use Rattle.std.specs.String.{string_bytes}
use Rattle.script_words.specs.Printing.{shown_byte}
use Rattle.case_tables.proofs.objects.printed.Given as goal

abbrev pub invariant-loop-byte : goal.invariant-loop-byte
invariant-loop-byte l = string_bytes l.value ≡ flat_map shown_byte (take l.byte-index l.text)
