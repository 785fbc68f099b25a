-- A device's number, as stat(2) has it and as the table does.
use Rattle.std.specs.Prelude.{ℕ, ◌+◌, ◌*◌, ◌/◌, ◌%◌, ◌^◌, List, ◌++◌, codes, decimal}

-- bits 8 to 19, and above them bits 44 to 63
abbrev pub major : ℕ → ℕ
major device = (device / 2 ^ 8) % 2 ^ 12 + (device / 2 ^ 44) * 2 ^ 12

-- bits 0 to 7, and above them bits 20 to 43
abbrev pub minor : ℕ → ℕ
minor device = device % 2 ^ 8 + (device / 2 ^ 20) % 2 ^ 24 * 2 ^ 8

-- MAJOR:MINOR
abbrev pub device_text : ℕ → List ℕ
device_text device = decimal (major device) ++ (codes ":" ++ decimal (minor device))
