-- The cores in a directory.
use Rattle.std.specs.Prelude.{ℕ, List, map, sum}
use Rattle.handler_files.specs.declared.entries.Entry.{Entry}

-- how many bytes their files have together
abbrev pub bytes_sum : List Entry → ℕ
bytes_sum entries = sum (map (λ e. e.bytes) entries)
