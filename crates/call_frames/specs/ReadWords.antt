-- The meaning of the code's numbers and ranges, with the bytes after them.
use Rattle.std.specs.Prelude.{ℕ}
use Rattle.call_frames.specs.declared.pointers.Width.{Width}
use Rattle.call_frames.specs.declared.pointers.Width.TheVariants.{Two, Four, Eight}

-- how many bytes a pointer has
abbrev pub bytes_of : Width → ℕ
bytes_of Two = 2
bytes_of Four = 4
bytes_of Eight = 8
