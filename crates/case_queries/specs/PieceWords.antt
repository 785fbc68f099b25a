-- The meaning of borrowed pieces.
use Rattle.std.specs.Prelude.{ℕ, List}
use Rattle.seen_memory.specs.declared.part.Part.{Part}

abbrev pub lent_view : Part → ℕ × List ℕ
lent_view p = (p.at, p.bytes.now)
