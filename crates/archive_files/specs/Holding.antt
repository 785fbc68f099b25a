-- The bytes that an output which holds a reply has taken.
use Rattle.std.specs.Prelude.{ℕ, List, Option}
use Rattle.std.specs.Io.KnownBytes.{append_known}
use Rattle.script_streams.specs.declared.streams.Output as output
use Rattle.archive_files.specs.declared.held.Held.{Held}

-- the bytes that the output below it has taken, and then those that are held
abbrev pub taken_by : {O : Type 0} → output.Ghosts O → Held O → Option (List ℕ)
taken_by o h = append_known (o.taken h.output.now) h.unsent
