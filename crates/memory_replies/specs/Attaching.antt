-- One more executable for a memory.
use Rattle.std.specs.Prelude.{if◌then◌else◌}
use Rattle.address_space.specs.Source.{Space, ExecutableView, with_executable}
use Rattle.memory_replies.specs.Memory.{is_attached}

-- the executable is attached last, or skipped
abbrev pub with_attached : Space → ExecutableView → Space
with_attached space x = if is_attached x then with_executable space x.path x.image else space
