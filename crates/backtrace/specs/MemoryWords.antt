-- Memories by their words.
use Rattle.std.specs.Prelude.{ℕ, ◌+◌, ◌-◌, ◌&&◌, nat_le, if◌then◌else◌, List, length, None, Some}
use Rattle.elf_view.specs.Field.{field}
use Rattle.address_space.specs.Source.{word_at}
use Rattle.address_space.specs.SpaceWords.{space_of}
use Rattle.address_space.specs.declared.space.AddressSpace.{AddressSpace}
use Rattle.backtrace.specs.Chain.{Memory}
use Rattle.backtrace.specs.declared.words.Words.{Words}
use Rattle.backtrace.specs.declared.words.Words.TheVariants.{Space, Stack}

-- the word of eight bytes at each address if all of them are there
abbrev pub memory_of : AddressSpace → Memory
memory_of space a = word_at (space_of space) a 8

-- the words of bytes that are at addresses in a row, from `first` on
unfoldable pub words_in : ℕ → List ℕ → Memory
words_in first bytes a = if nat_le first a && nat_le (a + 8) (first + length bytes) then Some (field bytes (a - first) 8) else None

-- those that frames are taken from
abbrev pub words_by : Words → Memory
words_by (Space space) = memory_of space.now
words_by (Stack stack) = words_in stack.first stack.bytes.now
