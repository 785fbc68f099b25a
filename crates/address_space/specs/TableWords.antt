-- Which tables the code's address space has.
use Rattle.std.specs.Prelude.{Bool, is_some}
use Rattle.address_space.specs.declared.space.AddressSpace.{AddressSpace}

-- one of its segments
abbrev pub has_table : AddressSpace → Bool
has_table s = is_some s.table

-- one of the entries of NT_FILE
abbrev pub has_file_table : AddressSpace → Bool
has_file_table s = is_some s.file_table
