use Rattle.std.proofs.Common.{◌≡◌, ◌-◌, find}
use Rattle.std.specs.List.{range_with_len}
use Rattle.core_notes.proofs.Covering.{is_entry_mapping}
use Rattle.core_notes.proofs.file_list.Files.covering.Given as goal

-- the first of all entries that maps the address is the first of those that are left
abbrev pub invariant-loop-i : goal.invariant-loop-i
invariant-loop-i l =
    find (is_entry_mapping l.self.desc.now l.address) (range_with_len 0 l.count) ≡ find (is_entry_mapping l.self.desc.now l.address) (range_with_len l.i (l.count - l.i))
