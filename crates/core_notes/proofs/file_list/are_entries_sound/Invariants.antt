use Rattle.std.proofs.Common.{◌≡◌, ◌-◌}
use Rattle.std.specs.List.{range_with_len, list_all}
use Rattle.core_notes.specs.FileList.{is_entry_sound}
use Rattle.core_notes.proofs.file_list.are_entries_sound.Given as goal

-- all are sound where those that are left are
abbrev pub invariant-loop-i : goal.invariant-loop-i
invariant-loop-i l =
    list_all (is_entry_sound l.desc) (range_with_len 0 l.count) ≡ list_all (is_entry_sound l.desc) (range_with_len l.i (l.count - l.i))
