-- The known facts about a new file after each call.
use Rattle.std.specs.Prelude.{Bool, true, false, not, ◌&&◌}
use Rattle.whole_files.specs.declared.facts.FileFacts.{FileFacts}
use Rattle.whole_files.specs.declared.facts.Looks.{Looks}
use Rattle.whole_files.specs.declared.new_file.Linked.{Linked}
use Rattle.whole_files.specs.declared.new_file.Linked.TheVariants.{Named, Taken, Impossible}

-- the latest call has shown nothing of the names
abbrev pub no_looks : Looks
no_looks = record { is_at_part = false; is_at_path = false; is_old_at_path = false; is_path_free = false }

-- a file that was found under PATH.part, and opened
abbrev pub left_behind : FileFacts
left_behind = record {
  is_made = false;
  is_locked = false;
  is_synced = false;
  has_failed_sync = false;
  is_named = false;
  is_durable = false;
  has_replaced = false;
  is_let_go = false;
  looks = no_looks;
}

-- a file that was made, and no more
abbrev pub just_made : FileFacts
just_made = record left_behind { is_made = true }

-- a call has come after the looks
abbrev pub unlooked : FileFacts → FileFacts
unlooked f = record f { looks = no_looks }

-- it may have changed
abbrev pub written : FileFacts → FileFacts
written f = record (unlooked f) { is_synced = false }

-- its lock was asked for, and this is whether it was given
abbrev pub locked_if : Bool → FileFacts → FileFacts
locked_if given f = record (unlooked f) { is_locked = given }

-- it was synced, and this is whether that succeeded
abbrev pub synced_if : Bool → FileFacts → FileFacts
synced_if good f = record (unlooked f) { is_synced = good; has_failed_sync = not good }

-- PATH.part was looked at, and this is whether it names the file: that stays so that PATH names the other file
abbrev pub seen_at_part : Bool → FileFacts → FileFacts
seen_at_part there f = record f {
  is_let_go = not there;
  looks = record no_looks { is_at_part = there; is_old_at_path = f.looks.is_old_at_path };
}

-- PATH was looked at, and this is whether it names the file
abbrev pub seen_at_path : Bool → FileFacts → FileFacts
seen_at_path there f = record f { looks = record no_looks { is_at_path = there } }

-- PATH was looked at, and this is whether it names the other file
abbrev pub seen_old : Bool → FileFacts → FileFacts
seen_old there f = record f { looks = record no_looks { is_old_at_path = there } }

-- It was to get a second name. Both name one file then: the one that PATH.part was seen to name.
abbrev pub linked_so : Linked → FileFacts → FileFacts
linked_so Named f = record f { is_named = true; looks = record no_looks { is_at_part = true } }
linked_so Taken f = unlooked f
linked_so Impossible f = record f { looks = record no_looks { is_path_free = true } }

-- it was renamed to PATH, and this is whether that succeeded
abbrev pub renamed_if : Bool → FileFacts → FileFacts
renamed_if good f = record (unlooked f) { is_named = good; is_let_go = good }

-- it was renamed to PATH in the place of the other file, and this is whether that succeeded
abbrev pub replaced_if : Bool → FileFacts → FileFacts
replaced_if good f = record (unlooked f) { is_named = good; is_let_go = good; has_replaced = good }

-- the removal of the name PATH.part was asked for
abbrev pub removed : FileFacts → FileFacts
removed f = record (unlooked f) { is_let_go = true }

-- its directory was synced, and this is whether that succeeded
abbrev pub folder_synced_if : Bool → FileFacts → FileFacts
folder_synced_if good f = record (unlooked f) { is_durable = good && f.is_named }
