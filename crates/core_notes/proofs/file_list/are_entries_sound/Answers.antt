use Rattle.std.proofs.Common.{◌-◌, sym, ◌∙◌, arith}
use Rattle.core_notes.specs.FileList.{is_entry_sound}
use Rattle.core_notes.proofs.Entries.{all_passes, all_fails, none_past}
use Rattle.core_notes.proofs.file_list.are_entries_sound.Goals as goal

pub returns-then-not-is_entry_sound : goal.returns-then-not-is_entry_sound
returns-then-not-is_entry_sound c =
    sym (c.loop-i.invariant ∙ all_fails (is_entry_sound c.args.desc.now) c.loop-i.i c.args.count (omega arith) c.if-not-is_entry_sound.ensures)

pub loop-i-preserved : goal.loop-i-preserved
loop-i-preserved c =
    c.loop-i.invariant ∙ all_passes (is_entry_sound c.args.desc.now) c.loop-i.i c.args.count (omega arith) c.if-not-is_entry_sound.ensures

pub returns : goal.returns
returns c =
    sym (c.loop-i.invariant ∙ none_past (is_entry_sound c.args.desc.now) c.loop-i.i (c.args.count - c.loop-i.i) (omega arith))
