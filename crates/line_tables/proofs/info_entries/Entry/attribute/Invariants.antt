use Rattle.std.proofs.Common.{◌≡◌, ◌-◌, length}
use Rattle.std.specs.Option.{option_map}
use Rattle.line_tables.specs.InfoEntries as spec
use Rattle.line_tables.specs.InfoEntryWords.{attribute_view, entry_view}
use Rattle.line_tables.proofs.InfoLoops.{first_of}
use Rattle.line_tables.proofs.info_entries.Entry.attribute.Given as goal

-- the attribute of the whole entry is the one that is found, or else that of the attributes that are left
abbrev pub invariant-loop-i : goal.invariant-loop-i
invariant-loop-i l =
    spec.attribute l.name (entry_view l.self) ≡ first_of l.name (option_map attribute_view l.found) (spec.attributes_for (length l.self.specifications.now - l.i) l.self.version l.specifications l.values)
