-- How the lock of an archive's file is taken.
use Rattle.disk_model.specs.declared.held_facts.Hold.{Hold}
use Rattle.disk_model.specs.declared.held_facts.Hold.TheVariants.{Shared, Alone}
use Rattle.archive_files.specs.declared.archives.Access.{Access}
use Rattle.archive_files.specs.declared.archives.Access.TheVariants.{Looking, Changing}

-- commands that only look share it
abbrev pub hold_of : Access → Hold
hold_of Looking = Shared
hold_of Changing = Alone
