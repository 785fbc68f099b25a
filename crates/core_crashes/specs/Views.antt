-- Crashes as the program has them.
use Rattle.std.specs.Prelude.{ℕ, List, [], Option, None, Some, Vec}
use Rattle.std.specs.Borrow.{Bor}
use Rattle.std.specs.Global.{Global}
use Rattle.std.specs.Option.{option_map}
use Rattle.build_replies.specs.declared.answers.BuildAnswer.{BuildAnswer}
use Rattle.group_tables.specs.Values.{crash_said}
use Rattle.group_tables.specs.declared.numbers.CrashPlace.{CrashPlace}
use Rattle.group_tables.specs.declared.numbers.CrashedCore.{CrashedCore}
use Rattle.core_crashes.specs.Crashes.{CrashedSaid, PlaceSaid}

abbrev pub id_kept : Option (Vec ℕ Global) → Option (List ℕ)
id_kept kept = option_map (λ (v : Vec ℕ Global). v.items) kept

abbrev pub place_said : CrashPlace → PlaceSaid
place_said p = record { build = id_kept p.build; text = p.text.items }

abbrev pub crashed_said : CrashedCore → CrashedSaid
crashed_said c = record { number = c.number; crash = crash_said c.crash; place = option_map place_said c.place }

-- the builds of a core's mapped files; none, if it has no NT_FILE
abbrev pub rows_said : Option (Bor (List BuildAnswer)) → List BuildAnswer
rows_said None = []
rows_said (Some rows) = rows.now
