-- The FDE that describes an address of an image, or why there isn't one.
use Rattle.std.specs.Prelude.{ℕ, List, Option, None, Some, Result, Ok, Err}
use Rattle.std.specs.Option.{option_or}
use Rattle.call_frames.specs.Covering.{first_covering}
use Rattle.call_frames.specs.Entry.{TableView, EntryView}
use Rattle.call_frames.specs.Tables.{eh_frame_of, debug_frame_of}
use Rattle.call_frames.specs.Walk.{first_fault}
use Rattle.call_frames.specs.declared.faults.CfiFault.{CfiFault}
use Rattle.call_frames.specs.declared.faults.NoEntry.{NoEntry}
use Rattle.call_frames.specs.declared.faults.NoEntry.TheVariants.{Uncovered, Faulty}

-- if no FDE is found, a fault may hide one
abbrev pub answer : Option EntryView → Option CfiFault → Result EntryView NoEntry
answer (Some entry) fault = Ok entry
answer None (Some fault) = Err (Faulty fault)
answer None None = Err Uncovered

-- the first FDE of the first table that covers v, else the first of the second; else the first fault of the first table
-- that has one
abbrev pub entry_for : ℕ → TableView → TableView → Result EntryView NoEntry
entry_for v t u = answer (option_or (first_covering v t) (first_covering v u)) (option_or (first_fault t) (first_fault u))

-- the same of an executable, and of its debug file, if there is one
abbrev pub entry_of : List ℕ → Option (List ℕ) → ℕ → Result EntryView NoEntry
entry_of b debug v = entry_for v (eh_frame_of b) (debug_frame_of b debug)
