-- A stream as contracts see it.
use Rattle.std.specs.Prelude.{ℕ, List, Option, option_map}
use Rattle.journal_layout.specs.Case.{Case}
use Rattle.intake.specs.State.{StreamFacts}
use Rattle.intake.specs.Step.{case_from}
use Rattle.intake.specs.declared.stream.Stream.{Stream}
use Rattle.intake.specs.declared.slots.Slot.{Slot}
use Rattle.intake.specs.Parts.{StreamParts}

-- a stream without its block
abbrev pub facts_of : Stream → StreamFacts
facts_of s = record {
  origin = record { kind = s.kind; name = s.name.items; pid = s.pid; signal = s.signal; time = s.time };
  len = s.length;
  blocks = s.runs;
}

-- a stream whose block holds this
abbrev pub parts_of : List ℕ → Stream → StreamParts
parts_of block s = record { facts = facts_of s; block = block }

-- the stream in a slot, if there is one
abbrev pub parts_in : Slot → Option StreamParts
parts_in slot = option_map (parts_of slot.block) slot.stream

-- the case that a stream becomes, not numbered yet, and with no label
abbrev pub case_from_parts : StreamParts → Case
case_from_parts s = case_from s.facts 0 s.facts.blocks

-- a stream that was taken out of its slot, with its block
abbrev pub taken_parts : Stream × List ℕ → StreamParts
taken_parts t = parts_of t.1 t.0
