-- The parts of an archive, as its contracts see it.
use Rattle.std.specs.Prelude.{ℕ, ◌%◌, Bool, List, Option, ◌++◌, map, option_map, take, drop}
use Rattle.journal_layout.specs.Case.{Case}
use Rattle.case_journal.specs.Journaled.{Journaled}
use Rattle.intake.specs.Blocks.{joined, image_in}
use Rattle.intake.specs.State.{StreamFacts, ArchiveState}
use Rattle.intake.specs.Contents.{Taken, Contents}

-- a stream, with the 4,096 bytes of the block that it fills now
pub record StreamParts : Type 0 where
  pub facts : StreamFacts
  pub block : List ℕ

pub record Parts (D : Type 0) : Type 0 where
  pub disk : D
  pub journal : Journaled
  pub limit : ℕ
  -- by slot
  pub streams : List (Option StreamParts)
  pub stopped : Bool

abbrev pub stream_facts : StreamParts → StreamFacts
stream_facts s = s.facts

-- the state without bytes
abbrev pub state_of : {D : Type 0} → Parts D → ArchiveState
state_of a = record {
  shape = a.journal.standing.shape;
  version = a.journal.standing.version;
  limit = a.limit;
  cases = a.journal.standing.cases;
  next = a.journal.standing.next;
  used = a.journal.standing.used;
  generation = a.journal.standing.generation;
  streams = map (option_map stream_facts) a.streams;
  stopped = a.stopped;
}

-- the bytes that a stream has taken, of which the disk holds these
abbrev pub taken_in : Journaled → List ℕ → StreamParts → Taken
taken_in j bytes s = record {
  bytes = joined j.standing.shape bytes s.facts.blocks ++ take (s.facts.len % 4096) s.block;
  free = drop (s.facts.len % 4096) s.block;
}

-- the bytes of the cases and of the streams, on a disk that reads so
abbrev pub contents_of : {D : Type 0} → (D → List ℕ) → Parts D → Contents
contents_of seen a = record {
  images = map (λ (c : Case). image_in a.journal.standing.shape (seen a.disk) c.blocks c.len) a.journal.standing.cases;
  taken = map (option_map (taken_in a.journal (seen a.disk))) a.streams;
}
