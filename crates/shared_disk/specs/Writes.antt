-- The parts of the writes that the journal's calls make, and of those into data blocks, as statements: each is a step from one moment to the next.
use Rattle.std.specs.Prelude.{◌≢◌, ℕ, ◌+◌, ◌<◌, ◌≤◌, List, [], ◌∷◌, slice_index}
use Rattle.disk_model.specs.Places.{overwritten, SameOutside}
use Rattle.journal_layout.specs.Layout.{half_start, half_length, data_start}
use Rattle.journal_layout.specs.Record.{Record}
use Rattle.journal_layout.specs.Folding.{Folded}
use Rattle.journal_layout.specs.Standing.{Standing, lengthened}
use Rattle.journal_layout.specs.Stands.{Stands}
use Rattle.journal_layout.specs.Rewriting.{other_start, rewritten, HoldsSnapshot, MayRewrite}
use Rattle.case_journal.specs.Publishing.{Publishes}
use Rattle.case_journal.specs.Settling.{gate_behind}
use Rattle.shared_disk.specs.History.{MayLead}

-- Any bytes may come into the range, since between two moments any part of a write may be done.
pub record WritesAreSteps : Type 0 where
  -- the bytes after the gate behind the records, as `publish` writes them first
  pub behind_records : (b c : List ℕ) (s : Standing) (at n : ℕ) → Stands b s → SameOutside at n b c → gate_behind s < at → at + n ≤ half_start s.shape s.half + half_length s.shape → MayLead b s c s
  -- then the gate, over a record that is there
  pub record_gate : (b : List ℕ) (s : Standing) (r : Record) (gate : ℕ) (behind : List ℕ) → Stands b s → Publishes s r gate behind
      → MayLead (overwritten b (gate + 1) behind) s (overwritten (overwritten b (gate + 1) behind) gate (165 ∷ [])) (lengthened s r)
  -- the gate of the other half, which a rewriting closes first
  pub other_gate : (b : List ℕ) (s : Standing) → Stands b s → MayLead b s (overwritten b (other_start s) (0 ∷ [])) s
  -- the bytes after the other half's gate
  pub behind_other : (b c : List ℕ) (s : Standing) (at n : ℕ) → Stands b s → slice_index b (other_start s) ≢ 165 → SameOutside at n b c
      → other_start s < at → at + n ≤ other_start s + half_length s.shape → MayLead b s c s
  -- then that gate again, over a snapshot
  pub other_taken : (b : List ℕ) (s : Standing) (f : Folded) → Stands b s → slice_index b (other_start s) ≢ 165 → MayRewrite s f → HoldsSnapshot s f b
      → MayLead b s (overwritten b (other_start s) (165 ∷ [])) (rewritten s f)
  -- data blocks
  pub data_blocks : (b c : List ℕ) (s : Standing) (at n : ℕ) → Stands b s → SameOutside at n b c → data_start s.shape ≤ at → MayLead b s c s
  -- a gate that is written again as it reads
  pub same_again : (b : List ℕ) (s : Standing) → MayLead b s b s
