-- A record as it is put after those of a journal.
use Rattle.std.specs.Prelude.{◌≡◌, ℕ, ◌+◌, ◌≤◌, List, [], ◌∷◌, ◌++◌, length}
use Rattle.journal_layout.specs.Layout.{half_start, half_length}
use Rattle.journal_layout.specs.Record.{Record, behind_gate, record_size}
use Rattle.journal_layout.specs.Standing.{Standing}
use Rattle.case_journal.specs.Append.{MayFollow}

-- The record may be the next, with its gate at this place; these bytes are those after its gate, and a closed gate.
pub record Publishes (s : Standing) (r : Record) (gate : ℕ) (behind : List ℕ) : Type 0 where
  pub place : gate ≡ half_start s.shape s.half + s.used
  pub bytes : behind ≡ behind_gate r ++ 0 ∷ []
  pub long : length behind ≡ record_size r
  pub in_half : s.used + record_size r + 1 ≤ half_length s.shape
  pub sound : MayFollow s r
