-- The content of a disk while others change the archive on it, one write after the other: its moments, in order. From one moment to the next, a
-- part of one write of a call is done: each place of the write has its old byte or its new one, and each part of the write is a moment.
use Rattle.std.specs.Prelude.{◌≡◌, ◌≢◌, ◌⊎◌, ℕ, ◌+◌, ◌%◌, ◌<◌, ◌≤◌, List, [], ◌∷◌, ◌++◌, length, get_or, slice_index}
use Rattle.disk_model.specs.Places.{part, SameOutside}
use Rattle.journal_layout.specs.declared.shape.Shape.{Shape}
use Rattle.journal_layout.specs.declared.shape.Half.{Half}
use Rattle.journal_layout.specs.Layout.{field, half_start, half_length}
use Rattle.journal_layout.specs.Record.{Record, record_size, behind_gate}
use Rattle.journal_layout.specs.Folding.{Folded, nothing_yet, sizes}
use Rattle.journal_layout.specs.Soundness.{IsSound}
use Rattle.journal_layout.specs.Standing.{Standing, folded_of, lengthened}
use Rattle.journal_layout.specs.Stands.{Stands, StandInRow, records_area}
use Rattle.journal_layout.specs.Rewriting.{other_start, rewritten, HoldsSnapshot, MayRewrite}
use Rattle.case_journal.specs.Settling.{gate_behind}
use Rattle.case_journal.specs.Doubting.{DiffersUnread}

-- the bytes of the moment of this number
abbrev pub moment : List (List ℕ) → ℕ → List ℕ
moment moments k = get_or moments k []

-- Bytes were written that no opening reads: those after the gate behind the records of the taken half, those after the gate of the other half while
-- it is closed, or data blocks. The bytes that `publish` writes behind a gate are such bytes, and so are those that `rewrite` writes into the other
-- half before it opens its gate.
pub record WritesUnread (b : List ℕ) (s : Standing) (c : List ℕ) (t : Standing) : Type 0 where
  pub same : t ≡ s
  pub long : length c ≡ length b
  pub differs : DiffersUnread b c s

-- The gate behind the records of the taken half was opened, over a record with a closed gate after it that is there in full: `publish` ends so.
pub record OpensRecord (b : List ℕ) (s : Standing) (c : List ℕ) (t : Standing) : Type 0 where
  pub opened : Record
  pub after : t ≡ lengthened s opened
  pub behind : part b (gate_behind s + 1) (record_size opened) ≡ behind_gate opened ++ 0 ∷ []
  pub in_half : s.used + record_size opened + 1 ≤ half_length s.shape
  pub sound : IsSound s.shape.data_blocks (folded_of s) opened
  pub gate : slice_index c (gate_behind s) ≡ 165
  pub others : SameOutside (gate_behind s) 1 b c

-- The gate of the other half was closed: `rewrite` begins so.
pub record ShutsOther (b : List ℕ) (s : Standing) (c : List ℕ) (t : Standing) : Type 0 where
  pub same : t ≡ s
  pub gate : slice_index c (other_start s) ≢ 165
  pub others : SameOutside (other_start s) 1 b c

-- The gate of the other half was opened, over a snapshot that is there in full: `rewrite` ends so.
pub record OpensOther (b : List ℕ) (s : Standing) (c : List ℕ) (t : Standing) : Type 0 where
  pub said : Folded
  pub after : t ≡ rewritten s said
  pub may : MayRewrite s said
  pub holds : HoldsSnapshot s said b
  pub shut : slice_index b (other_start s) ≢ 165
  pub gate : slice_index c (other_start s) ≡ 165
  pub others : SameOutside (other_start s) 1 b c

-- Of b, which encodes s, a part of one write makes c, which then encodes t.
abbrev pub MayLead : List ℕ → Standing → List ℕ → Standing → Type 0
MayLead b s c t = WritesUnread b s c t ⊎ OpensRecord b s c t ⊎ ShutsOther b s c t ⊎ OpensOther b s c t

-- Each moment is made of the one before by a part of one write, and the first one encodes an archive.
pub record AreMoments (moments : List (List ℕ)) (standing : ℕ → Standing) : Type 0 where
  pub some : 0 < length moments
  pub first : Stands (moment moments 0) (standing 0)
  pub steps : (k : ℕ) → k + 1 < length moments → MayLead (moment moments k) (standing k) (moment moments (k + 1)) (standing (k + 1))

-- Generations are used once and rise. `mark` is the generation that the lowest byte of a half's generation belongs to: if the half's gate is open,
-- its generation; if it is closed, the one that it had, or the next one, which is written there byte by byte.
pub record AreMarked (moments : List (List ℕ)) (shape : Shape) (mark : Half → ℕ → ℕ) : Type 0 where
  pub lowest : (h : Half) (k : ℕ) → k < length moments → slice_index (moment moments k) (half_start shape h + 8) ≡ mark h k % 256
  pub rises : (h : Half) (k : ℕ) → k + 1 < length moments → mark h k ≤ mark h (k + 1)
  pub whole : (h : Half) (k : ℕ) → k < length moments → slice_index (moment moments k) (half_start shape h) ≡ 165
      → mark h k ≡ field (moment moments k) (half_start shape h + 8) 8

-- the records of the taken half
abbrev pub AreRecordsOf : List ℕ → Standing → List Record → Type 0
AreRecordsOf b s records = StandInRow s.shape.data_blocks (records_area b s.shape s.half) (nothing_yet s.version) records × (32 + sizes records ≡ s.used)

-- The same half is taken, with the same generation. Its records are those that it had, and maybe more after them, and their bytes are as they were.
pub record HasGrown (b : List ℕ) (s : Standing) (c : List ℕ) (t : Standing) : Type 0 where
  pub half : t.half ≡ s.half
  pub records : List Record
  pub more : List Record
  pub before : AreRecordsOf b s records
  pub now : AreRecordsOf c t (records ++ more)
  pub bytes : part c (half_start s.shape s.half) s.used ≡ part b (half_start s.shape s.half) s.used
