-- The bytes from which a line that asks a case is answered, as a statement: those that are stored.
use Rattle.std.specs.Prelude.{◌≡◌, ◌⊎◌, ℕ, List, [], ◌∷◌, ◌++◌, length, true, false, None, Some, IsTrue}
use Rattle.address_space.specs.Source.{ExecutableView}
use Rattle.archive_replies.specs.Reasons.{reason_of}
use Rattle.disk_model.specs.Disk.{HasRisen}
use Rattle.disk_model.specs.declared.disk.Disk as disk
use Rattle.image_replies.specs.Reasons.{core_reason}
use Rattle.image_replies.specs.declared.core_image.CoreFault.{CoreFault}
use Rattle.intake.specs.Blocks.{image_in}
use Rattle.intake.specs.Parts.{Parts, state_of}
use Rattle.intake.specs.declared.faults.ArchiveFault.TheVariants.{OutOfMemory, Disk}
use Rattle.journal_layout.specs.Soundness.{case_numbered}
use Rattle.journal_layout.specs.Case.{Case}
use Rattle.journal_layout.specs.declared.entry.Kind.{Kind}
use Rattle.script_lines.specs.Queries.{QuerySaid}
use Rattle.script_streams.specs.Replies.{no_reply, reply_of}
use Rattle.case_queries.specs.Collecting.{Wanted, debugs_for, wanted_for}
use Rattle.case_queries.specs.Inspecting.{Inspects, MayAsk, answer_of, core_fault_for, reads_executables}

-- These bytes are the image of the case of this number, each at its place: those of the blocks that it has on the disk, one block after
-- another, as many as the case has.
pub record IsStored {D : Type 0} (seen : D → List ℕ) (a : Parts D) (seq : ℕ) (image : List ℕ) : Type 0 where
  pub entry : Case
  pub has : case_numbered seq (state_of a).cases ≡ Some entry
  pub bytes : image ≡ image_in (state_of a).shape (seen a.disk) entry.blocks entry.len
  pub long : length image ≡ entry.len

-- These are the executables of these numbers, in their order: each has its name, and the bytes of its own image.
abbrev pub AreStored : {D : Type 0} → (D → List ℕ) → Parts D → List Wanted → List ExecutableView → Type 0
AreStored seen a [] xs = xs ≡ []
AreStored seen a (w ∷ ws) [] = ⊥
AreStored seen a (w ∷ ws) (x ∷ xs) = (x.path ≡ w.1) × IsStored seen a w.0 x.image × AreStored seen a ws xs

-- The reply is the answer of the image as it is stored, and of the executables as they are stored, if the line reads any.
pub data IsAnsweredOfTheCase {D : Type 0} (seen : D → List ℕ) (a : Parts D) (seq : ℕ) (q : QuerySaid) (kind : Kind) (reply : List ℕ) : Type 0 where
  -- of the image alone
  of_image : (image : List ℕ) → IsStored seen a seq image → reads_executables q ≡ false → reply ≡ reply_of (answer_of kind q image [] []) → IsAnsweredOfTheCase seen a seq q kind reply
  -- why the core is not shown
  of_fault : (image : List ℕ) → IsStored seen a seq image → reads_executables q ≡ true → (fault : CoreFault) → core_fault_for q image ≡ Some fault → reply ≡ no_reply (core_reason fault)
      → IsAnsweredOfTheCase seen a seq q kind reply
  -- of the image, of the executables that are read for it, and of the debug files of these
  of_core : (image : List ℕ) → IsStored seen a seq image → reads_executables q ≡ true → core_fault_for q image ≡ None
      → (xs ds : List ExecutableView) → AreStored seen a (wanted_for q image (state_of a).cases) xs → AreStored seen a (debugs_for q image (state_of a).cases xs) ds
      → reply ≡ reply_of (answer_of kind q image (wanted_for q image (state_of a).cases ++ debugs_for q image (state_of a).cases xs) (xs ++ ds))
      → IsAnsweredOfTheCase seen a seq q kind reply

-- There was no memory; or the disk failed, which its count of failures shows.
abbrev pub IsHindered : {D : Type 0} → disk.Ghosts D → Parts D → List ℕ → Parts D → Type 0
IsHindered g old reply new =
    (reply ≡ no_reply (reason_of OutOfMemory)) ⊎ ((reply ≡ no_reply (reason_of Disk)) × HasRisen (g.failures old.disk) (g.failures new.disk))

-- On an honest disk a line that may ask a case is answered from the stored bytes, or it is hindered.
abbrev pub AnswersAreOfTheCase : {D : Type 0} → disk.Ghosts D → Type 0
AnswersAreOfTheCase {D} g =
    (old new : Parts D) (seq : ℕ) (q : QuerySaid) (kind : Kind) (reply : List ℕ) → IsTrue (g.is_honest old.disk) → MayAsk (state_of old) seq q kind
    → Inspects g old seq q reply new → IsAnsweredOfTheCase g.seen old seq q kind reply ⊎ IsHindered g old reply new

-- And the stored bytes have one such answer.
abbrev pub WhatIsStoredHasOneAnswer : {D : Type 0} → disk.Ghosts D → Type 0
WhatIsStoredHasOneAnswer {D} g =
    (a : Parts D) (seq : ℕ) (q : QuerySaid) (kind : Kind) (reply reply' : List ℕ) → IsAnsweredOfTheCase g.seen a seq q kind reply → IsAnsweredOfTheCase g.seen a seq q kind reply'
    → reply' ≡ reply
