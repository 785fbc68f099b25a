-- The archive that a stop leaves of a session: the one after each line that was answered.
use Rattle.std.specs.Prelude.{◌≡◌, ◌⊎◌, ℕ, List, [], ◌∷◌, ◌++◌, map, codes, IsTrue}
use Rattle.std.specs.List.{AllByRecursion}
use Rattle.disk_model.specs.declared.disk.Disk as disk
use Rattle.intake.specs.Durable.{Durable, durable_of, without, flagged, labelled, upgraded}
use Rattle.intake.specs.Guarding.{MayBeStored, MayBeRetired}
use Rattle.intake.specs.Marks.{Mark, Passes, IsMarkSettled, IsFoundSince, mark_of}
use Rattle.intake.specs.Parts.{Parts, state_of, contents_of}
use Rattle.script_lines.specs.Said.{Said, end_of, delete_of, pin_of, label_of, retire_by, upgrade_archive}
use Rattle.script_streams.specs.Replies.{no_reply}

-- the state when a line has been answered
pub record Stage (D : Type 0) : Type 0 where
  pub archive : Parts D
  -- the cases that lines that were answered `no Disk` would have left
  pub in_doubt : List Durable

abbrev pub mark_at : {D : Type 0} → (D → List ℕ) → Stage D → Mark D
mark_at seen s = mark_of seen s.archive s.in_doubt

-- the archive that a line would have left, had the disk not failed
abbrev pub MayLeave : {D : Type 0} → disk.Ghosts D → Parts D → Said → Durable → Type 0
MayLeave g old (end_of slot) x = MayBeStored (state_of old) (contents_of g.seen old) (durable_of g.seen old) slot x
MayLeave g old (delete_of seq) x = x ≡ without (durable_of g.seen old) (seq ∷ [])
MayLeave g old (pin_of seq flag) x = x ≡ flagged (durable_of g.seen old) seq flag
MayLeave g old (label_of seq label) x = x ≡ labelled (durable_of g.seen old) seq label
MayLeave g old upgrade_archive x = x ≡ upgraded (durable_of g.seen old)
MayLeave g old (retire_by policy) x = MayBeRetired (state_of old) policy (durable_of g.seen old) x
MayLeave g old _ x = ⊥

-- A line leads from stage to stage: a crash meanwhile leaves bytes that one before could have left, or those of one of the two.
-- Only if it was answered `no Disk` is anything in doubt anew.
pub record Moves {D : Type 0} (g : disk.Ghosts D) (old : Stage D) (what : Said) (reply : List ℕ) (new : Stage D) : Type 0 where
  pub doubts : List Durable
  pub in_doubt : new.in_doubt ≡ doubts ++ old.in_doubt
  pub doubted : (doubts ≡ []) ⊎ ((reply ≡ no_reply (codes "Disk")) × AllByRecursion (MayLeave g old.archive what) doubts)
  pub passes : Passes g (mark_at g.seen old) (mark_at g.seen new)

-- the stages of a session: after each line, after its last line, and when its streams are dropped
abbrev pub marks_of : {D : Type 0} → (D → List ℕ) → List (Stage D) → Stage D → Parts D → List (Mark D)
marks_of seen stages end new = map (mark_at seen) stages ++ mark_at seen end ∷ mark_of seen new end.in_doubt ∷ []

-- Whenever the machine stops: whatever crash there was since a stage, between two disk writes or within one, an opening finds
-- the cases of that stage or of a later one, each image byte for byte; or those that are in doubt there.
abbrev pub IsFoundAfterAStop : {D : Type 0} → disk.Ghosts D → Stage D → List (Stage D) → Stage D → Parts D → Type 0
IsFoundAfterAStop g old stages end new =
    IsTrue (g.is_honest old.archive.disk) → IsMarkSettled g (mark_at g.seen old) → IsFoundSince g (mark_at g.seen old) (marks_of g.seen stages end new)
