-- The frames of a thread of a core that is read piece by piece.
use Rattle.std.specs.Prelude.{◌≡◌, ℕ, List, Result, Ok, Err}
use Rattle.address_space.specs.Source.{ExecutableView}
use Rattle.address_space.specs.SpaceWords.{core_of}
use Rattle.address_space.specs.Whole.{IsFrontOf}
use Rattle.disk_model.specs.declared.disk.Disk as disk
use Rattle.frame_replies.specs.Processes.{state_of}
use Rattle.frame_replies.specs.Walking.{BeginsAt, HasFound, IsWalkOf}
use Rattle.frame_replies.specs.declared.process.UnwoundProcess.{UnwoundProcess}
use Rattle.frame_replies.specs.declared.walk.Walk.{Walk}
use Rattle.intake.specs.Parts.{Parts}
use Rattle.case_queries.specs.Pieces.{BeginsWith}
use Rattle.case_queries.specs.Seeing.{LooksAt, SeesImage}
use Rattle.case_queries.specs.declared.frames.UnwoundCore.{UnwoundCore}
use Rattle.case_queries.specs.declared.frames.UnwoundThread.{UnwoundThread}
use Rattle.case_queries.specs.declared.walk.CaseImage.{CaseImage}
use Rattle.case_queries.specs.declared.walk.WalkFault.{WalkFault}
use Rattle.case_queries.specs.declared.walk.WalkFault.TheVariants.{Unread, OutOfMemory}
use Rattle.case_queries.specs.declared.window.Part.{Part}

-- Each walk that begins through the frames of a thread is one through those of any image that begins with these bytes and has these pieces,
-- and there is such an image.
pub record BeginsWalks (o : CaseImage) (xs : List ExecutableView) (u : UnwoundCore) : Type 0 where
  pub own : o.front.now ≡ core_of u.process.space
  pub some : (image : List ℕ) × BeginsWith o u.pieces.items image
  pub begins : (t : ℕ) (w : Walk) → BeginsAt (state_of o.front.now t) w → (image : List ℕ) → BeginsWith o u.pieces.items image → IsWalkOf image xs t u.process w

-- all frames of the thread are found
abbrev pub IsUnwound : List ℕ → List ExecutableView → ℕ → UnwoundProcess → UnwoundThread → Type 0
IsUnwound image xs t p u = IsWalkOf image xs t p u.walk × HasFound u.walk u.stop

-- they are found of the image that is seen, which has these pieces; or why it can't be read
abbrev pub FindsThread : {D : Type 0} → disk.Ghosts D → Parts D → CaseImage → List Part → List ExecutableView → ℕ → UnwoundProcess → Result UnwoundThread WalkFault → Parts D → Type 0
FindsThread g before o ps xs t p (Ok u) now = (image : List ℕ) × SeesImage g before o.seq image now × BeginsWith o ps image × IsUnwound image xs t p u
FindsThread g before o ps xs t p (Err (Unread f)) now = LooksAt g before o.seq (Err f) now
FindsThread g before o ps xs t p (Err OutOfMemory) now = (image : List ℕ) × SeesImage g before o.seq image now × IsFrontOf o.front.now o.size image
