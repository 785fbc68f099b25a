-- A walk through the frames of a thread of which not all bytes are at hand.
use Rattle.std.specs.Prelude.{◌≡◌, ◌<◌, ⊤, ℕ, List, ◌++◌, map, filter, Option, None, Some, Result, Ok, Err}
use Rattle.std.specs.List.{AllByRecursion}
use Rattle.address_space.specs.Source.{ExecutableView}
use Rattle.build_replies.specs.Choosing.{Choice, choice_for}
use Rattle.address_space.specs.SpaceWords.{attached_view, core_of, space_of}
use Rattle.address_space.specs.Whole.{space_in}
use Rattle.core_notes.specs.FileList.{FileView}
use Rattle.memory_replies.specs.Memory.{is_attached, memory_of}
use Rattle.memory_replies.specs.Naming.{NamedFile}
use Rattle.seen_memory.specs.Seen.{IsWantedBy}
use Rattle.seen_memory.specs.declared.part.Part.{Part}
use Rattle.unwind.specs.ByTrampoline.{is_trampoline}
use Rattle.unwind.specs.Code.{ProcessView}
use Rattle.unwind.specs.FrameWords.{HaveEnded, frames_left, most_left, stop_left}
use Rattle.unwind.specs.Unwinding.{unwound, stop_of}
use Rattle.unwind.specs.declared.faults.Stop.{Stop}
use Rattle.unwind.specs.declared.frame.Frame.{Frame}
use Rattle.frame_replies.specs.FrameSources.{shown_line}
use Rattle.frame_replies.specs.FrameValues.{FrameValue, value_with}
use Rattle.frame_replies.specs.ProcessWords.{described_view, named_in}
use Rattle.frame_replies.specs.Processes.{named_among, process_in, start_of, state_of, with_code}
use Rattle.frame_replies.specs.declared.lines.Shown.{Shown}
use Rattle.frame_replies.specs.declared.process.UnwoundExecutables.{UnwoundExecutables}
use Rattle.frame_replies.specs.declared.process.UnwoundProcess.{UnwoundProcess}
use Rattle.frame_replies.specs.declared.walk.Walk.{Walk}
use Rattle.frame_replies.specs.declared.walk.WalkedFrame.{WalkedFrame}
use Rattle.frame_replies.specs.declared.walk.WalkFault.{WalkFault}
use Rattle.frame_replies.specs.declared.walk.WalkFault.TheVariants.{Unread, OutOfMemory}

-- They are those that are chosen, each with its debug file.
pub record AreExecutablesOf (choice : Choice) (x : UnwoundExecutables) : Type 0 where
  pub named : named_in x.images ≡ named_among choice
  pub described : map described_view x.described.items ≡ map (with_code choice.debugs) (filter is_attached choice.used)

-- It is the process of a core that has these bytes, with what is chosen of the executables that are stored.
pub record IsProcessOf (b : List ℕ) (choice : Choice) (p : UnwoundProcess) : Type 0 where
  pub memory : space_of p.space ≡ memory_of b choice.used
  pub core : core_of p.space ≡ b
  pub executables : AreExecutablesOf choice p.executables.now
  pub others : map attached_view p.others.items ≡ choice.others
  pub start : p.start ≡ start_of b

-- the process, if its core has this image
abbrev pub process_by : UnwoundProcess → List ℕ → ProcessView
process_by p image = record {
  space = space_in image (space_of p.space);
  executables = map described_view p.executables.now.described.items;
  others = map attached_view p.others.items;
  start = p.start;
}

-- the frames that were found
abbrev pub found : List WalkedFrame → List Frame
found ws = map (λ (w : WalkedFrame). w.frame) ws

-- it is known where signal handlers return
abbrev pub AreMarked : ProcessView → List WalkedFrame → Type 0
AreMarked p ws = AllByRecursion (λ (w : WalkedFrame). w.signal ≡ is_trampoline p.space w.frame.pc) ws

-- The frames of the thread with this state are those that were found, and those that are still to come.
pub record IsWalked (p : ProcessView) (desc : List ℕ) (w : Walk) : Type 0 where
  pub frames : unwound p desc ≡ found w.frames.items ++ frames_left p w.left
  pub stops : stop_of p desc ≡ stop_left p w.left
  pub marked : AreMarked p w.frames.items

-- a walk through the frames of a thread stays one
abbrev pub WalksOn : ProcessView → Walk → Walk → Type 0
WalksOn p old new = (desc : List ℕ) → IsWalked p desc old → IsWalked p desc new

-- The walk is through the frames of a thread, by its number, in the process of a core that has this image, with what is chosen of the
-- executables that are stored.
pub record IsWalkOf (image : List ℕ) (stored : List ExecutableView) (t : ℕ) (p : UnwoundProcess) (w : Walk) : Type 0 where
  pub process : process_by p image ≡ process_in image (choice_for image stored)
  pub named : named_in p.executables.now.images ≡ named_among (choice_for image stored)
  pub desc : List ℕ
  pub state : state_of image t ≡ Some desc
  pub walked : IsWalked (process_in image (choice_for image stored)) desc w

-- none was found yet of the thread with this state
abbrev pub BeginsAt : Option (List ℕ) → Walk → Type 0
BeginsAt state w = (desc : List ℕ) × (state ≡ Some desc) × ((p : ProcessView) → IsWalked p desc w)

-- all are found, and no other comes for that reason
abbrev pub HasFound : Walk → Stop → Type 0
HasFound w stop = (p : ProcessView) → HaveEnded p w.left stop

-- what became of a walk
abbrev pub GoesOn : List ℕ → ℕ → List Part → Result Stop WalkFault → Walk → Type 0
GoesOn front size parts (Ok stop) w = HasFound w stop
GoesOn front size parts (Err (Unread u)) w = IsWantedBy front size parts u
GoesOn front size parts (Err OutOfMemory) w = ⊤

-- one frame further, or the same
abbrev pub StepsOn : List ℕ → ℕ → List Part → Walk → Result (Option Stop) WalkFault → Walk → Type 0
StepsOn front size parts old (Ok None) new = most_left new.left < most_left old.left
StepsOn front size parts old (Ok (Some stop)) new = HasFound new stop
StepsOn front size parts old (Err (Unread u)) new = IsWantedBy front size parts u
StepsOn front size parts old (Err OutOfMemory) new = ⊤

-- a frame that was found as a value
abbrev pub walked_value : List FileView → List NamedFile → WalkedFrame → FrameValue
walked_value files named w = value_with files named w.signal w.frame

-- its line, by what is shown
abbrev pub walked_line : Shown → List FileView → List NamedFile → ℕ → WalkedFrame → List ℕ
walked_line shown files named i w = shown_line shown files named i (walked_value files named w)
