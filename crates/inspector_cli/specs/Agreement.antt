-- The answers are a function of the script and of the contents of the archive, unless there is no memory or the disk fails.
use Rattle.std.specs.Prelude.{◌≡◌, ◌⊎◌, ℕ, List, ◌++◌, map, option_map, codes, IsTrue}
use Rattle.disk_model.specs.declared.disk.Disk as disk
use Rattle.intake.specs.Contents.{Taken}
use Rattle.intake.specs.Parts.{Parts, state_of, contents_of}
use Rattle.script_lines.specs.Said.{Said}
use Rattle.script_streams.specs.Replies.{no_reply}
use Rattle.stream_names.specs.declared.naming.Naming.{Naming}
use Rattle.inspector_cli.specs.Reply.{Replies}
use Rattle.inspector_cli.specs.Session.{AnswersAll}
use Rattle.inspector_cli.specs.Stages.{Stage}

-- the bytes that a stream has taken
abbrev pub bytes_taken : Taken → List ℕ
bytes_taken t = t.bytes

-- Two archives, over two disks, hold the same: their cases and streams with their blocks, and the bytes of both.
pub record HoldSame {D E : Type 0} (g : disk.Ghosts D) (h : disk.Ghosts E) (a : Parts D) (b : Parts E) : Type 0 where
  pub state : state_of b ≡ state_of a
  pub images : (contents_of h.seen b).images ≡ (contents_of g.seen a).images
  pub taken : map (option_map bytes_taken) (contents_of h.seen b).taken ≡ map (option_map bytes_taken) (contents_of g.seen a).taken

-- the replies that any line may get: there was no memory, or the disk failed
abbrev pub IsFree : List ℕ → Type 0
IsFree reply = (reply ≡ no_reply (codes "OutOfMemory")) ⊎ (reply ≡ no_reply (codes "Disk"))

-- a text has such a reply
abbrev pub HasFree : List ℕ → Type 0
HasFree text = (before : List ℕ) × (reply : List ℕ) × (after : List ℕ) × IsFree reply × (text ≡ before ++ (reply ++ after))

-- Over archives that hold the same, a line gets the same reply, and they hold the same after it.
abbrev pub LinesAgree : {D E : Type 0} → disk.Ghosts D → disk.Ghosts E → Type 0
LinesAgree {D} {E} g h =
    (naming : Naming) (old new : Parts D) (old' new' : Parts E) (what : Said) (raw reply reply' : List ℕ) → IsTrue (g.is_honest old.disk) → IsTrue (h.is_honest old'.disk)
    → HoldSame g h old old' → Replies g naming old what raw reply new → Replies h naming old' what raw reply' new' → (IsFree reply → ⊥) → (IsFree reply' → ⊥)
    → (reply' ≡ reply) × HoldSame g h new new'

-- And a script gets the same text.
abbrev pub ScriptsAgree : {D E : Type 0} → disk.Ghosts D → disk.Ghosts E → Type 0
ScriptsAgree {D} {E} g h =
    (naming : Naming) (script text text' : List ℕ) (old new : Stage D) (stages : List (Stage D)) (old' new' : Stage E) (stages' : List (Stage E))
    → IsTrue (g.is_honest old.archive.disk) → IsTrue (h.is_honest old'.archive.disk) → HoldSame g h old.archive old'.archive
    → AnswersAll g naming script text old stages new → AnswersAll h naming script text' old' stages' new' → (HasFree text → ⊥) → (HasFree text' → ⊥)
    → text' ≡ text
