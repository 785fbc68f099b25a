-- The commands of a session with the reply to each, and the facts of one stream and of one case among them.
use Rattle.std.specs.Prelude.{◌≡◌, ◌⊎◌, ℕ, ◌==◌, ◌&&◌, Bool, true, false, List, [], ◌∷◌, ◌++◌, Option, None, Some, option_map, map, codes, if◌then◌else◌}
use Rattle.std.specs.List.{flat_map, AllByRecursion}
use Rattle.disk_model.specs.declared.disk.Disk as disk
use Rattle.intake.specs.Parts.{Parts}
use Rattle.stream_names.specs.declared.naming.Naming.{Naming}
use Rattle.script_lines.specs.Said.{Said, silence, begin_exec, begin_core, part_of, end_of, drop_of, delete_of, retire_by, said}
use Rattle.script_streams.specs.Replies.{no_reply, ok_reply}
use Rattle.inspector_cli.specs.Reply.{Replies}
use Rattle.archive_replies.specs.Texts.{dropped_line}
use Rattle.inspector_cli.specs.Stages.{Stage, Moves}
use Rattle.inspector_cli.specs.Session.{Item, Ending, said_last, EndReplies, BreaksOff, DropsStreams, last_stage}

-- a command and the reply to it
pub record Answer : Type 0 where
  pub item : Item
  pub reply : List ℕ

-- the meaning of the command
abbrev pub what_of : Answer → Said
what_of a = said a.item.line

-- commands that are answered so, from stage to stage
abbrev pub Answers : {D : Type 0} → disk.Ghosts D → Naming → Stage D → List Answer → List (Stage D) → Type 0
Answers g naming old [] [] = Unit {0}
Answers g naming old [] (s ∷ ss) = ⊥
Answers g naming old (a ∷ list) [] = ⊥
Answers g naming old (a ∷ list) (s ∷ ss) =
    Replies g naming old.archive (what_of a) a.item.raw a.reply s.archive × Moves g old (what_of a) a.reply s × Answers g naming s list ss

-- A session: from its first stage, by its commands and how it ends, to the close of its archive.
pub record Session (D : Type 0) : Type 0 where
  pub naming : Naming
  pub first : Stage D
  pub answers : List Answer
  -- after each command
  pub stages : List (Stage D)
  -- the meaning of the last line that no newline ends, or whose bytes are not all there, and the reply to it
  pub last : Said
  pub reply : List ℕ
  pub end : Stage D
  pub closed : Parts D

-- how a script ends after its whole commands, or how it breaks off if it could not be read on
abbrev pub Finishes : {D : Type 0} → disk.Ghosts D → Naming → Parts D → Said → List ℕ → Parts D → Type 0
Finishes g naming old last reply new =
    ((ending : Ending) × (last ≡ said_last ending) × EndReplies g naming old ending reply new)
    ⊎ ((rest : List ℕ) × (last ≡ silence) × (reply ≡ []) × BreaksOff g old rest new)

pub record IsHad {D : Type 0} (g : disk.Ghosts D) (s : Session D) : Type 0 where
  pub answered : Answers g s.naming s.first s.answers s.stages
  pub finishes : Finishes g s.naming (last_stage s.first s.stages).archive s.last s.reply s.end.archive
  pub moves : Moves g (last_stage s.first s.stages) s.last s.reply s.end
  pub closes : DropsStreams g s.end.archive s.closed

-- the commands of a session, and the whole text of its replies
abbrev pub commands_of : {D : Type 0} → Session D → List Item
commands_of s = map (λ (a : Answer). a.item) s.answers

abbrev pub text_of : {D : Type 0} → Session D → List ℕ
text_of s = flat_map (λ (a : Answer). a.reply) s.answers ++ s.reply

-- the reply is `no` and a reason
abbrev pub is_no : List ℕ → Bool
is_no [] = false
is_no (a ∷ []) = false
is_no (a ∷ b ∷ []) = false
is_no (a ∷ b ∷ c ∷ rest) = a == 110 && (b == 111 && c == 32)

-- the bytes that the stream in the slot of a line has taken after the line: nothing if the line begins it, the bytes of a part more; there is
-- no stream after it ended, was dropped, or a part was refused
abbrev pub begun : Bool → Option (List ℕ) → Option (List ℕ)
begun true held = held
begun false held = Some []

abbrev pub fed : Bool → List ℕ → Option (List ℕ) → Option (List ℕ)
fed true raw held = None
fed false raw held = option_map (λ (bytes : List ℕ). bytes ++ raw) held

-- the bytes that the stream in a slot has taken after a command, by the reply to it
abbrev pub held_then : ℕ → Said → List ℕ → Bool → Option (List ℕ) → Option (List ℕ)
held_then slot (begin_exec s name) raw refused held = if s == slot then begun refused held else held
held_then slot (begin_core s process) raw refused held = if s == slot then begun refused held else held
held_then slot (part_of s n) raw refused held = if s == slot then fed refused raw held else held
held_then slot (end_of s) raw refused held = if s == slot then None else held
held_then slot (drop_of s) raw refused held = if s == slot then None else held
held_then slot _ raw refused held = held

abbrev pub held_behind : ℕ → Option (List ℕ) → List Answer → Option (List ℕ)
held_behind slot held [] = held
held_behind slot held (a ∷ list) = held_behind slot (held_then slot (what_of a) a.item.raw (is_no a.reply) held) list

-- the bytes of the parts of the stream in a slot after these commands, if there is one, and if the slot was empty before them
abbrev pub parts_in : ℕ → List Answer → Option (List ℕ)
parts_in slot list = held_behind slot None list

-- the reply has this line
abbrev pub HasLine : List ℕ → List ℕ → Type 0
HasLine line reply = (front : List ℕ) × (rest : List ℕ) × (reply ≡ front ++ (line ++ rest))

-- the calls that may have taken the case of a number away, by the reply: a deletion that was not refused, a retirement that says so, or
-- either of them if the disk failed
abbrev pub MayDrop : ℕ → Said → List ℕ → Type 0
MayDrop n (delete_of seq) reply = (seq ≡ n) × ((reply ≡ ok_reply) ⊎ (reply ≡ no_reply (codes "Disk")))
MayDrop n (retire_by policy) reply = HasLine (dropped_line n) reply ⊎ (reply ≡ no_reply (codes "Disk"))
MayDrop n _ reply = ⊥

-- none of these commands takes the case away
abbrev pub Spare : ℕ → List Answer → Type 0
Spare n list = AllByRecursion (λ (a : Answer). MayDrop n (what_of a) a.reply → ⊥) list
