-- A stored case over the commands of the program, one after the other: over stops of the machine, and over processes that end or
-- are killed.
use Rattle.std.specs.Prelude.{◌≡◌, ◌⊎◌, ℕ, true, List, [], ◌∷◌, ◌++◌, ◌≤◌, ◌<◌, ◌^◌, map, Option, None, Some, Result, Ok, codes, IsTrue}
use Rattle.std.specs.List.{AllByRecursion}
use Rattle.disk_model.specs.Anew.{IsMadeAnew, Restarts}
use Rattle.disk_model.specs.declared.disk.Disk as disk
use Rattle.intake.specs.Durable.{Durable, FoundCase, StandsFor}
use Rattle.intake.specs.Lives.{IsAmong}
use Rattle.intake.specs.State.{StreamFacts}
use Rattle.retention.specs.declared.Policy.{Policy}
use Rattle.script_lines.specs.Said.{Said, end_of, delete_of, label_of}
use Rattle.script_streams.specs.Replies.{no_reply, ok_reply}
use Rattle.stream_names.specs.declared.naming.Naming.{Naming}
use Rattle.archive_replies.specs.Texts.{end_reply}
use Rattle.inspector_cli.specs.declared.session.LifeFault.{LifeFault}
use Rattle.inspector_cli.specs.declared.session.StoreOutcome.{StoreOutcome}
use Rattle.inspector_cli.specs.Headline.{Line, IsCrashSafe, HasFlag, answers_of, answer_of, begins_as, begun_in, last_moment}
use Rattle.inspector_cli.specs.Session.{Streams}
use Rattle.inspector_cli.specs.StoreHeadline.{Gone, IsStoreSafe}
use Rattle.inspector_cli.specs.Storing.{KeepsOf, Options, retire_line, said_label, stated_in}
use Rattle.inspector_cli.specs.Told.{Answer, MayDrop, what_of, parts_in}

-- a case as it was stored: its number, its stream as it began, and its image; and its label, if one is named
pub record Kept : Type 0 where
  pub seq : ℕ
  pub stream : StreamFacts
  pub image : List ℕ
  pub label : Option (List ℕ)

abbrev pub HasThisLabel : Option (List ℕ) → List ℕ → Type 0
HasThisLabel None text = Unit {0}
HasThisLabel (Some label) text = text ≡ label

-- this is the case
pub record IsKeptAs (k : Kept) (c : FoundCase) : Type 0 where
  pub number : c.case.seq ≡ k.seq
  pub origin : c.case.origin ≡ k.stream.origin
  pub bytes : c.image ≡ k.image
  pub labelled : HasThisLabel k.label c.case.label

-- the archive holds the case
abbrev pub HoldsKept : Kept → Durable → Type 0
HoldsKept k x = (c : FoundCase) × IsAmong x.cases c × IsKeptAs k c

-- an opening of these bytes finds the case
abbrev pub FindsKept : Kept → List ℕ → Type 0
FindsKept k left = (x : Durable) × StandsFor left x × HoldsKept k x

-- the calls that may have given the case another label: a label that was not refused, or one for which the disk failed
abbrev pub MayLabel : ℕ → Said → List ℕ → Type 0
MayLabel n (label_of seq text) reply = (seq ≡ n) × ((reply ≡ ok_reply) ⊎ (reply ≡ no_reply (codes "Disk")))
MayLabel n _ reply = ⊥

-- The line leaves the case there, and leaves its label if one is named.
abbrev pub Spares : Kept → Said → List ℕ → Type 0
Spares k what reply = (MayDrop k.seq what reply → ⊥) × ((k.label ≡ None) ⊎ (MayLabel k.seq what reply → ⊥))

abbrev pub AllSpare : Kept → List Answer → Type 0
AllSpare k list = AllByRecursion (λ (a : Answer). Spares k (what_of a) a.reply) list

-- a command of the program: its disk when it begins, and when it ends
pub record Command (D : Type 0) : Type 0 where
  pub before : D
  pub after : D

-- It is a session, as those of `run` and `ask`, whose lines spare the case.
pub record IsSession {D : Type 0} (g : disk.Ghosts D) (k : Kept) (c : Command D) : Type 0 where
  pub naming : Naming
  pub streams : Streams
  pub answer : Result (Unit {0}) LifeFault
  pub safe : IsCrashSafe (Unit {0}) LifeFault g naming streams c.before c.after answer
  pub lines : AllSpare k (answers_of safe.course)
  pub last : Spares k safe.course.last safe.course.reply

-- It stores a stream, and neither its retirement, nor the cases that go, nor the label that it gives concern the case.
pub record IsStore {D : Type 0} (g : disk.Ghosts D) (k : Kept) (c : Command D) : Type 0 where
  pub streams : Streams
  pub asked : Option Policy
  pub found : Result StreamFacts (List ℕ)
  pub given : Options
  pub answer : Result StoreOutcome LifeFault
  pub safe : IsStoreSafe g streams asked found given c.before c.after answer
  pub retired : Spares k (retire_line safe.course.policy) safe.course.told
  pub gone : AllByRecursion (λ (x : Gone D). Spares k (delete_of x.seq) x.reply) safe.course.gone
  pub gives : Spares k (said_label safe.course.stored given.label) safe.course.labels

-- Its opening was refused: reads give the same bytes as before, and a stop leaves only bytes that one before could have left.
pub record IsRefused {D : Type 0} (g : disk.Ghosts D) (c : Command D) : Type 0 where
  pub seen : g.seen c.after ≡ g.seen c.before
  pub leaves : (left : List ℕ) → g.left_since c.after (g.clock c.before) left → g.may_leave c.before left

abbrev pub IsCommand : {D : Type 0} → disk.Ghosts D → Kept → Command D → Type 0
IsCommand g k c = IsSession g k c ⊎ IsStore g k c ⊎ IsRefused g c

-- The disk that the next command begins with, when the machine stopped, or the process ended or was killed, at any moment after
-- `since`: `end` is the disk when the command ends, had it not been stopped. Reads give one of the lists that a stop since then
-- could have left, and until something is written a further stop leaves such a list too. So bytes that a killed process wrote may read
-- back without being durable.
pub record TakesUp {D : Type 0} (g : disk.Ghosts D) (end since next : D) : Type 0 where
  pub honest : IsTrue (g.is_honest next)
  pub reads : g.left_since end (g.clock since) (g.seen next)
  pub leaves : (left : List ℕ) → g.may_leave next left → g.left_since end (g.clock since) left

-- the machine stopped at a moment since then, and the disk restarts with the bytes that were left
abbrev pub AStopIsTakenUp : {D : Type 0} → disk.Ghosts D → Type 0
AStopIsTakenUp {D} g = (end since next : D) (left : List ℕ) → g.left_since end (g.clock since) left → Restarts g left next → TakesUp g end since next

-- The process ended or was killed, the machine goes on, and the file is opened again: the written bytes read back, and are as little
-- durable as before.
pub record IsReopened {D : Type 0} (g : disk.Ghosts D) (end next : D) : Type 0 where
  pub honest : IsTrue (g.is_honest next)
  pub seen : g.seen next ≡ g.seen end
  pub leaves : (left : List ℕ) → g.may_leave next left → g.may_leave end left

abbrev pub AReopeningIsTakenUp : {D : Type 0} → disk.Ghosts D → Type 0
AReopeningIsTakenUp {D} g = (end since next : D) → IsTrue (g.is_honest end) → g.clock since ≤ g.clock end → IsReopened g end next ⊎ IsMadeAnew g end next → TakesUp g end since next

-- commands that follow one another, each of which spares the case
abbrev pub AreNext : {D : Type 0} → disk.Ghosts D → Kept → D → D → List (Command D) → Type 0
AreNext g k end since [] = Unit {0}
AreNext g k end since (c ∷ cs) = TakesUp g end since c.before × IsCommand g k c × AreNext g k c.after c.before cs

-- Whenever the machine stops since then, an opening of the bytes that are left finds the case.
abbrev pub StaysFound : {D : Type 0} → disk.Ghosts D → Kept → D → D → Type 0
StaysFound g k end since = (left : List ℕ) → g.left_since end (g.clock since) left → FindsKept k left

abbrev pub StaysFoundBehind : {D : Type 0} → disk.Ghosts D → Kept → D → D → List (Command D) → Type 0
StaysFoundBehind g k end since cs = StaysFound g k end since × AllByRecursion (λ c. StaysFound g k c.after c.before) cs

-- A case that a session holds at a moment, with nothing in doubt, is found whenever the machine stops from then on, in this session
-- and in all later commands, as long as each line spares it.
abbrev pub ASessionKeepsACase : {D : Type 0} → disk.Ghosts D → Type 0
ASessionKeepsACase {D} g = (k : Kept) (naming : Naming) (t : Streams) (before after : D) (answer : Result (Unit {0}) LifeFault) (s : IsCrashSafe (Unit {0}) LifeFault g naming t before after answer)
    (front rest : List (Line D)) (cs : List (Command D)) → s.course.lines ≡ front ++ rest
    → HoldsKept k (last_moment s.course.begin front).holds → (last_moment s.course.begin front).in_doubt ≡ []
    → AllSpare k (map answer_of rest) → Spares k s.course.last s.course.reply
    → AreNext g k after (last_moment s.course.begin front).disk cs → StaysFoundBehind g k after (last_moment s.course.begin front).disk cs

-- Behind a line that was answered `stored N` the archive holds the case: the stream as its line began it, with the bytes of its
-- parts, and no label. Nothing is in doubt.
abbrev pub ALineStoresACase : {D : Type 0} → disk.Ghosts D → Type 0
ALineStoresACase {D} g = (naming : Naming) (t : Streams) (before after : D) (answer : Result (Unit {0}) LifeFault) (s : IsCrashSafe (Unit {0}) LifeFault g naming t before after answer)
    (front rest : List (Line D)) (line : Line D) (slot told : ℕ) → s.course.lines ≡ front ++ line ∷ rest → what_of line.answer ≡ end_of slot → line.answer.reply ≡ end_reply (Ok told) → told < 2 ^ 64
    → (k : Kept) × (k.seq ≡ told) × (begun_in (begins_as naming) slot (map answer_of front) ≡ Some k.stream) × (parts_in slot (map answer_of front) ≡ Some k.image)
    × (k.label ≡ Some []) × HoldsKept k line.after.holds × (line.after.in_doubt ≡ [])

-- The same for a store: the case is the stream that was begun, with the bytes of FILE, which are as was stated, or its first ones, if it was cut.
abbrev pub AStoreStoresACase : {D : Type 0} → disk.Ghosts D → Type 0
AStoreStoresACase {D} g = (t : Streams) (asked : Option Policy) (found : Result StreamFacts (List ℕ)) (given : Options) (before after : D) (answer : Result StoreOutcome LifeFault) (s : IsStoreSafe g t asked found given before after answer)
    (n : ℕ) → s.course.stored ≡ Some n
    → (k : Kept) × (k.seq ≡ n) × (found ≡ Ok k.stream) × KeepsOf (stated_in given) t.input t.input' s.course.cut k.image × (k.label ≡ Some []) × HoldsKept k s.course.ended.holds × (s.course.ended.in_doubt ≡ [])

-- A case that a store leaves, with nothing in doubt, is found whenever the machine stops from then on: after the case's end, if the
-- label spares it, after the label, and after the pin.
abbrev pub AStoreKeepsACase : {D : Type 0} → disk.Ghosts D → Type 0
AStoreKeepsACase {D} g = (k : Kept) (t : Streams) (asked : Option Policy) (found : Result StreamFacts (List ℕ)) (given : Options) (before after : D) (answer : Result StoreOutcome LifeFault) (s : IsStoreSafe g t asked found given before after answer)
    (cs : List (Command D))
    → (HoldsKept k s.course.ended.holds → s.course.ended.in_doubt ≡ [] → Spares k (said_label s.course.stored given.label) s.course.labels → AreNext g k after s.course.ended.disk cs → StaysFoundBehind g k after s.course.ended.disk cs)
    × (HoldsKept k s.course.labelled.holds → s.course.labelled.in_doubt ≡ [] → AreNext g k after s.course.labelled.disk cs → StaysFoundBehind g k after s.course.labelled.disk cs)
    × (HoldsKept k s.course.end.holds → s.course.end.in_doubt ≡ [] → AreNext g k after s.course.end.disk cs → StaysFoundBehind g k after s.course.end.disk cs)

-- with this label
abbrev pub relabelled : Kept → List ℕ → Kept
relabelled k text = record k { label = Some text }

-- Behind a line that gave the case a label, and was answered `ok`, the archive holds the case with that label, and nothing is in doubt.
abbrev pub ALineLabelsACase : {D : Type 0} → disk.Ghosts D → Type 0
ALineLabelsACase {D} g = (k : Kept) (naming : Naming) (t : Streams) (before after : D) (answer : Result (Unit {0}) LifeFault) (s : IsCrashSafe (Unit {0}) LifeFault g naming t before after answer)
    (front rest : List (Line D)) (line : Line D) (text : List ℕ) → s.course.lines ≡ front ++ line ∷ rest → what_of line.answer ≡ label_of k.seq text → line.answer.reply ≡ ok_reply
    → HoldsKept k (last_moment s.course.begin front).holds → (last_moment s.course.begin front).in_doubt ≡ []
    → HoldsKept (relabelled k text) line.after.holds × (line.after.in_doubt ≡ [])

-- the same of the label that a store gives
abbrev pub AStoreLabelsACase : {D : Type 0} → disk.Ghosts D → Type 0
AStoreLabelsACase {D} g = (k : Kept) (t : Streams) (asked : Option Policy) (found : Result StreamFacts (List ℕ)) (given : Options) (before after : D) (answer : Result StoreOutcome LifeFault) (s : IsStoreSafe g t asked found given before after answer)
    (text : List ℕ) → s.course.stored ≡ Some k.seq → given.label ≡ Some text → s.course.labels ≡ ok_reply → HoldsKept k s.course.ended.holds → s.course.ended.in_doubt ≡ []
    → HoldsKept (relabelled k text) s.course.labelled.holds × (s.course.labelled.in_doubt ≡ [])

-- A case whose pin was answered `ok` is pinned when the store ends, and has the label that it had. If nothing was in doubt before the
-- pin, nothing is then.
abbrev pub AStorePinsACase : {D : Type 0} → disk.Ghosts D → Type 0
AStorePinsACase {D} g = (k : Kept) (t : Streams) (asked : Option Policy) (found : Result StreamFacts (List ℕ)) (given : Options) (before after : D) (answer : Result StoreOutcome LifeFault) (s : IsStoreSafe g t asked found given before after answer)
    → s.course.stored ≡ Some k.seq → given.pin ≡ true → s.course.pins ≡ ok_reply → HoldsKept k s.course.labelled.holds
    → HasFlag s.course.end.holds k.seq true × HoldsKept k s.course.end.holds × (s.course.labelled.in_doubt ≡ [] → s.course.end.in_doubt ≡ [])
