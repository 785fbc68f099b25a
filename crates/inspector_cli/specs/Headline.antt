-- The headline: the effect of a session, line by line, and the archive that a stop of the machine leaves. It rests on the archive that bytes
-- encode (`StandsFor`), the contents of an archive (`Durable`), the meaning of a line (`Said`), and the text of replies (`Texts`).
use Rattle.std.specs.Prelude.{◌≡◌, ◌⊎◌, ℕ, ◌==◌, ◌<◌, ◌≤◌, Bool, true, false, List, [], ◌∷◌, ◌++◌, length, map, Option, None, Some, option_map, Result, Ok, Err, IsTrue, codes, if◌then◌else◌}
use Rattle.std.specs.Result.{result_ok}
use Rattle.std.specs.List.{flat_map, AllByRecursion}
use Rattle.std.specs.Io.KnownBytes.{Consumes, Appends, IsAtEnd}
use Rattle.case_journal.specs.Viewing.{OnlyReads}
use Rattle.disk_model.specs.declared.disk.Disk as disk
use Rattle.intake.specs.Durable.{Durable, FoundCase, StandsFor, without, flagged, labelled, upgraded, with_case}
use Rattle.intake.specs.Lives.{IsAmong}
use Rattle.intake.specs.Marks.{IsOneOf}
use Rattle.intake.specs.State.{StreamFacts}
use Rattle.intake.specs.Step.{brief_of as brief_of_case}
use Rattle.retention.specs.Rule.{IsDecision}
use Rattle.retention.specs.declared.Brief.{Brief}
use Rattle.script_streams.specs.Lines.{IsLine}
use Rattle.stream_names.specs.Streams.{exec_stream, core_stream}
use Rattle.stream_names.specs.declared.naming.Naming.{Naming}
use Rattle.script_lines.specs.Said.{Said, said, raw_length, silence, bad_line, long_line, list_all_cases, count_free, inspect_of, begin_exec, begin_core, part_of, drop_of, end_of, delete_of, pin_of, label_of, retire_by, upgrade_archive}
use Rattle.script_streams.specs.Replies.{no_reply, ok_reply}
use Rattle.archive_replies.specs.Texts.{end_reply, dropped_line, unmet_line}
use Rattle.inspector_cli.specs.declared.session.LifeFault.{LifeFault}
use Rattle.inspector_cli.specs.declared.session.LifeFault.TheVariants as life
use Rattle.inspector_cli.specs.Life.{LifeEnds, RunsOver}
use Rattle.inspector_cli.specs.Session.{Ending, IsEnding, Item, IsItem, Streams, ending_text, said_last, spelled}
use Rattle.inspector_cli.specs.Told.{Answer, what_of, is_no, parts_in}

-- a stream as it began, with no bytes and no blocks
abbrev pub empty_stream : StreamFacts → StreamFacts
empty_stream s = record s { len = 0; blocks = [] }

-- the stream that a line begins, with no bytes yet
abbrev pub begins_as : Naming → Said → Option StreamFacts
begins_as naming (begin_exec slot name) = option_map empty_stream (result_ok (exec_stream name))
begins_as naming (begin_core slot process) = option_map empty_stream (result_ok (core_stream naming process))
begins_as naming _ = None

-- the contents of a slot after a command, by the reply to it: the stream as it began
abbrev pub begun_then : (Said → Option StreamFacts) → ℕ → Said → Bool → Option StreamFacts → Option StreamFacts
begun_then begins slot (begin_exec s name) refused o = if s == slot then (if refused then o else begins (begin_exec s name)) else o
begun_then begins slot (begin_core s process) refused o = if s == slot then (if refused then o else begins (begin_core s process)) else o
begun_then begins slot (part_of s n) refused o = if s == slot then (if refused then None else o) else o
begun_then begins slot (end_of s) refused o = if s == slot then None else o
begun_then begins slot (drop_of s) refused o = if s == slot then None else o
begun_then begins slot _ refused o = o

abbrev pub begun_behind : (Said → Option StreamFacts) → ℕ → Option StreamFacts → List Answer → Option StreamFacts
begun_behind begins slot o [] = o
begun_behind begins slot o (a ∷ list) = begun_behind begins slot (begun_then begins slot (what_of a) (is_no a.reply) o) list

-- the stream in a slot after these commands, as it began, if the slot was empty before them
abbrev pub begun_in : (Said → Option StreamFacts) → ℕ → List Answer → Option StreamFacts
begun_in begins slot list = begun_behind begins slot None list

-- the case of this number has this flag, or this label
abbrev pub HasFlag : Durable → ℕ → Bool → Type 0
HasFlag x seq flag = (c : FoundCase) × IsAmong x.cases c × (c.case.seq ≡ seq) × (c.case.pinned ≡ flag)

abbrev pub HasLabel : Durable → ℕ → List ℕ → Type 0
HasLabel x seq text = (c : FoundCase) × IsAmong x.cases c × (c.case.seq ≡ seq) × (c.case.label ≡ text)

-- the facts of a case that the rule of a retirement uses
abbrev pub brief_of : FoundCase → Brief
brief_of c = brief_of_case c.case

-- The effect of a line that is carried out on the contents of the archive, x before it and y after it. `earlier` are the lines before it:
-- a case is the stream that its line began, and its image is the bytes of its parts. A pin or a label that is set already changes
-- nothing. Any other line changes no case.
abbrev pub Does : (Said → Option StreamFacts) → List Answer → Said → List ℕ → Durable → Durable → Type 0
Does begins earlier (end_of slot) reply x y =
    (begun : StreamFacts) × (len : ℕ) × (blocks : List ℕ) × (image : List ℕ) × (begun_in begins slot earlier ≡ Some begun) × (parts_in slot earlier ≡ Some image)
    × (reply ≡ end_reply (Ok x.next)) × (y ≡ with_case x (record begun { len = len }) blocks image)
Does begins earlier (delete_of seq) reply x y = HasFlag x seq false × (reply ≡ ok_reply) × (y ≡ without x (seq ∷ []))
Does begins earlier (pin_of seq flag) reply x y = (reply ≡ ok_reply) × ((y ≡ flagged x seq flag) ⊎ (HasFlag x seq flag × (y ≡ x)))
Does begins earlier (label_of seq text) reply x y = (reply ≡ ok_reply) × ((y ≡ labelled x seq text) ⊎ (HasLabel x seq text × (y ≡ x)))
Does begins earlier upgrade_archive reply x y = (reply ≡ ok_reply) × (y ≡ upgraded x)
Does begins earlier (retire_by policy) reply x y =
    (dropped : List ℕ) × (unmet : Bool) × IsDecision policy (map brief_of x.cases) dropped unmet
    × (reply ≡ flat_map dropped_line dropped ++ (unmet_line unmet ++ ok_reply)) × (y ≡ without x dropped)
Does begins earlier _ reply x y = y ≡ x

-- A line is carried out, or it is refused and changes nothing. A blank line has no reply, and one that is not in the grammar
-- is refused. (`Replies` has the replies of lines that change no case.)
abbrev pub Leads : (Said → Option StreamFacts) → List Answer → Said → List ℕ → Durable → Durable → Type 0
Leads begins earlier silence reply x y = (reply ≡ []) × (y ≡ x)
Leads begins earlier bad_line reply x y = (reply ≡ no_reply (codes "BadLine")) × (y ≡ x)
Leads begins earlier long_line reply x y = (reply ≡ no_reply (codes "LineTooLong")) × (y ≡ x)
Leads begins earlier what reply x y = Does begins earlier what reply x y ⊎ ((reason : List ℕ) × (reply ≡ no_reply reason) × (y ≡ x))

-- the line is one of those that change cases
abbrev pub changes : Said → Bool
changes (end_of slot) = true
changes (delete_of seq) = true
changes (pin_of seq flag) = true
changes (label_of seq text) = true
changes upgrade_archive = true
changes (retire_by policy) = true
changes _ = false

-- the cases that such a line would have left, had the disk not failed
abbrev pub WouldLeave : (Said → Option StreamFacts) → List Answer → Said → Durable → Durable → Type 0
WouldLeave begins earlier what x y = (changes what ≡ true) × (reply : List ℕ) × Does begins earlier what reply x y

-- The state at a moment between two lines.
pub record Moment (D : Type 0) : Type 0 where
  pub disk : D
  -- the contents of the archive
  pub holds : Durable
  -- the cases that lines that were answered `no Disk` would have left
  pub in_doubt : List Durable

-- A line that was answered, and the state then.
pub record Line (D : Type 0) : Type 0 where
  pub answer : Answer
  pub after : Moment D

-- A session: how it begins, its lines, how its script ends, and the state then.
pub record Course (D : Type 0) : Type 0 where
  pub begin : Moment D
  pub lines : List (Line D)
  -- the command after the whole ones, and the reply to it
  pub last : Said
  pub reply : List ℕ
  pub end : Moment D

-- A line leads from moment to moment. Only if it is answered `no Disk` is anything in doubt anew.
pub record LeadsOn {D : Type 0} (begins : Said → Option StreamFacts) (earlier : List Answer) (old : Moment D) (what : Said) (reply : List ℕ) (new : Moment D) : Type 0 where
  pub leads : Leads begins earlier what reply old.holds new.holds
  pub doubts : List Durable
  pub in_doubt : new.in_doubt ≡ doubts ++ old.in_doubt
  pub doubted : (doubts ≡ []) ⊎ ((reply ≡ no_reply (codes "Disk")) × AllByRecursion (WouldLeave begins earlier what old.holds) doubts)

abbrev pub answer_of : {D : Type 0} → Line D → Answer
answer_of l = l.answer

abbrev pub moment_of : {D : Type 0} → Line D → Moment D
moment_of l = l.after

-- Once something is in doubt, nothing is changed any more.
abbrev pub IsFrozen : {D : Type 0} → Moment D → Moment D → Type 0
IsFrozen old new = (old.in_doubt ≡ [] → ⊥) → new.holds ≡ old.holds

abbrev pub AllLead : {D : Type 0} → (Said → Option StreamFacts) → List Answer → Moment D → List (Line D) → Type 0
AllLead begins earlier old [] = Unit {0}
AllLead begins earlier old (l ∷ ls) = LeadsOn begins earlier old (what_of l.answer) l.answer.reply l.after × IsFrozen old l.after × AllLead begins (earlier ++ l.answer ∷ []) l.after ls

-- after the last line
abbrev pub last_moment : {D : Type 0} → Moment D → List (Line D) → Moment D
last_moment m [] = m
last_moment m (l ∷ ls) = last_moment l.after ls

-- each line does its work, on the contents of the archive before it
pub record IsCourse {D : Type 0} (begins : Said → Option StreamFacts) (c : Course D) : Type 0 where
  pub clear : c.begin.in_doubt ≡ []
  pub lines : AllLead begins [] c.begin c.lines
  pub frozen : IsFrozen (last_moment c.begin c.lines) c.end
  pub last : LeadsOn begins (map answer_of c.lines) (last_moment c.begin c.lines) c.last c.reply c.end

-- An opening of these bytes finds the contents of the archive at this moment, or those that were in doubt then.
abbrev pub FindsMoment : {D : Type 0} → List ℕ → Moment D → Type 0
FindsMoment left m = (x : Durable) × StandsFor left x × ((x ≡ m.holds) ⊎ IsOneOf m.in_doubt x)

-- the same of this moment or a later one
abbrev pub FindsSince : {D : Type 0} → List ℕ → Moment D → List (Moment D) → Type 0
FindsSince left m [] = FindsMoment left m
FindsSince left m (n ∷ ns) = FindsMoment left m ⊎ FindsSince left n ns

-- The bytes that reads of the disk give at a moment open as that moment. And whenever the machine stops from then on, between two disk
-- writes or within one, the bytes that are left open as the contents of the archive then, or after a later line.
pub record IsSafe {D : Type 0} (g : disk.Ghosts D) (end : D) (m : Moment D) (later : List (Moment D)) : Type 0 where
  pub reads : FindsMoment (g.seen m.disk) m
  pub stops : (left : List ℕ) → g.left_since end (g.clock m.disk) left → FindsSince left m later

-- the same of each moment
abbrev pub AreSafe : {D : Type 0} → disk.Ghosts D → D → Moment D → List (Moment D) → Type 0
AreSafe g end m [] = IsSafe g end m []
AreSafe g end m (n ∷ ns) = IsSafe g end m (n ∷ ns) × AreSafe g end n ns

abbrev pub answers_of : {D : Type 0} → Course D → List Answer
answers_of c = map answer_of c.lines

-- each with the bytes after its newline
abbrev pub commands : {D : Type 0} → Course D → List Item
commands c = map (λ (a : Answer). a.item) (answers_of c)

-- Behind the whole commands a script that was answered to its end has nothing, a last line that no newline ends, or a line whose
-- bytes are not all there.
abbrev pub EndsWhole : List ℕ → Said → Type 0
EndsWhole rest last = (ending : Ending) × IsEnding ending × (rest ≡ ending_text ending) × (last ≡ said_last ending)

-- one that could not be read on has no whole command there
abbrev pub BreaksThere : List ℕ → Type 0
BreaksThere rest = IsLine rest ⊎ ((line : List ℕ) × (raw : List ℕ) × (rest ≡ line ++ 10 ∷ raw) × IsLine line × (length raw < raw_length (said line)))

abbrev pub EndsSo : List ℕ → Said → Type 0
EndsSo rest last = EndsWhole rest last ⊎ ((last ≡ silence) × BreaksThere rest)

-- The script that was read, and the text of the replies: all that was written is a front of it.
pub record IsText {D : Type 0} (t : Streams) (c : Course D) : Type 0 where
  pub read : List ℕ
  -- after the whole commands
  pub rest : List ℕ
  pub ends : EndsSo rest c.last
  -- the bytes that were read and not looked at, since the output had failed
  pub more : List ℕ
  pub consumed : Consumes t.input t.input' (read ++ more)
  pub script : read ≡ flat_map spelled (commands c) ++ rest
  pub items : AllByRecursion IsItem (commands c)
  pub written : List ℕ
  pub unwritten : List ℕ
  pub appended : Appends t.taken t.taken' written
  pub replies : written ++ unwritten ≡ flat_map (λ (a : Answer). a.reply) (answers_of c) ++ c.reply

-- the line shows something of an archive, is blank, or is not in the grammar
abbrev pub is_idle : Said → Bool
is_idle silence = true
is_idle bad_line = true
is_idle long_line = true
is_idle list_all_cases = true
is_idle count_free = true
is_idle (inspect_of seq query) = true
is_idle _ = false

abbrev pub AllIdle : {D : Type 0} → Course D → Type 0
AllIdle c = AllByRecursion (λ (a : Answer). is_idle (what_of a) ≡ true) (answers_of c) × (is_idle c.last ≡ true)

-- A script of such lines, carried out to its end, only reads: reads give the same bytes as before, and a stop leaves only bytes that one
-- before could have left.
abbrev pub IsIdle : {D : Type 0} {T E : Type 0} → disk.Ghosts D → Result T E → Course D → D → D → Type 0
IsIdle g (Ok x) c before after = AllIdle c → OnlyReads g before after
IsIdle g (Err f) c before after = Unit {0}

-- on `Ok` the script ended there
abbrev pub IsEnded : {T E : Type 0} → Result T E → List ℕ → Said → Type 0
IsEnded (Ok x) rest last = EndsWhole rest last
IsEnded (Err f) rest last = Unit {0}

-- on `Ok` all of the script was read, and all replies are written
abbrev pub IsAll : {T E : Type 0} → Result T E → List ℕ → Option (List ℕ) → List ℕ → Type 0
IsAll (Ok x) more input' unwritten = (more ≡ []) × IsAtEnd input' × (unwritten ≡ [])
IsAll (Err f) more input' unwritten = Unit {0}

-- The headline of a session over a disk, `before` it and `after` it.
pub record IsCrashSafe {D : Type 0} (T E : Type 0) (g : disk.Ghosts D) (naming : Naming) (t : Streams) (before after : D) (r : Result T E) : Type 0 where
  pub course : Course D
  -- it begins with exactly the archive that the disk encodes
  pub found : (x : Durable) → StandsFor (g.seen before) x → course.begin.holds ≡ x
  pub is : IsCourse (begins_as naming) course
  pub text : IsText t course
  pub all : IsAll r text.more t.input' text.unwritten
  pub ended : IsEnded r text.rest course.last
  pub disk : after ≡ course.end.disk
  pub idle : IsIdle g r course before after
  -- a stop at any moment since the opening began leaves a disk that one before it could have left, or opens as one of these moments
  pub opening : (left : List ℕ) → g.left_since after (g.clock before) left → g.may_leave before left ⊎ FindsSince left course.begin (map moment_of course.lines ++ course.end ∷ [])
  -- a stop since an earlier moment leaves a disk that one until the opening or right before it could have left, or opens as one of these
  pub earlier : (time : ℕ) (left : List ℕ) → time ≤ g.clock before → g.left_since after time left
      → g.left_since before time left ⊎ (g.may_leave before left ⊎ FindsSince left course.begin (map moment_of course.lines ++ course.end ∷ []))
  pub safe : AreSafe g after course.begin (map moment_of course.lines ++ course.end ∷ [])

-- The promises of a life of an archive about stops: over an honest disk a session is crash-safe, and an opening that is refused
-- changes neither the bytes that reads give, nor those that a stop may leave.
abbrev pub Headline : {D : Type 0} (T : Type 0) → disk.Ghosts D → Naming → Streams → D → Result T LifeFault → D → Type 0
Headline T g naming t before (Ok x) after = IsTrue (g.is_honest before) → IsCrashSafe T LifeFault g naming t before after (Ok x)
Headline T g naming t before (Err (life.Session f)) after = IsTrue (g.is_honest before) → IsCrashSafe T LifeFault g naming t before after (Err (life.Session f))
Headline T g naming t before (Err (life.Open f)) after =
    IsTrue (g.is_honest before) → (g.seen after ≡ g.seen before) × ((left : List ℕ) → g.left_since after (g.clock before) left → g.may_leave before left)

-- So it is of each session from an opening on.
abbrev pub SessionsAreCrashSafe : {D : Type 0} → disk.Ghosts D → Type 0
SessionsAreCrashSafe {D} g = (limit : ℕ) (naming : Naming) (t : Streams) (before after : D) (r : Result (Unit {0}) LifeFault)
    → LifeEnds g limit t before r after (RunsOver g naming t) → Headline (Unit {0}) g naming t before r after
