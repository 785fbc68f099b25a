-- The headline of a store: the contents of the archive when it begins, when cases are retired, when others go while FILE is taken, when the case
-- is stored, when it has its label, and when it is pinned; and the archive that a stop of the machine leaves.
use Rattle.std.specs.Prelude.{◌≡◌, ◌⊎◌, ℕ, ◌≤◌, ◌%◌, true, false, List, [], ◌∷◌, ◌++◌, length, map, Option, None, Some, Result, Ok, Err, IsTrue, codes, if◌then◌else◌}
use Rattle.std.specs.List.{AllByRecursion, filter, flat_map}
use Rattle.std.specs.Io.KnownBytes.{Appends}
use Rattle.disk_model.specs.declared.disk.Disk as disk
use Rattle.intake.specs.Durable.{Durable, FoundCase, StandsFor, with_case}
use Rattle.intake.specs.State.{StreamFacts}
use Rattle.retention.specs.declared.Policy.{Policy}
use Rattle.archive_replies.specs.Texts.{dropped_line, end_reply}
use Rattle.script_lines.specs.Said.{Said, delete_of}
use Rattle.script_streams.specs.Replies.{no_reply}
use Rattle.journal_layout.specs.Case.{Case}
use Rattle.inspector_cli.specs.Bursts.{admitted}
use Rattle.inspector_cli.specs.declared.session.Order.{Order}
use Rattle.inspector_cli.specs.declared.stated.Stated.{Stated}
use Rattle.inspector_cli.specs.Fitting.{IsNext, may_go}
use Rattle.inspector_cli.specs.Told.{is_no}
use Rattle.inspector_cli.specs.declared.session.LifeFault.{LifeFault}
use Rattle.inspector_cli.specs.declared.session.LifeFault.TheVariants as life
use Rattle.inspector_cli.specs.declared.session.StoreOutcome.{StoreOutcome}
use Rattle.inspector_cli.specs.Headline.{Moment, LeadsOn, AreSafe, FindsSince}
use Rattle.inspector_cli.specs.Life.{LifeEnds, StoresOver}
use Rattle.inspector_cli.specs.Session.{Streams}
use Rattle.inspector_cli.specs.Storing.{KeepsOf, Options, cut_text, retire_line, said_pin, said_label, stated_in}

-- A case is added after x: the one that the stream was begun as. Its image is all bytes of FILE, as many as were stated and with the
-- SHA-256 that was, if that was done; or, if FILE is cut, so many of its first ones.
pub record AddsCase (found : Result StreamFacts (List ℕ)) (want : Stated) (file file' : Option (List ℕ)) (cut : Option ℕ) (x : Durable) (n : ℕ) (y : Durable) : Type 0 where
  pub stream : StreamFacts
  pub begun : found ≡ Ok stream
  pub image : List ℕ
  pub read : KeepsOf want file file' cut image
  pub blocks : List ℕ
  pub number : n ≡ x.next
  pub adds : y ≡ with_case x (record stream { len = length image }) blocks image

-- the case of the number that is printed, or none
abbrev pub StoresOrNot : Result StreamFacts (List ℕ) → Stated → Option (List ℕ) → Option (List ℕ) → Option ℕ → Durable → Option ℕ → Durable → Type 0
StoresOrNot found want file file' cut x (Some n) y = AddsCase found want file file' cut x n y
StoresOrNot found want file file' cut x None y = y ≡ x

-- The place at which FILE is cut, if it is: only if so many bytes may be kept at most, and at that many, or at whole blocks.
abbrev pub IsCutShort : Option ℕ → Option ℕ → Type 0
IsCutShort most None = Unit {0}
IsCutShort most (Some kept) = (n : ℕ) × (most ≡ Some n) × (kept ≤ n) × ((kept ≡ n) ⊎ (kept % 4096 ≡ 0))

-- the lines that retire, delete, give a label and pin begin no stream
abbrev pub no_stream : Said → Option StreamFacts
no_stream what = None

-- If a case is stored, its number is the reply to the stream's end; if none is, the stream is refused when it begins, or later.
abbrev pub PrintsStored : Option ℕ → List ℕ → List ℕ → Type 0
PrintsStored (Some n) first reply = reply ≡ end_reply (Ok n)
PrintsStored None first reply = ((reason : List ℕ) × (reply ≡ no_reply reason)) ⊎ ((reply ≡ []) × ((reason : List ℕ) × (first ≡ no_reply reason)))

-- A case that goes so that the stream finds room: the moment when it does, its number, the reply that its deletion would have as a
-- line, and the moment then.
pub record Gone (D : Type 0) : Type 0 where
  pub before : Moment D
  pub seq : ℕ
  pub reply : List ℕ
  pub after : Moment D

-- The text about it is `dropped`. If it could not be deleted, the reason is the reply to the stream.
abbrev pub gone_line : {D : Type 0} → Gone D → List ℕ
gone_line x = if is_no x.reply then [] else dropped_line x.seq

abbrev pub moments_of : {D : Type 0} → List (Gone D) → List (Moment D)
moments_of [] = []
moments_of (x ∷ xs) = x.before ∷ x.after ∷ moments_of xs

abbrev pub case_in : FoundCase → Case
case_in c = c.case

-- While bytes are taken these cases go, one after the other: each is the next of those that are left then. Bytes change no case.
abbrev pub GoInTurn : {D : Type 0} → Order → Moment D → List (Gone D) → Moment D → Type 0
GoInTurn order m [] filled = (filled.holds ≡ m.holds) × (filled.in_doubt ≡ m.in_doubt)
GoInTurn order m (x ∷ xs) filled =
    (x.before.holds ≡ m.holds) × (x.before.in_doubt ≡ m.in_doubt) × IsNext order (map case_in x.before.holds.cases) x.seq
    × LeadsOn no_stream [] x.before (delete_of x.seq) x.reply x.after × GoInTurn order x.after xs filled

pub record StoreCourse (D : Type 0) : Type 0 where
  pub begin : Moment D
  -- the policy by which cases are retired, if there is one, and its text
  pub policy : Option Policy
  pub told : List ℕ
  pub retired : Moment D
  -- the cases that go while FILE is taken
  pub gone : List (Gone D)
  -- when the bytes of FILE are taken
  pub filled : Moment D
  -- how many bytes of FILE are kept, if it is cut
  pub cut : Option ℕ
  -- the reply to the stream's beginning, and to its end
  pub first : List ℕ
  pub reply : List ℕ
  pub stored : Option ℕ
  pub ended : Moment D
  -- the reply to the label of the case, and to its pin
  pub labels : List ℕ
  pub labelled : Moment D
  pub pins : List ℕ
  pub end : Moment D

-- Each step does its work, on the contents of the archive before it, or is refused and changes nothing.
pub record IsStoreCourse {D : Type 0} (asked : Option Policy) (found : Result StreamFacts (List ℕ)) (options : Options) (file file' : Option (List ℕ)) (c : StoreCourse D) : Type 0 where
  pub clear : c.begin.in_doubt ≡ []
  pub chosen : (c.policy ≡ asked) ⊎ (c.policy ≡ None)
  pub retires_first : LeadsOn no_stream [] c.begin (retire_line c.policy) c.told c.retired
  pub goes : GoInTurn options.order c.retired c.gone c.filled
  -- nothing goes unless that is asked for
  pub unasked : options.fit ≡ false → c.gone ≡ []
  pub stores : StoresOrNot found (stated_in options) file file' c.cut c.filled.holds c.stored c.ended.holds
  -- a case is stored only if nothing is in doubt
  pub sure : (n : ℕ) → c.stored ≡ Some n → c.filled.in_doubt ≡ []
  pub states : PrintsStored c.stored c.first c.reply
  -- if cases may go, the stream is refused since no data block is free only if all cases that are left are pinned
  pub spent : options.fit ≡ true → c.reply ≡ no_reply (codes "SpaceFull") → filter may_go (map case_in c.filled.holds.cases) ≡ []
  -- FILE is cut only if that is asked for, and only if no more of it may be kept
  pub short : IsCutShort options.cut c.cut
  -- a case is in doubt only if the end is answered `no Disk`
  pub doubts : List Durable
  pub in_doubt : c.ended.in_doubt ≡ doubts ++ c.filled.in_doubt
  pub doubted : (doubts ≡ []) ⊎ ((c.reply ≡ no_reply (codes "Disk")) × AllByRecursion (λ (z : Durable). (n : ℕ) × AddsCase found (stated_in options) file file' c.cut c.filled.holds n z) doubts)
  pub gives_label : LeadsOn no_stream [] c.ended (said_label c.stored options.label) c.labels c.labelled
  pub gives_pin : LeadsOn no_stream [] c.labelled (said_pin c.stored options.pin) c.pins c.end

-- on `Ok` all replies are written, and the outcome says whether the case is stored
abbrev pub IsTold : {E : Type 0} → Result StoreOutcome E → Option ℕ → List ℕ → Type 0
IsTold (Ok outcome) stored unwritten = (outcome.stored ≡ stored) × (unwritten ≡ [])
IsTold (Err f) stored unwritten = Unit {0}

-- The headline of a store over a disk, `before` it and `after` it.
pub record IsStoreSafe {D : Type 0} (g : disk.Ghosts D) (t : Streams) (asked : Option Policy) (found : Result StreamFacts (List ℕ)) (options : Options) (before after : D) (r : Result StoreOutcome LifeFault) : Type 0 where
  pub course : StoreCourse D
  -- it begins with exactly the archive that the disk encodes
  pub found_again : (x : Durable) → StandsFor (g.seen before) x → course.begin.holds ≡ x
  pub is : IsStoreCourse asked found options t.input t.input' course
  pub written : List ℕ
  pub unwritten : List ℕ
  pub appended : Appends t.taken t.taken' written
  pub text : written ++ unwritten ≡ course.told ++ ((course.first ++ (flat_map gone_line course.gone ++ (cut_text course.cut course.stored ++ course.reply))) ++ (course.labels ++ course.pins))
  pub disk : after ≡ course.end.disk
  pub answered : IsTold r course.stored unwritten
  -- a stop at any moment since the opening began leaves a disk that one before it could have left, or opens as one of these moments
  pub opening : (left : List ℕ) → g.left_since after (g.clock before) left
      → g.may_leave before left ⊎ FindsSince left course.begin (course.retired ∷ (moments_of course.gone ++ (course.filled ∷ course.ended ∷ course.labelled ∷ course.end ∷ [])))
  -- a stop since an earlier moment leaves a disk that one until the opening or right before it could have left, or opens as one of these
  pub earlier : (time : ℕ) (left : List ℕ) → time ≤ g.clock before → g.left_since after time left
      → g.left_since before time left ⊎ (g.may_leave before left ⊎ FindsSince left course.begin (course.retired ∷ (moments_of course.gone ++ (course.filled ∷ course.ended ∷ course.labelled ∷ course.end ∷ []))))
  pub safe : AreSafe g after course.begin (course.retired ∷ (moments_of course.gone ++ (course.filled ∷ course.ended ∷ course.labelled ∷ course.end ∷ [])))

-- The same with the stream that is admitted by the contents of the archive when the store begins.
abbrev pub IsAdmittedSafe : {D : Type 0} → disk.Ghosts D → Streams → Option Policy → Result StreamFacts (List ℕ) → Options → D → D → Result StoreOutcome LifeFault → Type 0
IsAdmittedSafe g t asked found options before after r =
    (stream : Result StreamFacts (List ℕ)) × (s : IsStoreSafe g t asked stream options before after r) × (stream ≡ admitted options.burst false (map case_in s.course.begin.holds.cases) found)

-- The promises of a store about stops, over an honest disk. An opening that is refused changes neither the bytes that reads give, nor those
-- that a stop may leave.
abbrev pub StoreHeadline : {D : Type 0} → disk.Ghosts D → Streams → Option Policy → Result StreamFacts (List ℕ) → Options → D → Result StoreOutcome LifeFault → D → Type 0
StoreHeadline g t asked found options before (Ok x) after = IsTrue (g.is_honest before) → IsAdmittedSafe g t asked found options before after (Ok x)
StoreHeadline g t asked found options before (Err (life.Session f)) after = IsTrue (g.is_honest before) → IsAdmittedSafe g t asked found options before after (Err (life.Session f))
StoreHeadline g t asked found options before (Err (life.Open f)) after =
    IsTrue (g.is_honest before) → (g.seen after ≡ g.seen before) × ((left : List ℕ) → g.left_since after (g.clock before) left → g.may_leave before left)

-- a stream that is begun has no bytes yet
abbrev pub BeginsEmpty : Result StreamFacts (List ℕ) → Type 0
BeginsEmpty (Ok stream) = stream.len ≡ 0
BeginsEmpty (Err reason) = Unit {0}

-- So it is of each store from an opening on.
abbrev pub StoresAreCrashSafe : {D : Type 0} → disk.Ghosts D → Type 0
StoresAreCrashSafe {D} g = (limit : ℕ) (t : Streams) (asked : Option Policy) (found : Result StreamFacts (List ℕ)) (options : Options) (before after : D) (r : Result StoreOutcome LifeFault)
    → BeginsEmpty found → LifeEnds g limit t before r after (StoresOver g asked found options t) → StoreHeadline g t asked found options before r after
