-- One stream that is stored from its own input, with cases retired before it, and the label and the pin of its case.
use Rattle.std.specs.Prelude.{◌≡◌, ◌⊎◌, ℕ, zero, suc, ◌^◌, ◌<◌, ◌≤◌, ◌==◌, Bool, true, false, List, [], ◌∷◌, ◌++◌, length, Option, None, Some, Result, Ok, Err, is_ok, option_map, codes, decimal, if◌then◌else◌}
use Rattle.arrayvec.specs.ArrayVec.{ArrayVec}
use Rattle.script_lines.specs.Commands.{label_bytes}
use Rattle.std.specs.Io.KnownBytes.{Consumes, Appends, IsAtEnd}
use Rattle.std.specs.List.{flat_map}
use Rattle.intake.specs.declared.faults.ArchiveFault.{ArchiveFault}
use Rattle.disk_model.specs.declared.disk.Disk as disk
use Rattle.intake.specs.Calls.{ChangesNoCase, AbandonCall}
use Rattle.intake.specs.Durable.{Durable}
use Rattle.intake.specs.Parts.{Parts, state_of}
use Rattle.intake.specs.Slots.{stream_at}
use Rattle.intake.specs.Opened.{IsOpened}
use Rattle.intake.specs.Retiring.{KeepsTheName}
use Rattle.intake.specs.State.{ArchiveState, StreamFacts}
use Rattle.intake.specs.Step.{is_named}
use Rattle.diagnostics.specs.Counts.{HasRisen}
use Rattle.stream_names.specs.declared.naming.Naming.{Naming}
use Rattle.inspector_cli.specs.declared.burst.Burst.{Burst}
use Rattle.inspector_cli.specs.declared.session.Order.{Order}
use Rattle.inspector_cli.specs.declared.session.SessionFault.{SessionFault}
use Rattle.inspector_cli.specs.declared.session.StoreOutcome.{StoreOutcome}
use Rattle.inspector_cli.specs.declared.session.StoreOptions.{StoreOptions}
use Rattle.inspector_cli.specs.declared.session.SessionFault.TheVariants.{ReadFailed, WriteFailed, TooManyReads}
use Rattle.inspector_cli.specs.declared.store.TakeStop.{TakeStop}
use Rattle.inspector_cli.specs.declared.store.TakeStop.TheVariants.{File, Refused, Cut, Differs}
use Rattle.inspector_cli.specs.declared.stated.Stated.{Stated}
use Rattle.inspector_cli.specs.declared.stated.Difference.{Difference}
use Rattle.inspector_cli.specs.declared.stated.Difference.TheVariants.{Short, Long, Digest}
use Rattle.retention.specs.declared.Policy.{Policy}
use Rattle.script_lines.specs.Said.{Said, silence, begin_exec, begin_core, end_of, delete_of, pin_of, label_of, retire_by, long_line}
use Rattle.inspector_cli.specs.Stated.{HasOtherDigest, IsStated}
use Rattle.inspector_cli.specs.Fitting.{Going, IsGoing, IsServed, IsShort, IsUnder, RefusedIfSpent, TakesWhile, cut_of, going_text}
use Rattle.inspector_cli.specs.Session.{Streams}
use Rattle.inspector_cli.specs.Stages.{Stage, Moves, IsFoundAfterAStop}
use Rattle.script_streams.specs.Replies.{Printing, PrintsText, no_reply}
use Rattle.inspector_cli.specs.Reply.{Begins, Ends, Retires, Pins, Labels}
use Rattle.stream_names.specs.Streams.{exec_stream, core_stream}
use Rattle.archive_replies.specs.Reasons.{reason_of}
use Rattle.archive_replies.specs.Texts.{plain_reply}

-- The stream that a line begins in slot 0, or why it begins none there. Any other line is an unknown one.
abbrev pub line_stream : Naming → Said → Result StreamFacts (List ℕ)
line_stream naming (begin_exec slot name) = if slot == 0 then exec_stream name else Err (codes "BadLine")
line_stream naming (begin_core slot process) = if slot == 0 then core_stream naming process else Err (codes "BadLine")
line_stream naming long_line = Err (codes "LineTooLong")
line_stream naming _ = Err (codes "BadLine")

-- the meaning of `bytes are taken, or refused`
abbrev pub Taking : Type 1
Taking = List ℕ → Result (Unit {0}) ArchiveFault → Type 0

-- a property of bytes that are taken in one step
abbrev pub Adding : Type 1
Adding = List ℕ → Type 0

-- The bytes that are read of a file of which these bytes are kept: they are all, and it has ended, with the length and the SHA-256 that were
-- stated, if that was done. Or it is cut: they are as many as is printed, some at least, and more follow; they are fewer than were stated.
abbrev pub KeepsOf : Stated → Option (List ℕ) → Option (List ℕ) → Option ℕ → List ℕ → Type 0
KeepsOf want file file' None raw = Consumes file file' raw × IsAtEnd file' × IsStated want raw
KeepsOf want file file' (Some kept) raw = (more : List ℕ) × Consumes file file' (raw ++ more) × (0 < length more) × (length raw ≡ kept) × (0 < kept) × IsUnder want.length kept

-- How a file differs from its stated facts. It ends with these bytes, which are fewer; or these are as many, and more follow; or it ends with
-- these, which are as many, if a length was stated, and have another SHA-256.
abbrev pub DiffersBy : Stated → Option (List ℕ) → Option (List ℕ) → List ℕ → Difference → Type 0
DiffersBy want file file' raw Short = Consumes file file' raw × IsAtEnd file' × (n : ℕ) × (want.length ≡ Some n) × (length raw < n)
DiffersBy want file file' raw Long = (more : List ℕ) × Consumes file file' (raw ++ more) × (0 < length more) × (want.length ≡ Some (length raw))
DiffersBy want file file' raw Digest = Consumes file file' raw × IsAtEnd file' × HasOtherDigest want raw

-- the bytes of a file are taken to its end; or to the first that are refused; or it could not be read on, or 2^40 reads
-- were made and each gave a byte, and those that were read are taken; or it is cut, and those before the cut are taken; or it is
-- not the one that was stated, and those before its end, or before the first that is too many, are taken
abbrev pub TakesFile : Stated → Option (List ℕ) → Option (List ℕ) → ℕ → ℕ → Taking → Result (Unit {0}) TakeStop → Type 0
TakesFile want file file' fails fails' T (Ok u) =
    (raw : List ℕ) × Consumes file file' raw × IsAtEnd file' × T raw (Ok tt) × IsStated want raw
TakesFile want file file' fails fails' T (Err File) =
    (raw : List ℕ) × Consumes file file' raw × (HasRisen fails fails' ⊎ (2 ^ 40 ≤ length raw)) × T raw (Ok tt)
TakesFile want file file' fails fails' T (Err (Refused fault)) =
    (raw : List ℕ) × Consumes file file' raw × T raw (Err fault)
TakesFile want file file' fails fails' T (Err (Cut kept)) =
    (raw : List ℕ) × KeepsOf want file file' (Some kept) raw × T raw (Ok tt)
TakesFile want file file' fails fails' T (Err (Differs f)) =
    (raw : List ℕ) × DiffersBy want file file' raw f × T raw (Ok tt)

-- the next bytes of a file are taken after those so far, as many as the number says, or there are no more; or they are refused, or could
-- not be read; or they are there, and are not taken
abbrev pub TakesMore : Option (List ℕ) → Option (List ℕ) → ℕ → ℕ → List ℕ → Adding → Taking → Result ℕ TakeStop → Type 0
TakesMore file file' fails fails' so_far A T (Ok zero) =
    Consumes file file' [] × IsAtEnd file' × (fails' ≡ fails) × T so_far (Ok tt) × A []
TakesMore file file' fails fails' so_far A T (Ok (suc n)) =
    (raw : List ℕ) × Consumes file file' raw × (length raw ≡ suc n) × (fails' ≡ fails) × T (so_far ++ raw) (Ok tt) × A raw
TakesMore file file' fails fails' so_far A T (Err File) =
    Consumes file file' [] × HasRisen fails fails' × T so_far (Ok tt)
TakesMore file file' fails fails' so_far A T (Err (Refused fault)) =
    (raw : List ℕ) × Consumes file file' raw × (fails' ≡ fails) × T (so_far ++ raw) (Err fault)
TakesMore file file' fails fails' so_far A T (Err (Cut kept)) =
    (raw : List ℕ) × Consumes file file' raw × (0 < length raw) × (fails' ≡ fails) × T so_far (Ok tt)
TakesMore file file' fails fails' so_far A T (Err (Differs Short)) = ⊥
TakesMore file file' fails fails' so_far A T (Err (Differs Long)) =
    (raw : List ℕ) × Consumes file file' raw × (0 < length raw) × (fails' ≡ fails) × T so_far (Ok tt)
TakesMore file file' fails fails' so_far A T (Err (Differs Digest)) = ⊥

-- Whether a file goes on, which stops it for this reason; nothing is taken of it.
abbrev pub LooksPast : Option (List ℕ) → Option (List ℕ) → ℕ → ℕ → TakeStop → Result ℕ TakeStop → Type 0
LooksPast file file' fails fails' stop (Ok n) = (n ≡ 0) × Consumes file file' [] × IsAtEnd file' × (fails' ≡ fails)
LooksPast file file' fails fails' stop (Err why) =
    ((why ≡ File) × Consumes file file' [] × HasRisen fails fails')
    ⊎ ((why ≡ stop) × (raw : List ℕ) × Consumes file file' raw × (0 < length raw) × (fails' ≡ fails))

-- The part of the promise for the bytes so far that remains true if cases went:
-- they are taken, or the stream was refused, since a case could not be deleted.
abbrev pub AfterRoom : Taking → List ℕ → Result (Unit {0}) TakeStop → Type 0
AfterRoom T so_far (Ok u) = T so_far (Ok tt)
AfterRoom T so_far (Err File) = ⊥
AfterRoom T so_far (Err (Refused fault)) = T so_far (Err fault)
AfterRoom T so_far (Err (Cut kept)) = ⊥
AfterRoom T so_far (Err (Differs f)) = ⊥

-- Cases go, and are printed, while this much was taken.
abbrev pub MakesRoom : {D : Type 0} → disk.Ghosts D → Order → Parts D → List ℕ → List (Going D) → Printing → Parts D → Result (Unit {0}) TakeStop → Type 0
MakesRoom {D} g order begun so_far gone t new r =
    (more : List (Going D)) × PrintsText t (flat_map going_text more) × AfterRoom (λ raw v. TakesWhile g order begun raw (gone ++ more) v new) so_far r

-- the answer of a step that may let a case go, as that of the whole
abbrev pub stop_of : Result Bool TakeStop → Result (Unit {0}) TakeStop
stop_of (Ok b) = Ok tt
stop_of (Err stop) = Err stop

-- the same of one case at most
abbrev pub GoesNext : {D : Type 0} → disk.Ghosts D → Order → Parts D → List ℕ → List (Going D) → Printing → Parts D → Result Bool TakeStop → Type 0
GoesNext g order begun so_far gone t new r = MakesRoom g order begun so_far gone t new (stop_of r)

-- the next bytes of a file are taken, and cases go, and are printed
abbrev pub TakesNext : {D : Type 0} → disk.Ghosts D → Order → Option (List ℕ) → Option (List ℕ) → ℕ → ℕ → Parts D → List ℕ → List (Going D) → Bool → Adding → Printing → Parts D → Result ℕ TakeStop → Type 0
TakesNext {D} g order file file' fails fails' begun so_far gone fit A t new r =
    (more : List (Going D)) × PrintsText t (flat_map going_text more) × TakesMore file file' fails fails' so_far A (λ raw v. TakesWhile g order begun raw (gone ++ more) v new) r × (fit ≡ false → more ≡ [])

-- all bytes of a file are taken, or the first that are refused, and cases go, and are printed, if that is asked for
abbrev pub TakesAll : {D : Type 0} → disk.Ghosts D → Order → Bool → Stated → Option (List ℕ) → Option (List ℕ) → ℕ → ℕ → Parts D → Printing → Parts D → Result (Unit {0}) TakeStop → Type 0
TakesAll {D} g order fit want file file' fails fails' old t new r =
    (gone : List (Going D)) × PrintsText t (flat_map going_text gone) × TakesFile want file file' fails fails' (λ raw v. TakesWhile g order old raw gone v new) r × (fit ≡ false → gone ≡ [])

-- the bytes of a file are taken, and then cases may go for the record of its case: of a file that was cut, one may not be deleted then
abbrev pub FillsFile : Option ℕ → Stated → Option (List ℕ) → Option (List ℕ) → ℕ → ℕ → Taking → Result (Unit {0}) TakeStop → Type 0
FillsFile most want file file' fails fails' T (Ok u) = TakesFile want file file' fails fails' T (Ok u)
FillsFile most want file file' fails fails' T (Err File) = TakesFile want file file' fails fails' T (Err File)
FillsFile most want file file' fails fails' T (Err (Cut kept)) = TakesFile want file file' fails fails' T (Err (Cut kept))
FillsFile most want file file' fails fails' T (Err (Differs f)) = TakesFile want file file' fails fails' T (Err (Differs f))
FillsFile most want file file' fails fails' T (Err (Refused fault)) =
    TakesFile want file file' fails fails' T (Err (Refused fault))
    ⊎ ((n : ℕ) × (most ≡ Some n) × (kept : ℕ) × (raw : List ℕ) × KeepsOf want file file' (Some kept) raw × T raw (Err fault))

-- all of that, with the cases that go, and are printed
abbrev pub FillsAll : {D : Type 0} → disk.Ghosts D → Order → Bool → Option ℕ → Stated → Option (List ℕ) → Option (List ℕ) → ℕ → ℕ → Parts D → Printing → Parts D → Result (Unit {0}) TakeStop → Type 0
FillsAll {D} g order fit most want file file' fails fails' old t new r =
    (gone : List (Going D)) × PrintsText t (flat_map going_text gone) × FillsFile most want file file' fails fails' (λ raw v. TakesWhile g order old raw gone v new) r × (fit ≡ false → gone ≡ [])
    × IsShort g order fit most old gone (cut_of r)

-- why a stream is refused that is not the one that was stated
abbrev pub difference_reason : Difference → List ℕ
difference_reason Short = codes "Short"
difference_reason Long = codes "TooLong"
difference_reason Digest = codes "Differs"

-- the reply after the bytes, and the case's number if it is stored
abbrev pub FileReplies : {D : Type 0} → disk.Ghosts D → Parts D → Result (Unit {0}) TakeStop → List ℕ → Parts D → Option ℕ → Type 0
FileReplies g old (Ok u) reply new stored = Ends g old 0 reply new stored
FileReplies g old (Err File) reply new stored = (reply ≡ no_reply (codes "File")) × (new ≡ old) × (stored ≡ None)
FileReplies g old (Err (Refused fault)) reply new stored = (reply ≡ no_reply (reason_of fault)) × (new ≡ old) × (stored ≡ None)
FileReplies g old (Err (Cut kept)) reply new stored = Ends g old 0 reply new stored
FileReplies g old (Err (Differs f)) reply new stored = (reply ≡ no_reply (difference_reason f)) × (new ≡ old) × (stored ≡ None)

-- `cut KEPT`
abbrev pub cut_line : ℕ → List ℕ
cut_line kept = (codes "cut " ++ decimal kept) ++ 10 ∷ []

-- the text about a file that is cut, before the reply to the end: nothing, if no case is stored
abbrev pub cut_text : Option ℕ → Option ℕ → List ℕ
cut_text (Some kept) (Some seq) = cut_line kept
cut_text (Some kept) None = []
cut_text None stored = []

-- a file after a first line that was accepted or not, with the cases that go meanwhile, the place at which it is cut, if it is, and the archive
-- when its bytes are taken: if the line was not accepted, none is read
abbrev pub RestReplies : {D : Type 0} → disk.Ghosts D → Order → Option ℕ → Stated → Option (List ℕ) → Option (List ℕ) → ℕ → ℕ → Parts D → Bool → List (Going D) → Option ℕ → Parts D → List ℕ → Parts D → Option ℕ → Type 0
RestReplies g order most want file file' fails fails' old true gone cut filled reply new stored =
    (taken : Result (Unit {0}) TakeStop) × FillsFile most want file file' fails fails' (λ raw r. TakesWhile g order old raw gone r filled) taken × FileReplies g filled taken reply new stored × (cut ≡ cut_of taken)
RestReplies g order most want file file' fails fails' old false gone cut filled reply new stored =
    (file' ≡ file) × (fails' ≡ fails) × (filled ≡ old) × (reply ≡ []) × (new ≡ old) × (stored ≡ None) × (gone ≡ []) × (cut ≡ None)

-- all of that for a stream that has begun: the cases that go are printed, then a cut, and then the reply
abbrev pub FillsAndEnds : {D : Type 0} → disk.Ghosts D → Order → Bool → Option ℕ → Stated → Option (List ℕ) → Option (List ℕ) → ℕ → ℕ → Parts D → List ℕ → Parts D → Option ℕ → Type 0
FillsAndEnds {D} g order fit most want file file' fails fails' old text new stored =
    (gone : List (Going D)) × (cut : Option ℕ) × (filled : Parts D) × (rest : List ℕ) × (text ≡ flat_map going_text gone ++ (cut_text cut stored ++ rest)) × (fit ≡ false → gone ≡ [])
    × RestReplies g order most want file file' fails fails' old true gone cut filled rest new stored
    × (fit ≡ true → IsServed (state_of old) → RefusedIfSpent order rest (state_of filled)) × IsShort g order fit most old gone cut

-- a stream that is begun, or why it is not, and its file: the replies, and the case's number if it is stored
pub record StoresStream {D : Type 0} (g : disk.Ghosts D) (order : Order) (fit : Bool) (most : Option ℕ) (want : Stated) (file file' : Option (List ℕ)) (fails fails' : ℕ) (old : Parts D) (found : Result StreamFacts (List ℕ))
    (replies : List ℕ) (new : Parts D) (stored : Option ℕ) : Type 0 where
  pub first : List ℕ
  pub mid : Parts D
  pub accepted : Bool
  pub begins : Begins g old 0 found first mid accepted
  -- the cases that go meanwhile, which is so only if it is asked for
  pub gone : List (Going D)
  pub unasked : fit ≡ false → gone ≡ []
  -- how many bytes of the file are kept, if it is cut
  pub cut : Option ℕ
  -- when the file's bytes are taken
  pub filled : Parts D
  pub rest : List ℕ
  pub goes_on : RestReplies g order most want file file' fails fails' mid accepted gone cut filled rest new stored
  -- a stream for which cases may go is refused since there is no room only if no case may go any more
  pub spent : fit ≡ true → RefusedIfSpent order rest (state_of filled)
  -- a file is cut only if that is asked for, and only if no more of it may be kept
  pub short : IsShort g order fit most mid gone cut
  pub text : replies ≡ first ++ (flat_map going_text gone ++ (cut_text cut stored ++ rest))

-- Cases are retired by a policy: the work of `retire` in a session, and whether it was answered other than `no REASON`. If there is no
-- policy, nothing is done and nothing is said.
abbrev pub RetiresFirst : {D : Type 0} → disk.Ghosts D → Parts D → Option Policy → List ℕ → Parts D → Bool → Type 0
RetiresFirst g old None reply new made = (reply ≡ []) × (new ≡ old) × (made ≡ true)
RetiresFirst g old (Some policy) reply new made = (answered : Retires g old policy reply new) × (made ≡ is_ok answered.0)

-- Nothing is retired for it: there is no stream, or the name is that of a case that would stay.
abbrev pub CannotBegin : ArchiveState → Policy → Result StreamFacts (List ℕ) → Type 0
CannotBegin s policy (Err reason) = Unit {0}
CannotBegin s policy (Ok stream) = KeepsTheName s policy stream.origin.name true × (is_named stream.origin.name s.cases ≡ true)

-- Nothing but want of memory, or a stream that is open already, keeps the stream from beginning.
abbrev pub MayBeginNow : ArchiveState → Result StreamFacts (List ℕ) → Type 0
MayBeginNow s (Err reason) = ⊥
MayBeginNow s (Ok stream) = (s.stopped ≡ false) × (is_named stream.origin.name s.cases ≡ false)

-- The policy by which cases are retired: the one that was asked for, or none, if the stream can't begin after it.
abbrev pub IsChosen : ArchiveState → Option Policy → Result StreamFacts (List ℕ) → Option Policy → Type 0
IsChosen s asked found None = (asked ≡ None) ⊎ ((policy : Policy) × (asked ≡ Some policy) × CannotBegin s policy found)
IsChosen s asked found (Some policy) = asked ≡ Some policy

-- The cases that are retired for a stream: something goes only if the stream can begin then.
pub record RetiresForStream {D : Type 0} (g : disk.Ghosts D) (old : Parts D) (asked : Option Policy) (found : Result StreamFacts (List ℕ)) (told : List ℕ) (new : Parts D) (made : Bool) : Type 0 where
  pub policy : Option Policy
  pub chosen : IsChosen (state_of old) asked found policy
  pub retires_first : RetiresFirst g old policy told new made
  -- if cases were retired, the stream may begin
  pub needed : (p : Policy) → policy ≡ Some p → made ≡ true → MayBeginNow (state_of new) found

-- The same of a stream of this name: nothing is done if a case that stays has the name.
abbrev pub RetiresForName : {D : Type 0} → disk.Ghosts D → Parts D → Policy → List ℕ → List ℕ → Parts D → Bool → Type 0
RetiresForName g old policy name told new made =
    ((told ≡ []) × (new ≡ old) × (made ≡ true) × KeepsTheName (state_of old) policy name true × (is_named name (state_of old).cases ≡ true))
    ⊎ ((answered : Retires g old policy told new) × (made ≡ is_ok answered.0) × (made ≡ true → ((state_of new).stopped ≡ false) × (is_named name (state_of new).cases ≡ false)))

-- The pin of the case that was stored: the effect of `pin` in a session, and whether it was answered other than `no REASON`. If no pin is
-- asked for, or no case is stored, nothing is done and nothing is printed.
abbrev pub PinsCase : {D : Type 0} → disk.Ghosts D → Parts D → Option ℕ → Bool → List ℕ → Parts D → Bool → Type 0
PinsCase g old (Some seq) true reply new done = (answered : Pins g old seq true reply new) × (done ≡ is_ok answered.0)
PinsCase g old (Some seq) false reply new done = (reply ≡ []) × (new ≡ old) × (done ≡ true)
PinsCase g old None pin reply new done = (reply ≡ []) × (new ≡ old) × (done ≡ true)

-- The label of the case that was stored: the effect of `label` in a session, and whether it was answered other than `no REASON`. If no
-- label is asked for, or no case is stored, nothing is done and nothing is printed.
abbrev pub LabelsCase : {D : Type 0} → disk.Ghosts D → Parts D → Option ℕ → Option (List ℕ) → List ℕ → Parts D → Bool → Type 0
LabelsCase g old (Some seq) (Some label) reply new done = (answered : Labels g old seq label reply new) × (done ≡ is_ok answered.0)
LabelsCase g old (Some seq) None reply new done = (reply ≡ []) × (new ≡ old) × (done ≡ true)
LabelsCase g old None label reply new done = (reply ≡ []) × (new ≡ old) × (done ≡ true)

-- the bytes of a label, if there is one
abbrev pub label_asked : Option (ArrayVec ℕ) → Option (List ℕ)
label_asked label = option_map label_bytes label

-- the options of a stream that is stored
pub record Options : Type 0 where
  pub label : Option (List ℕ)
  pub pin : Bool
  -- cases go so that the stream finds room
  pub fit : Bool
  -- in which order they go
  pub order : Order
  -- how many bytes are kept at most, of a stream that has more, and that fits so
  pub cut : Option ℕ
  -- how many bytes the stream has, if that is stated
  pub length : Option ℕ
  -- and their SHA-256
  pub digest : Option (List ℕ)
  -- how many cores of one program may be stored
  pub burst : Option Burst

abbrev pub options_asked : StoreOptions → Options
options_asked options = record { label = label_asked options.label; pin = options.pin; fit = options.fit; order = options.order; cut = options.cut; length = options.length; digest = options.digest; burst = options.burst }

-- the facts that they state about the stream
abbrev pub stated_in : Options → Stated
stated_in options = record { length = options.length; digest = options.digest }

-- the retirement for a stream by a policy, the stream with its file, and then the label and the pin of its case
pub record Stores {D : Type 0} (g : disk.Ghosts D) (file file' : Option (List ℕ)) (fails fails' : ℕ) (old : Parts D) (asked : Option Policy) (found : Result StreamFacts (List ℕ)) (options : Options)
    (replies : List ℕ) (new : Parts D) (outcome : StoreOutcome) : Type 0 where
  pub told : List ℕ
  -- when cases are retired
  pub retired : Parts D
  pub retires_first : RetiresForStream g old asked found told retired outcome.retired_first
  pub more : List ℕ
  -- when the case is stored, or the stream is refused
  pub ended : Parts D
  pub stores : StoresStream g options.order options.fit options.cut (stated_in options) file file' fails fails' retired found more ended outcome.stored
  pub named : List ℕ
  -- when the case has its label, if it is to have one
  pub labelled : Parts D
  pub labels : LabelsCase g ended outcome.stored options.label named labelled outcome.labelled
  pub last : List ℕ
  pub pins : PinsCase g labelled outcome.stored options.pin last new outcome.pinned
  pub all : replies ≡ told ++ (more ++ (named ++ last))

-- no stream is open in slot 0
abbrev pub IsSlotQuiet : ArchiveState → Type 0
IsSlotQuiet s = stream_at s.streams 0 ≡ None

-- the line of a session that retires by this policy, or no line
abbrev pub retire_line : Option Policy → Said
retire_line None = silence
retire_line (Some policy) = retire_by policy

-- the line of a session that pins the case, or no line
abbrev pub said_pin : Option ℕ → Bool → Said
said_pin (Some seq) true = pin_of seq true
said_pin (Some seq) false = silence
said_pin None pin = silence

-- the line of a session that gives the case its label, or no line
abbrev pub said_label : Option ℕ → Option (List ℕ) → Said
said_label (Some seq) (Some label) = label_of seq label
said_label (Some seq) None = silence
said_label None label = silence

-- The stages while bytes are taken and cases go: two for each case, when it goes and then.
abbrev pub GoneStages : {D : Type 0} → disk.Ghosts D → Order → Stage D → List (Going D) → List (Stage D) → Stage D → Type 0
GoneStages g order old [] [] filled = ChangesNoCase g old.archive filled.archive × (filled.in_doubt ≡ old.in_doubt)
GoneStages g order old (w ∷ ws) (s ∷ t ∷ ss) filled =
    ChangesNoCase g old.archive s.archive × (s.in_doubt ≡ old.in_doubt) × (s.archive ≡ w.before)
    × IsGoing g order w × Moves g s (delete_of w.seq) (plain_reply w.answer) t × (t.archive ≡ w.after) × GoneStages g order t ws ss filled
GoneStages g order old _ _ filled = ⊥

-- The archive that a stop leaves of it, as if by lines of a session: cases are retired, then others go while bytes are taken, then a case is
-- stored, and only then it gets its label, and is pinned. The stream's beginning and the file's bytes change no case.
pub record StoreStages {D : Type 0} (g : disk.Ghosts D) (order : Order) (old : Stage D) (policy : Option Policy) (told : List ℕ) (retired : Parts D) (gone : List (Going D)) (filled : Parts D) (reply : List ℕ) (ended : Parts D)
    (labels : Said) (named : List ℕ) (labelled : Parts D) (pins : Said) (last : List ℕ) (end : Stage D) (new : Parts D) : Type 0 where
  -- the doubt while cases are retired
  pub in_doubt : List Durable
  pub retires_first : Moves g old (retire_line policy) told (record { archive = retired; in_doubt = in_doubt })
  -- while bytes are taken and cases go
  pub stages : List (Stage D)
  -- and when all bytes are taken
  pub filled_doubt : List Durable
  pub goes : GoneStages g order (record { archive = retired; in_doubt = in_doubt }) gone stages (record { archive = filled; in_doubt = filled_doubt })
  -- and when the stream has ended
  pub later_doubt : List Durable
  pub moves : Moves g (record { archive = filled; in_doubt = filled_doubt }) (end_of 0) reply (record { archive = ended; in_doubt = later_doubt })
  -- and when the case has its label
  pub named_doubt : List Durable
  pub gives_label : Moves g (record { archive = ended; in_doubt = later_doubt }) labels named (record { archive = labelled; in_doubt = named_doubt })
  pub gives_pin : Moves g (record { archive = labelled; in_doubt = named_doubt }) pins last end
  pub found : IsFoundAfterAStop g old
      (record { archive = retired; in_doubt = in_doubt } ∷ (stages ++ (record { archive = filled; in_doubt = filled_doubt } ∷ record { archive = ended; in_doubt = later_doubt } ∷ record { archive = labelled; in_doubt = named_doubt } ∷ []))) end new

-- The archive that a stop leaves of a store.
abbrev pub StopsStore : {D : Type 0} → (g : disk.Ghosts D) → (t : Streams) → (old : Stage D) → (asked : Option Policy) → (found : Result StreamFacts (List ℕ)) → (options : Options)
    → (replies : List ℕ) → (end : Stage D) → (outcome : StoreOutcome) → Stores g t.input t.input' t.fails t.fails' old.archive asked found options replies end.archive outcome → Parts D → Type 0
StopsStore g t old asked found options replies end outcome s new =
    StoreStages g options.order old s.retires_first.policy s.told s.retired s.stores.gone s.stores.filled s.stores.rest s.ended (said_label outcome.stored options.label) s.named s.labelled (said_pin outcome.stored options.pin) s.last end new

-- The result of the store, if the replies were written; or the output failed, and has a front of them. A stream that is left in slot 0 is
-- dropped. In each case the stages give the cases that an opening finds after a stop.
abbrev pub StoreEnds : {D : Type 0} → disk.Ghosts D → Streams → Stage D → Option Policy → Result StreamFacts (List ℕ) → Options → Parts D → Result StoreOutcome SessionFault → Type 0
StoreEnds {D} g t old asked found options new (Ok outcome) =
    (replies : List ℕ) × (end : Stage D) × (dropped : Result (Unit {0}) ArchiveFault)
    × (s : Stores g t.input t.input' t.fails t.fails' old.archive asked found options replies end.archive outcome) × AbandonCall g end.archive 0 dropped new × Appends t.taken t.taken' replies
    × StopsStore g t old asked found options replies end outcome s new
StoreEnds {D} g t old asked found options new (Err WriteFailed) =
    (out : List ℕ) × (rest : List ℕ) × (end : Stage D) × (outcome : StoreOutcome) × (dropped : Result (Unit {0}) ArchiveFault)
    × (s : Stores g t.input t.input' t.fails t.fails' old.archive asked found options (out ++ rest) end.archive outcome) × AbandonCall g end.archive 0 dropped new × Appends t.taken t.taken' out × HasRisen t.lost t.lost'
    × StopsStore g t old asked found options (out ++ rest) end outcome s new
StoreEnds g t old asked found options new (Err ReadFailed) = ⊥
StoreEnds g t old asked found options new (Err TooManyReads) = ⊥

-- Nothing is retired but for a stream that is begun then. Over an archive without streams, as an opening answers it, a retirement
-- is followed by the stream that it is for; only want of memory keeps it from beginning.
abbrev pub RetiresForAStreamAlone : {D : Type 0} → disk.Ghosts D → Type 0
RetiresForAStreamAlone {D} g = (file file' : Option (List ℕ)) (fails fails' : ℕ) (old : Parts D) (asked : Option Policy) (found : Result StreamFacts (List ℕ)) (options : Options)
    (replies : List ℕ) (end : Parts D) (outcome : StoreOutcome) (limit : ℕ)
    → IsOpened limit old
    → (s : Stores g file file' fails fails' old asked found options replies end outcome)
    → outcome.retired_first ≡ true
    → (s.retired ≡ old) ⊎ (s.stores.accepted ≡ true) ⊎ (s.stores.first ≡ no_reply (codes "OutOfMemory"))

-- A policy that was asked for is left out only if the stream is refused.
abbrev pub RetiresUnlessRefused : {D : Type 0} → disk.Ghosts D → Type 0
RetiresUnlessRefused {D} g = (file file' : Option (List ℕ)) (fails fails' : ℕ) (old : Parts D) (asked : Option Policy) (found : Result StreamFacts (List ℕ)) (options : Options)
    (replies : List ℕ) (end : Parts D) (outcome : StoreOutcome) (policy : Policy)
    → asked ≡ Some policy
    → (s : Stores g file file' fails fails' old asked found options replies end outcome)
    → (s.retires_first.policy ≡ Some policy) ⊎ (s.stores.accepted ≡ false)

-- If no policy is asked for, nothing is retired, and there is no text about it.
abbrev pub RetiresNothingUnasked : {D : Type 0} → disk.Ghosts D → Type 0
RetiresNothingUnasked {D} g = (file file' : Option (List ℕ)) (fails fails' : ℕ) (old : Parts D) (found : Result StreamFacts (List ℕ)) (options : Options)
    (replies : List ℕ) (end : Parts D) (outcome : StoreOutcome)
    → (s : Stores g file file' fails fails' old None found options replies end outcome)
    → (s.told ≡ []) × (s.retired ≡ old) × (outcome.retired_first ≡ true)
