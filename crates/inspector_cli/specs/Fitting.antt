-- Cases that go so that a stream finds room: which goes next, and the fate of the bytes that the stream takes meanwhile.
use Rattle.std.specs.Prelude.{◌≡◌, ◌⊎◌, ℕ, zero, suc, ◌+◌, ◌%◌, ◌<◌, ◌≤◌, Bool, true, false, not, ◌&&◌, nat_lt, List, [], ◌∷◌, ◌++◌, length, Option, None, Some, Result, Ok, Err}
use Rattle.std.specs.List.{find, filter}
use Rattle.disk_model.specs.declared.disk.Disk as disk
use Rattle.journal_layout.specs.Case.{Case, case_of}
use Rattle.journal_layout.specs.declared.entry.Entry.{Entry}
pub use Rattle.fair_share.specs.Fairness.{is_core, may_go_first}
use Rattle.fair_share.specs.Fairness.{fairest}
use Rattle.intake.specs.Calls.{DeleteCall}
use Rattle.intake.specs.Needs.{lacks_record_room}
use Rattle.intake.specs.Parts.{Parts, state_of}
use Rattle.intake.specs.Slots.{stream_at}
use Rattle.intake.specs.State.{ArchiveState, StreamFacts, blocks_in}
use Rattle.intake.specs.Step.{AdvanceStep, RoomReply, IsFull, IsLastGeneration, cases_without, drop_size}
use Rattle.intake.specs.declared.faults.ArchiveFault.{ArchiveFault}
use Rattle.intake.specs.declared.faults.ArchiveFault.TheVariants.{SpaceFull, JournalFull}
use Rattle.inspector_cli.specs.declared.fitting.Need.{Need}
use Rattle.inspector_cli.specs.declared.fitting.Need.TheVariants.{Block, Record}
use Rattle.inspector_cli.specs.declared.session.Order.{Order}
use Rattle.inspector_cli.specs.declared.session.Order.TheVariants.{Oldest, Fair}
use Rattle.inspector_cli.specs.declared.store.TakeStop.{TakeStop}
use Rattle.inspector_cli.specs.declared.store.TakeStop.TheVariants.{File, Refused, Cut, Differs}
use Rattle.inspector_cli.specs.declared.stated.Difference.TheVariants.{Short, Long, Digest}
use Rattle.inspector_cli.specs.declared.stated.Stated.{Stated}
use Rattle.inspector_cli.specs.Stated.{HasOtherDigest, IsStated}
use Rattle.script_streams.specs.Replies.{no_reply}
use Rattle.archive_replies.specs.Reasons.{reason_of}
use Rattle.archive_replies.specs.Texts.{dropped_line}
use Rattle.inspector_cli.specs.Reply.{Takes}

-- a case that is not pinned
abbrev pub may_go : Case → Bool
may_go c = not c.pinned

-- the same of the entry of a case
abbrev pub goes : Entry → Bool
goes e = may_go (case_of e)

abbrev pub goes_first : Entry → Bool
goes_first e = may_go_first (case_of e)

abbrev pub or_else : Option Case → Option Case → Option Case
or_else (Some c) other = Some c
or_else None other = other

-- Of cases in the order of their numbers the core that goes next, if one is not pinned: the first, or the one that is fair.
abbrev pub next_core : Order → List Case → Option Case
next_core Oldest cases = find may_go_first cases
next_core Fair cases = fairest cases

-- The case that goes next: that core. If there is no such core, it is the first executable that is not pinned.
abbrev pub next_to_go : Order → List Case → Option Case
next_to_go order cases = or_else (next_core order cases) (find may_go cases)

-- the case of this number goes next
abbrev pub IsNext : Order → List Case → ℕ → Type 0
IsNext order cases seq = (c : Case) × (next_to_go order cases ≡ Some c) × (c.seq ≡ seq)

-- no data block is free
abbrev pub HasNoBlock : ArchiveState → Type 0
HasNoBlock s = blocks_in s ≡ s.shape.data_blocks

-- The stream in slot 0 finds no room: no data block is free, or the journal has none for its record.
abbrev pub FindsNoRoom : ArchiveState → Type 0
FindsNoRoom s = HasNoBlock s ⊎ (lacks_record_room s 0 ≡ true)

-- A case goes: the archive when it does, its number, the answer to its deletion, and the archive then.
pub record Going (D : Type 0) : Type 0 where
  pub before : Parts D
  pub seq : ℕ
  pub answer : Result (Unit {0}) ArchiveFault
  pub after : Parts D

-- It is the next one, and something goes only if the stream finds no room.
pub record IsGoing {D : Type 0} (g : disk.Ghosts D) (order : Order) (w : Going D) : Type 0 where
  pub next : IsNext order (state_of w.before).cases w.seq
  pub needed : FindsNoRoom (state_of w.before)
  pub deletes : DeleteCall g w.before w.seq w.answer w.after

-- the text about it; if a case could not be deleted, the reason is the reply to the stream
abbrev pub gone_text : ℕ → Result (Unit {0}) ArchiveFault → List ℕ
gone_text seq (Ok u) = dropped_line seq
gone_text seq (Err f) = []

abbrev pub going_text : {D : Type 0} → Going D → List ℕ
going_text w = gone_text w.seq w.answer

-- If a case is deleted, the stream goes on. If it could not be deleted, that refuses the stream.
abbrev pub GoesOn : {D : Type 0} → Result (Unit {0}) ArchiveFault → List (Going D) → List ℕ → Result (Unit {0}) ArchiveFault → Parts D → Parts D → Type 0 → Type 0
GoesOn (Ok u) later rest r after new On = On
GoesOn (Err f) later rest r after new On = (later ≡ []) × (rest ≡ []) × (r ≡ Err f) × (new ≡ after)

-- Bytes are taken into slot 0, and these cases go meanwhile, one after the other.
abbrev pub TakesWhile : {D : Type 0} → disk.Ghosts D → Order → Parts D → List ℕ → List (Going D) → Result (Unit {0}) ArchiveFault → Parts D → Type 0
TakesWhile g order old raw [] r new = Takes g old 0 raw r new
TakesWhile g order old raw (w ∷ ws) r new =
    (front : List ℕ) × (rest : List ℕ) × (raw ≡ front ++ rest) × Takes g old 0 front (Ok tt) w.before × IsGoing g order w
    × GoesOn w.answer ws rest r w.after new (TakesWhile g order w.after rest ws r new)

-- If the oldest go, the case that goes next is not pinned. Of the cases before it none that is not pinned is a core; if it is an executable, no
-- core in the archive may go.
abbrev pub TheFirstGoes : Type 0
TheFirstGoes = (cases : List Case) (c : Case) → next_to_go Oldest cases ≡ Some c
    → (c.pinned ≡ false) × (front : List Case) × (back : List Case) × (cases ≡ front ++ c ∷ back) × (filter may_go_first front ≡ []) × (is_core c.origin.kind ≡ false → (filter may_go_first cases ≡ []) × (filter may_go front ≡ []))

-- In either order no pinned case goes.
abbrev pub NoPinnedOneGoes : Type 0
NoPinnedOneGoes = (order : Order) (cases : List Case) (c : Case) → next_to_go order cases ≡ Some c → c.pinned ≡ false

-- If none goes next, all are pinned.
abbrev pub AllArePinned : Type 0
AllArePinned = (order : Order) (cases : List Case) → next_to_go order cases ≡ None → filter may_go cases ≡ []

-- No case may go any more: all are pinned.
abbrev pub NoneMayGo : ArchiveState → Type 0
NoneMayGo s = filter may_go s.cases ≡ []

-- A case goes next, and the journal has no room for the record of its deletion.
abbrev pub NextMustStay : Order → ArchiveState → Type 0
NextMustStay order s = (c : Case) × (next_to_go order s.cases ≡ Some c) × IsFull s (drop_size 1) (cases_without s (c.seq ∷ []))

-- The state of the archive if a stream is refused for this reason, although cases may go so that it finds room. No data block is free: no case
-- may go any more. The journal has no room for the record of its case: no case may go either, or the journal was written anew as often as it
-- can be, or the next case can't go since the journal has no room for that.
abbrev pub IsSpent : Order → ArchiveFault → ArchiveState → Type 0
IsSpent order SpaceFull s = NoneMayGo s
IsSpent order JournalFull s = NoneMayGo s ⊎ IsLastGeneration s ⊎ NextMustStay order s
IsSpent order _ s = Unit {0}

-- The same by the reply.
abbrev pub RefusedIfSpent : Order → List ℕ → ArchiveState → Type 0
RefusedIfSpent order reply s = (fault : ArchiveFault) → reply ≡ no_reply (reason_of fault) → IsSpent order fault s

-- the bytes of the stream fill whole blocks
abbrev pub FillsWhole : Option StreamFacts → Type 0
FillsWhole None = Unit {0}
FillsWhole (Some x) = x.len % 4096 ≡ 0

-- If no data block is free, none is wanted by the stream in slot 0 so far, or no case may go any more.
abbrev pub IsServed : ArchiveState → Type 0
IsServed s = s.stopped ≡ false → s.shape.data_blocks ≤ blocks_in s → NoneMayGo s ⊎ FillsWhole (stream_at s.streams 0)

-- a data block is free, or the journal has room for the record of the stream in slot 0
abbrev pub FindsRoom : Need → ArchiveState → Type 0
FindsRoom Block s = s.stopped ≡ false → blocks_in s < s.shape.data_blocks
FindsRoom Record s = lacks_record_room s 0 ≡ false

-- There is room for this, or no case may go any more.
abbrev pub HasMadeRoom : Need → ArchiveState → Type 0
HasMadeRoom need s = (s.stopped ≡ false → NoneMayGo s) ⊎ FindsRoom need s

-- n bytes are no more than the free part of the block of this stream
abbrev pub FitsPart : Option StreamFacts → ℕ → Type 0
FitsPart None n = Unit {0}
FitsPart (Some x) n = x.len % 4096 + n ≤ 4096

-- bytes are taken into slot 0, `most` at most, and no more than the free part of the block
abbrev pub AdvancesBy : ℕ → ArchiveState → Result (Unit {0}) ArchiveFault → ArchiveState → Type 0
AdvancesBy most s r s' = (n : ℕ) × (n ≤ most) × FitsPart (stream_at s.streams 0) n × AdvanceStep s 0 n r s'

-- the state after bytes are taken, or are not
abbrev pub Advances : ℕ → ArchiveState → Result ℕ TakeStop → ArchiveState → Type 0
Advances most s (Ok zero) s' = s' ≡ s
Advances most s (Ok (suc n)) s' = AdvancesBy most s (Ok tt) s'
Advances most s (Err File) s' = s' ≡ s
Advances most s (Err (Refused fault)) s' = RoomReply s 0 (Err fault) ⊎ AdvancesBy most s (Err fault) s'
Advances most s (Err (Cut kept)) s' = ⊥
Advances most s (Err (Differs f)) s' = ⊥

-- a step for a stream that is so far served: it is so then too, or it is refused as it may be
abbrev pub ServesOn : {A : Type 0} → Order → Result A TakeStop → ArchiveState → Type 0
ServesOn order (Ok x) s = IsServed s
ServesOn order (Err File) s = Unit {0}
ServesOn order (Err (Refused fault)) s = IsSpent order fault s
ServesOn order (Err (Cut kept)) s = IsServed s
ServesOn order (Err (Differs f)) s = Unit {0}

-- A case goes, if there is no room for this and one may: there are fewer then.
abbrev pub DropsOne : Order → Need → ArchiveState → Result Bool TakeStop → ArchiveState → Type 0
DropsOne order need s (Ok true) s' = (IsServed s → IsServed s') × (length s'.cases < length s.cases)
DropsOne order need s (Ok false) s' = (s' ≡ s) × HasMadeRoom need s'
DropsOne order need s (Err File) s' = Unit {0}
DropsOne order need s (Err (Refused fault)) s' = IsSpent order fault s'
DropsOne order need s (Err (Cut kept)) s' = ⊥
DropsOne order need s (Err (Differs f)) s' = ⊥

-- cases go until there is room for this, or none may go any more
abbrev pub DropsAll : Order → Need → ArchiveState → Result (Unit {0}) TakeStop → ArchiveState → Type 0
DropsAll order need s (Ok u) s' = (IsServed s → IsServed s') × HasMadeRoom need s'
DropsAll order need s (Err File) s' = Unit {0}
DropsAll order need s (Err (Refused fault)) s' = IsSpent order fault s'
DropsAll order need s (Err (Cut kept)) s' = ⊥
DropsAll order need s (Err (Differs f)) s' = ⊥

-- all bytes are taken: a block for the last ones is there, and room for the record, unless no case may go any more
abbrev pub FillsServed : Order → Result (Unit {0}) TakeStop → ArchiveState → Type 0
FillsServed order (Ok u) s = IsServed s × HasMadeRoom Record s
FillsServed order (Err File) s = Unit {0}
FillsServed order (Err (Refused fault)) s = IsSpent order fault s
FillsServed order (Err (Cut kept)) s = IsServed s × HasMadeRoom Record s
FillsServed order (Err (Differs f)) s = Unit {0}

-- no file is cut, and none differs from its stated facts
abbrev pub IsUncut : {A : Type 0} → Result A TakeStop → Type 0
IsUncut (Ok x) = Unit {0}
IsUncut (Err File) = Unit {0}
IsUncut (Err (Refused fault)) = Unit {0}
IsUncut (Err (Cut kept)) = ⊥
IsUncut (Err (Differs f)) = ⊥

-- how many bytes of a file are kept, if it is cut
abbrev pub cut_of : {A : Type 0} → Result A TakeStop → Option ℕ
cut_of (Ok x) = None
cut_of (Err File) = None
cut_of (Err (Refused fault)) = None
cut_of (Err (Cut kept)) = Some kept
cut_of (Err (Differs f)) = None

-- a case that is not pinned, and has bytes: data blocks become free if it goes
abbrev pub may_free : Case → Bool
may_free c = not c.pinned && nat_lt 0 c.len

-- the same of the entry of a case
abbrev pub frees : Entry → Bool
frees e = may_free (case_of e)

-- No case may go that has a block.
abbrev pub NoneMayFree : ArchiveState → Type 0
NoneMayFree s = filter may_free s.cases ≡ []

-- So many bytes, some at least, fill whole blocks, and no data block is free, nor becomes free if cases may go for it.
abbrev pub IsWalled : Bool → ℕ → ArchiveState → Type 0
IsWalled fit taken s = (0 < taken) × (taken % 4096 ≡ 0) × HasNoBlock s × (fit ≡ true → NoneMayFree s)

-- No byte more is kept than these: so many are kept at most, or they fill whole blocks, and no data block is free, nor becomes free if cases
-- may go for it.
abbrev pub HasNoMore : Bool → ℕ → ℕ → ArchiveState → Type 0
HasNoMore fit most kept s = (kept ≡ most) ⊎ IsWalled fit kept s

-- no more than a bound, if there is one
abbrev pub IsWithin : Option ℕ → ℕ → Type 0
IsWithin None taken = Unit {0}
IsWithin (Some n) taken = taken ≤ n

-- fewer than a bound, if there is one
abbrev pub IsUnder : Option ℕ → ℕ → Type 0
IsUnder None taken = Unit {0}
IsUnder (Some n) taken = taken < n

-- If a file is cut by this step, it is so behind the bytes that were taken, which are some, and no more of it is kept.
abbrev pub CutsBehind : {A : Type 0} → Bool → Option ℕ → ℕ → Result A TakeStop → ArchiveState → Type 0
CutsBehind fit most taken (Ok x) s = Unit {0}
CutsBehind fit most taken (Err File) s = Unit {0}
CutsBehind fit most taken (Err (Refused fault)) s = Unit {0}
CutsBehind fit most taken (Err (Cut kept)) s = (kept ≡ taken) × (0 < kept) × (n : ℕ) × (most ≡ Some n) × (kept ≤ n) × HasNoMore fit n kept s
CutsBehind fit most taken (Err (Differs f)) s = Unit {0}

-- the same of all steps
abbrev pub CutsWell : {A : Type 0} → Bool → Option ℕ → Result A TakeStop → ArchiveState → Type 0
CutsWell fit most (Ok x) s = Unit {0}
CutsWell fit most (Err File) s = Unit {0}
CutsWell fit most (Err (Refused fault)) s = Unit {0}
CutsWell fit most (Err (Cut kept)) s = (n : ℕ) × (most ≡ Some n) × (kept ≤ n) × HasNoMore fit n kept s
CutsWell fit most (Err (Differs f)) s = Unit {0}

-- If a step finds that a file has more bytes than were stated, so many were taken. None that is cut has as many.
abbrev pub MeetsLength : {A : Type 0} → Option ℕ → ℕ → Result A TakeStop → Type 0
MeetsLength want taken (Ok x) = Unit {0}
MeetsLength want taken (Err File) = Unit {0}
MeetsLength want taken (Err (Refused fault)) = Unit {0}
MeetsLength want taken (Err (Cut kept)) = IsUnder want taken
MeetsLength want taken (Err (Differs Short)) = ⊥
MeetsLength want taken (Err (Differs Long)) = want ≡ Some taken
MeetsLength want taken (Err (Differs Digest)) = ⊥

-- A file has ended behind the bytes that were taken: they are as was stated; or they are fewer; or they have another digest.
abbrev pub EndsAt : Stated → List ℕ → Result (Unit {0}) TakeStop → Type 0
EndsAt want raw (Ok u) = IsStated want raw
EndsAt want raw (Err File) = ⊥
EndsAt want raw (Err (Refused fault)) = ⊥
EndsAt want raw (Err (Cut kept)) = ⊥
EndsAt want raw (Err (Differs Short)) = (n : ℕ) × (want.length ≡ Some n) × (length raw < n)
EndsAt want raw (Err (Differs Long)) = ⊥
EndsAt want raw (Err (Differs Digest)) = HasOtherDigest want raw

-- The place at which a file is cut, if it is: only if so many bytes may be kept at most. The archive is `at` then, with the bytes that are kept,
-- and the cases that went so far. Those that go later go for the record of its case.
pub record IsCut {D : Type 0} (g : disk.Ghosts D) (order : Order) (fit : Bool) (most : Option ℕ) (old : Parts D) (gone : List (Going D)) (kept : ℕ) : Type 0 where
  pub n : ℕ
  pub asked : most ≡ Some n
  pub within : kept ≤ n
  pub at : Parts D
  pub raw : List ℕ
  pub first : List (Going D)
  pub later : List (Going D)
  pub all : gone ≡ first ++ later
  pub takes : TakesWhile g order old raw first (Ok tt) at
  pub length : length raw ≡ kept
  pub no_more : HasNoMore fit n kept (state_of at)

abbrev pub IsShort : {D : Type 0} → disk.Ghosts D → Order → Bool → Option ℕ → Parts D → List (Going D) → Option ℕ → Type 0
IsShort g order fit most old gone None = Unit {0}
IsShort g order fit most old gone (Some kept) = IsCut g order fit most old gone kept
