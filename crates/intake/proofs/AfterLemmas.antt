-- An archive after the append of a record that is no case's.
use Rattle.std.proofs.Common.{◌≡◌, ◌≢◌, ℕ, ◌*◌, ◌+◌, ◌≤◌, Bool, true, false, List, length, map, refl, sym, ap, ◌∙◌, subst, arith, Option, Err}
use Rattle.std.specs.Prelude.{option_map}
use mathlib.Core.Bool.{beq}
use Rattle.disk_model.specs.Places.{SameOutside}
use Rattle.disk_model.specs.declared.disk.Disk as disk
use Rattle.extents.specs.FreeSet.{is_free, free_count, one_if}
use Rattle.journal_layout.specs.Case.{Case}
use Rattle.journal_layout.specs.Folding.{after}
use Rattle.journal_layout.specs.Layout.{half_length}
use Rattle.journal_layout.specs.LiveLaws.{live_after}
use Rattle.journal_layout.specs.Record.{Record}
use Rattle.journal_layout.specs.Standing.{folded_of}
use Rattle.case_journal.specs.Append.{AppendStep, MayFollow}
use Rattle.case_journal.specs.Journaled.{Journaled, after_append, halted}
use Rattle.intake.specs.Guarding.{Guards}
use Rattle.case_journal.specs.declared.faults.JournalFault.{JournalFault}
use Rattle.case_journal.specs.declared.faults.JournalFault.TheVariants as journal_fault
use Rattle.intake.specs.declared.faults.ArchiveFault.{ArchiveFault}
use Rattle.intake.specs.declared.faults.ArchiveFault.TheVariants as fault
use Rattle.intake.specs.Blocks.{image_in}
use Rattle.intake.specs.Contents.{Taken, UnmovedBytes, without_streams}
use Rattle.intake.specs.Ending.{EndsStreams}
use Rattle.intake.specs.Faults.{fault_of}
use Rattle.intake.specs.Live.{case_uses, cases_named}
use Rattle.intake.specs.Parts.{Parts, StreamParts, state_of, stream_facts, taken_in, contents_of}
use Rattle.intake.specs.Slots.{closed}
use Rattle.intake.specs.Sound.{IsArchiveSound, case_blocks}
use Rattle.intake.specs.State.{StreamFacts}
use Rattle.intake.specs.Step.{halted as halted_facts}
use Rattle.intake.proofs.AdvanceLemmas.{closed_map}
use Rattle.intake.proofs.SoundLemmas.{sound_halted}
use Rattle.intake.proofs.StoreLemmas.{images_behind, taken_behind}

-- a record was appended: blocks of dropped cases are free, and nothing else changes hands
pub sound_after : {D : Type 0} (g : disk.Ghosts D) (d d' : D) (j : Journaled) (r : Record) (most : ℕ) (flags flags' : List Bool) (streams : List (Option StreamParts)) (b : Bool)
    → IsArchiveSound g d j most flags streams b → b ≡ false → Guards g d' (after_append j r) → MayFollow j.standing r → length flags' ≡ length flags
    → ((k : ℕ) → one_if (is_free flags' k) + case_uses (after r (folded_of j.standing)).cases k ≡ one_if (is_free flags k) + case_uses j.standing.cases k)
    → free_count flags' + case_blocks (after r (folded_of j.standing)).cases ≡ free_count flags + case_blocks j.standing.cases
    → ((name : List ℕ) → cases_named (after r (folded_of j.standing)).cases name ≤ cases_named j.standing.cases name)
    → IsArchiveSound g d' (after_append j r) most flags' streams b
sound_after g d d' j r most flags flags' streams b sound on keeps may long each all names =
    let was = sound.runs on in
    record {
      shape = sound.shape;
      slots = sound.slots;
      runs = λ _. record {
        journal = refl;
        keeps = keeps;
        cases = live_after j.standing.shape.data_blocks (folded_of j.standing) r was.cases may;
        streams_fine = was.streams_fine;
        blocks = long ∙ was.blocks;
        once = λ k. (let e = each k in let o = was.once k in omega (arith, e, o));
        total = (let t = was.total in omega (arith, all, t));
        named = λ name. (let n = names name in let o = was.named name in omega (arith, n, o));
      };
      none = sound.none;
      doubts = keeps.keeps.doubts;
    }

-- a record was refused
module _ {D : Type 0} (g : disk.Ghosts D) (d d' : D) (j j' : Journaled) (r : Record) (most : ℕ) (flags : List Bool) (streams streams' : List (Option StreamParts)) (b b' : Bool) (on : b ≡ false) where
  abbrev pub before : Parts D
  before = record { disk = d; journal = j; limit = most; streams = streams; stopped = b }

  abbrev pub then : Parts D
  then = record { disk = d'; journal = j'; limit = most; streams = streams'; stopped = b' }

  pub same_state : b' ≡ false → streams' ≡ streams → j' ≡ j → state_of then ≡ state_of before
  same_state off same is =
      ap (λ (k : Journaled). state_of (record { disk = d'; journal = k; limit = most; streams = streams'; stopped = b' })) is
      ∙ ap (λ (x : List (Option StreamParts)). state_of (record { disk = d'; journal = j; limit = most; streams = x; stopped = b' })) same
      ∙ ap (λ (t : Bool). state_of (record { disk = d'; journal = j; limit = most; streams = streams; stopped = t })) (off ∙ sym on)

  pub halted_now : b' ≡ true → streams' ≡ closed streams → j' ≡ halted j → state_of then ≡ halted_facts (state_of before)
  halted_now off same is =
      ap (λ (k : Journaled). state_of (record { disk = d'; journal = k; limit = most; streams = streams'; stopped = b' })) is
      ∙ ap (λ (t : Bool). state_of (record { disk = d'; journal = halted j; limit = most; streams = streams'; stopped = t })) off
      ∙ ap (λ (x : List (Option StreamFacts)). record (state_of before) { streams = x; stopped = true })
      (ap (map (option_map stream_facts)) same ∙ closed_map stream_facts streams)

  pub moved : (flags' : List Bool) → IsArchiveSound g d j most flags streams b → j' ≡ j → Guards g d' j' → b' ≡ false → streams' ≡ streams → flags' ≡ flags → IsArchiveSound g d' j' most flags' streams' b'
  moved flags' sound is keeps off same back =
      subst (λ (k : Journaled). IsArchiveSound g d' k most flags' streams' b') (sym is)
      (subst (λ (x : List (Option StreamParts)). IsArchiveSound g d' j most flags' x b') (sym same)
      (subst (λ (f : List Bool). IsArchiveSound g d' j most f streams b') (sym back)
      (subst (λ (t : Bool). IsArchiveSound g d' j most flags streams t) (on ∙ sym off) (record {
        shape = sound.shape;
        slots = sound.slots;
        runs = λ _. (let was = sound.runs on in record {
          journal = was.journal;
          keeps = subst (Guards g d') is keeps;
          cases = was.cases;
          streams_fine = was.streams_fine;
          blocks = was.blocks;
          once = was.once;
          total = was.total;
          named = was.named;
        });
        none = sound.none;
        doubts = (subst (Guards g d') is keeps).keeps.doubts;
      }))))

  -- the archive stays sound
  pub sound_refusal : (flags' : List Bool) (jf : JournalFault) → IsArchiveSound g d j most flags streams b → AppendStep j r (Err jf) j' → Guards g d' j' → EndsStreams (fault_of jf) streams b' streams'
      → (b' ≡ false → flags' ≡ flags) → IsArchiveSound g d' j' most flags' streams' b'
  sound_refusal flags' journal_fault.Stopped sound step keeps ends back = absurd (let e : true ≡ false = sym step.0 ∙ (sound.runs on).journal in cc)
  sound_refusal flags' journal_fault.JournalFull sound step keeps ends back = moved flags' sound step.2 keeps ends.0 ends.1 (back ends.0)
  sound_refusal flags' journal_fault.NumbersSpent sound step keeps ends back = absurd step
  sound_refusal flags' journal_fault.OutOfMemory sound step keeps ends back = moved flags' sound step.2 keeps ends.0 ends.1 (back ends.0)
  sound_refusal flags' journal_fault.Disk sound step keeps ends back =
      subst (λ (t : Bool). IsArchiveSound g d' j' most flags' streams' t) (sym ends.0)
      (subst (λ (x : List (Option StreamParts)). IsArchiveSound g d' j' most flags' x true) (sym ends.1)
      (sound_halted g d d' j j' most flags flags' streams streams b sound keeps (ap (λ (k : Journaled). k.standing.shape) step.2) refl))
  sound_refusal flags' journal_fault.OldVersion sound step keeps ends back = absurd step

-- its bytes
module _ {D : Type 0} (seen : D → List ℕ) (d d' : D) (j : Journaled) (most : ℕ) (streams : List (Option StreamParts)) (b : Bool)
    (outside : SameOutside 4096 (2 * half_length j.standing.shape) (seen d) (seen d')) where
  abbrev pub past : Parts D
  past = record { disk = d; journal = j; limit = most; streams = streams; stopped = b }

  -- the same cases and streams have the same bytes
  pub same_bytes : (b' : Bool) → contents_of seen (record { disk = d'; journal = j; limit = most; streams = streams; stopped = b' }) ≡ contents_of seen past
  same_bytes b' =
      ap (λ (x : List (List ℕ)). record { images = x; taken = map (option_map (taken_in j (seen d'))) streams }) (images_behind j (seen d) (seen d') outside j.standing.cases)
      ∙ ap (λ (x : List (Option Taken)). record { images = map (λ (c : Case). image_in j.standing.shape (seen d) c.blocks c.len) j.standing.cases; taken = x }) (taken_behind j (seen d) (seen d') outside streams)

  pub no_streams_bytes : (b' : Bool) → contents_of seen (record { disk = d'; journal = j; limit = most; streams = closed streams; stopped = b' }) ≡ without_streams (contents_of seen past)
  no_streams_bytes b' =
      ap (λ (x : List (List ℕ)). record { images = x; taken = map (option_map (taken_in j (seen d'))) (closed streams) }) (images_behind j (seen d) (seen d') outside j.standing.cases)
      ∙ ap (λ (x : List (Option Taken)). record { images = map (λ (c : Case). image_in j.standing.shape (seen d) c.blocks c.len) j.standing.cases; taken = x })
      (closed_map (taken_in j (seen d')) streams ∙ ap closed (taken_behind j (seen d) (seen d') outside streams))

  pub stay : (j' : Journaled) (b' : Bool) (streams' : List (Option StreamParts)) → j' ≡ j → streams' ≡ streams
      → contents_of seen (record { disk = d'; journal = j'; limit = most; streams = streams'; stopped = b' }) ≡ contents_of seen past
  stay j' b' streams' is same =
      ap (λ (k : Journaled). contents_of seen (record { disk = d'; journal = k; limit = most; streams = streams'; stopped = b' })) is
      ∙ ap (λ (x : List (Option StreamParts)). contents_of seen (record { disk = d'; journal = j; limit = most; streams = x; stopped = b' })) same
      ∙ same_bytes b'

  pub refusal_bytes : (r : Record) (j' : Journaled) (jf : JournalFault) (b' : Bool) (streams' : List (Option StreamParts)) → j.stopped ≡ false → AppendStep j r (Err jf) j' → EndsStreams (fault_of jf) streams b' streams'
      → UnmovedBytes (contents_of seen past) (fault_of jf) (contents_of seen (record { disk = d'; journal = j'; limit = most; streams = streams'; stopped = b' }))
  refusal_bytes r j' journal_fault.Stopped b' streams' runs step ends = absurd (let e : true ≡ false = sym step.0 ∙ runs in cc)
  refusal_bytes r j' journal_fault.JournalFull b' streams' runs step ends = stay j' b' streams' step.2 ends.1
  refusal_bytes r j' journal_fault.NumbersSpent b' streams' runs step ends = absurd step
  refusal_bytes r j' journal_fault.OutOfMemory b' streams' runs step ends = stay j' b' streams' step.2 ends.1
  refusal_bytes r j' journal_fault.Disk b' streams' runs step ends =
      ap (λ (k : Journaled). contents_of seen (record { disk = d'; journal = k; limit = most; streams = streams'; stopped = b' })) step.2
      ∙ ap (λ (x : List (Option StreamParts)). contents_of seen (record { disk = d'; journal = halted j; limit = most; streams = x; stopped = b' })) ends.1
      ∙ no_streams_bytes b'
  refusal_bytes r j' journal_fault.OldVersion b' streams' runs step ends = absurd step

-- the journal's fault that is told so
abbrev told_of : ArchiveFault → JournalFault
told_of fault.Stopped = journal_fault.Stopped
told_of fault.JournalFull = journal_fault.JournalFull
told_of fault.NumbersSpent = journal_fault.NumbersSpent
told_of fault.OutOfMemory = journal_fault.OutOfMemory
told_of fault.OldVersion = journal_fault.OldVersion
told_of _ = journal_fault.Disk

told_back : (jf : JournalFault) → told_of (fault_of jf) ≡ jf
told_back journal_fault.Stopped = refl
told_back journal_fault.JournalFull = refl
told_back journal_fault.NumbersSpent = refl
told_back journal_fault.OutOfMemory = refl
told_back journal_fault.Disk = refl
told_back journal_fault.OldVersion = refl

-- no two faults of the journal are told as one
pub told_same : (jf h : JournalFault) → fault_of jf ≡ fault_of h → jf ≡ h
told_same jf h e = sym (told_back jf) ∙ ap told_of e ∙ told_back h

-- flags that are compared
pub flags_same : (a b : Bool) → beq a b ≡ true → a ≡ b
flags_same true true e = refl
flags_same true false e = cc
flags_same false true e = cc
flags_same false false e = refl

pub flags_differ : (a b : Bool) → beq a b ≡ false → a ≢ b
flags_differ true true e same = absurd (cc)
flags_differ true false e same = absurd (cc)
flags_differ false true e same = absurd (cc)
flags_differ false false e same = absurd (cc)
