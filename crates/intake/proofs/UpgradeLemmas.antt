-- How the cases are written anew in version 2 of the layout.
use Rattle.std.proofs.Common.{◌≡◌, ◌⊎◌, inl, inr, ⊎_elim, ℕ, ◌*◌, ◌≤◌, Bool, true, false, List, refl, sym, ap, ◌∙◌, subst, arith, Option, Ok, Err}
use Rattle.std.specs.Prelude.{IsTrue}
use Rattle.disk_model.specs.Disk.{ChangedIn}
use Rattle.disk_model.specs.MomentLaws.{adds, weakened, both, now_too}
use Rattle.disk_model.specs.Moments.{LeavesOnly, AddsOnly}
use Rattle.disk_model.specs.Places.{SameOutside}
use Rattle.disk_model.specs.declared.disk.Disk as disk
use Rattle.journal_layout.specs.Layout.{half_length}
use Rattle.journal_layout.specs.Record.{Next}
use Rattle.journal_layout.specs.Rewriting.{in_version_two, upgraded as standing_upgraded}
use Rattle.journal_layout.specs.Standing.{folded_of}
use Rattle.journal_layout.specs.Stands.{Stands}
use Rattle.case_journal.specs.Compacting.{UpgradeStep as JournalStep}
use Rattle.case_journal.specs.Refusing.{LeavesDisk}
use Rattle.case_journal.specs.Journaled.{Journaled, running, halted}
use Rattle.case_journal.specs.Keeping.{Keeps, LeavesOutside}
use Rattle.case_journal.specs.declared.faults.JournalFault.{JournalFault}
use Rattle.case_journal.specs.declared.faults.JournalFault.TheVariants as journal_fault
use Rattle.intake.specs.Contents.{UnmovedBytes}
use Rattle.intake.specs.Durable.{Durable, StandsFor, durable_in, upgraded}
use Rattle.intake.specs.Ending.{EndsStreams}
use Rattle.intake.specs.Faults.{fault_of}
use Rattle.intake.specs.Guarding.{Guards, Leaves}
use Rattle.intake.specs.Parts.{Parts, StreamParts, state_of, contents_of}
use Rattle.intake.specs.Sound.{IsArchiveSound}
use Rattle.intake.specs.Step.{UpgradeStep, snapshot_size, anew_in_two}
use Rattle.intake.specs.declared.faults.ArchiveFault.{ArchiveFault}
use Rattle.intake.proofs.AfterLemmas.{same_state, halted_now, same_bytes, moved, no_streams_bytes, stay}
use Rattle.intake.proofs.CrashLemmas.{appended_adds}
use Rattle.intake.proofs.DurableLemmas.{durable_behind, durable_in_two}
use Rattle.intake.proofs.LeaveLemmas.{guards_untouched, guards_stopped, refused_moments}
use Rattle.intake.proofs.RecordedLemmas.{snapshot_is}
use Rattle.intake.proofs.RestLemmas.{stands_now}
use Rattle.intake.proofs.SoundLemmas.{sound_halted}

-- the same images in version 2
module _ {D : Type 0} (g : disk.Ghosts D) (d d' : D) (j : Journaled) where
  abbrev Behind : List ℕ → List ℕ → Type 0
  Behind a b = SameOutside 4096 (2 * half_length j.standing.shape) a b

  cases_behind : (a b : List ℕ) → Behind a b → durable_in b j.standing ≡ durable_in a j.standing
  cases_behind a b same = durable_behind j a b same j.standing.cases j.standing.next j.standing.version

  two_behind : (a b : List ℕ) → Behind a b → durable_in b (standing_upgraded j.standing) ≡ durable_in a (standing_upgraded j.standing)
  two_behind a b same = durable_behind j a b same j.standing.cases j.standing.next 2

  upgrade_moments : ((c : List ℕ) → g.may_leave d c → durable_in c j.standing ≡ durable_in (g.seen d) j.standing)
      → LeavesOnly g d d' (λ c. Stands c j.standing ⊎ Stands c (standing_upgraded j.standing)) → LeavesOutside g d d' j.standing
      → LeavesOnly g d d' (λ c. StandsFor c (durable_in (g.seen d) j.standing) ⊎ StandsFor c (upgraded (durable_in (g.seen d) j.standing)))
  upgrade_moments whole either outside =
      weakened g d d'
      (λ c. (Stands c j.standing ⊎ Stands c (standing_upgraded j.standing)) × ChangedIn 4096 (2 * half_length j.standing.shape) (g.may_leave d) c)
      (λ c. StandsFor c (durable_in (g.seen d) j.standing) ⊎ StandsFor c (upgraded (durable_in (g.seen d) j.standing)))
      (λ c h. ⊎_elim
      (λ stands. inl (record { standing = j.standing; stands = stands; is = cases_behind h.1.0 c h.1.2 ∙ whole h.1.0 h.1.1 }))
      (λ stands. inr (record { standing = standing_upgraded j.standing; stands = stands; is = ap (λ (x : Durable). upgraded x) (cases_behind h.1.0 c h.1.2 ∙ whole h.1.0 h.1.1) }))
      h.0)
      (both g d d' (λ c. Stands c j.standing ⊎ Stands c (standing_upgraded j.standing)) (ChangedIn 4096 (2 * half_length j.standing.shape) (g.may_leave d)) either outside)

  guards_upgraded : g.is_honest d' ≡ g.is_honest d → ((t : ℕ) (c : List ℕ) → t ≤ g.clock d' → g.may_leave d' c → g.left_since d' t c)
      → Keeps g d' (running (standing_upgraded j.standing)) → (IsTrue (g.is_honest d) → (c : List ℕ) → g.may_leave d c → durable_in c j.standing ≡ durable_in (g.seen d) j.standing)
      → (IsTrue (g.is_honest d) → LeavesOutside g d d' j.standing) → (IsTrue (g.is_honest d) → Behind (g.seen d) (g.seen d')) → Guards g d' (running (standing_upgraded j.standing))
  guards_upgraded honesty counts keeps whole outside others = record {
    keeps = keeps;
    whole = λ runs real c may. (
        let honest : IsTrue (g.is_honest d) = sym honesty ∙ real in
        let was = now_too g d d' (ChangedIn 4096 (2 * half_length j.standing.shape) (g.may_leave d)) (outside honest) counts c may in
        two_behind was.0 c was.2 ∙ ap (λ (x : Durable). upgraded x) (whole honest was.0 was.1) ∙ sym (two_behind (g.seen d) (g.seen d') (others honest)));
  }

module _ {D : Type 0} (g : disk.Ghosts D) (d d' : D) (j j' : Journaled) (most : ℕ) (flags : List Bool) (streams streams' : List (Option StreamParts)) (b b' : Bool)
    (sound : IsArchiveSound g d j most flags streams b) (on : b ≡ false) where
  abbrev old : Parts D
  old = record { disk = d; journal = j; limit = most; streams = streams; stopped = b }

  abbrev new : Parts D
  new = record { disk = d'; journal = j'; limit = most; streams = streams'; stopped = b' }

  abbrev once_done : Parts D
  once_done = record { disk = d'; journal = j'; limit = most; streams = streams; stopped = b }

  -- the cases take as many bytes in both versions
  anew : ◌≡◌ {A = ℕ} (standing_upgraded j.standing).used (snapshot_size j.standing.cases)
  anew = snapshot_is (in_version_two (folded_of j.standing))

  upgraded_state : j' ≡ running (standing_upgraded j.standing) → state_of once_done ≡ anew_in_two (state_of old)
  upgraded_state is =
      ap (λ (k : Journaled). state_of (record { disk = d'; journal = k; limit = most; streams = streams; stopped = b })) is
      ∙ ap (λ (n : ℕ). record (anew_in_two (state_of old)) { used = n }) anew

  still_state : j' ≡ j → state_of once_done ≡ state_of old
  still_state is = ap (λ (k : Journaled). state_of (record { disk = d'; journal = k; limit = most; streams = streams; stopped = b })) is

  pub upgrade_ok : (u : Unit {0}) → JournalStep j (Ok u) j' → UpgradeStep (state_of old) (Ok u) (state_of once_done)
  upgrade_ok u step = (
    on,
    ⊎_elim
        (λ kept. inl (kept.0, still_state kept.1))
        (λ set. inr (set.0, ((let e = anew in let short = set.1.0 in omega (arith, e, short)), set.1.1), upgraded_state set.2))
        step.1,
  )

  pub upgrade_err : (jf : JournalFault) → JournalStep j (Err jf) j' → EndsStreams (fault_of jf) streams b' streams' → UpgradeStep (state_of old) (Err (fault_of jf)) (state_of new)
  upgrade_err journal_fault.Stopped step ends = absurd (let e : true ≡ false = sym step.0 ∙ (sound.runs on).journal in cc)
  upgrade_err journal_fault.JournalFull step ends = (
    (on, step.1),
    ⊎_elim (λ long. inl (let e = anew in omega (arith, e, long))) (λ last. inr last) step.2,
    same_state g d d' j j' (Next 1) most flags streams streams' b b' on ends.0 ends.1 step.3,
  )
  upgrade_err journal_fault.NumbersSpent step ends = absurd step
  upgrade_err journal_fault.OutOfMemory step ends = (
    (on, step.1),
    ((let e = anew in let short = step.2.0 in omega (arith, e, short)), step.2.1),
    same_state g d d' j j' (Next 1) most flags streams streams' b b' on ends.0 ends.1 step.3,
  )
  upgrade_err journal_fault.Disk step ends = (
    (on, step.1),
    ((let e = anew in let short = step.2.0 in omega (arith, e, short)), step.2.1),
    halted_now g d d' j j' (Next 1) most flags streams streams' b b' on ends.0 ends.1 step.3,
  )
  upgrade_err journal_fault.OldVersion step ends = absurd step

  -- the archive stays sound
  abbrev Whole : Type 0
  Whole = (c : List ℕ) → g.may_leave d c → durable_in c j.standing ≡ durable_in (g.seen d) j.standing

  pub upgrade_guards : (u : Unit {0}) → JournalStep j (Ok u) j' → (j.standing.version ≡ 2 → d' ≡ d) → g.is_honest d' ≡ g.is_honest d → ((t : ℕ) (c : List ℕ) → t ≤ g.clock d' → g.may_leave d' c → g.left_since d' t c)
      → Keeps g d' j' → (IsTrue (g.is_honest d) → LeavesOutside g d d' j.standing) → (IsTrue (g.is_honest d) → Behind g d d' j (g.seen d) (g.seen d')) → Guards g d' j'
  upgrade_guards u step nothing honesty counts keeps outside others =
      let running' = sound.runs on in
      ⊎_elim
      (λ kept. guards_untouched g d d' j' (nothing kept.0) (subst (Guards g d) (sym kept.1) running'.keeps))
      (λ set. subst (Guards g d') (sym set.2)
      (guards_upgraded g d d' j honesty counts (subst (Keeps g d') set.2 keeps) (λ honest b' may. running'.keeps.whole running'.journal honest b' may) outside others))
      step.1

  pub upgrade_sound : (u : Unit {0}) → JournalStep j (Ok u) j' → Guards g d' j' → IsArchiveSound g d' j' most flags streams b
  upgrade_sound u step keeps =
      ⊎_elim
      (λ kept. subst (λ (k : Journaled). IsArchiveSound g d' k most flags streams b) (sym kept.1) (sound_as (subst (Guards g d') kept.1 keeps) (sound.runs on).journal))
      (λ set. subst (λ (k : Journaled). IsArchiveSound g d' k most flags streams b) (sym set.2) (sound_two (subst (Guards g d') set.2 keeps)))
      step.1
    where
      sound_as : Guards g d' j → j.stopped ≡ false → IsArchiveSound g d' j most flags streams b
      sound_as guards runs = record {
        shape = sound.shape;
        slots = sound.slots;
        runs = λ _. (let was = sound.runs on in record {
          journal = runs;
          keeps = guards;
          cases = was.cases;
          streams_fine = was.streams_fine;
          blocks = was.blocks;
          once = was.once;
          total = was.total;
          named = was.named;
        });
        none = sound.none;
        doubts = guards.keeps.doubts;
      }

      sound_two : Guards g d' (running (standing_upgraded j.standing)) → IsArchiveSound g d' (running (standing_upgraded j.standing)) most flags streams b
      sound_two guards = record {
        shape = sound.shape;
        slots = sound.slots;
        runs = λ _. (let was = sound.runs on in record {
          journal = refl;
          keeps = guards;
          cases = was.cases;
          streams_fine = was.streams_fine;
          blocks = was.blocks;
          once = was.once;
          total = was.total;
          named = was.named;
        });
        none = sound.none;
        doubts = guards.keeps.doubts;
      }

  pub refused_guards : (jf : JournalFault) → JournalStep j (Err jf) j' → LeavesDisk jf d d' → Keeps g d' j' → Guards g d' j'
  refused_guards journal_fault.Stopped step same keeps = absurd (let e : true ≡ false = sym step.0 ∙ (sound.runs on).journal in cc)
  refused_guards journal_fault.JournalFull step same keeps = guards_untouched g d d' j' same (subst (Guards g d) (sym step.3) (sound.runs on).keeps)
  refused_guards journal_fault.NumbersSpent step same keeps = absurd step
  refused_guards journal_fault.OutOfMemory step same keeps = guards_untouched g d d' j' same (subst (Guards g d) (sym step.3) (sound.runs on).keeps)
  refused_guards journal_fault.Disk step same keeps = guards_stopped g d' j' keeps (ap (λ (k : Journaled). k.stopped) step.3)
  refused_guards journal_fault.OldVersion step same keeps = absurd step

  pub refused_sound : (jf : JournalFault) → JournalStep j (Err jf) j' → Guards g d' j' → EndsStreams (fault_of jf) streams b' streams' → IsArchiveSound g d' j' most flags streams' b'
  refused_sound journal_fault.Stopped step keeps ends = absurd (let e : true ≡ false = sym step.0 ∙ (sound.runs on).journal in cc)
  refused_sound journal_fault.JournalFull step keeps ends = moved g d d' j j' (Next 1) most flags streams streams' b b' on flags sound step.3 keeps ends.0 ends.1 refl
  refused_sound journal_fault.NumbersSpent step keeps ends = absurd step
  refused_sound journal_fault.OutOfMemory step keeps ends = moved g d d' j j' (Next 1) most flags streams streams' b b' on flags sound step.3 keeps ends.0 ends.1 refl
  refused_sound journal_fault.Disk step keeps ends =
      subst (λ (t : Bool). IsArchiveSound g d' j' most flags streams' t) (sym ends.0)
      (subst (λ (x : List (Option StreamParts)). IsArchiveSound g d' j' most flags x true) (sym ends.1)
      (sound_halted g d d' j j' most flags flags streams streams b sound keeps (ap (λ (k : Journaled). k.standing.shape) step.3) refl))
  refused_sound journal_fault.OldVersion step keeps ends = absurd step

  -- and has the same cases
  pub upgrade_cases : (u : Unit {0}) → JournalStep j (Ok u) j' → j'.standing.cases ≡ j.standing.cases
  upgrade_cases u step = ⊎_elim (λ kept. ap (λ (k : Journaled). k.standing.cases) kept.1) (λ set. ap (λ (k : Journaled). k.standing.cases) set.2) step.1

  pub refused_cases : (jf : JournalFault) → JournalStep j (Err jf) j' → j'.standing.cases ≡ j.standing.cases
  refused_cases journal_fault.Stopped step = ap (λ (k : Journaled). k.standing.cases) step.1
  refused_cases journal_fault.JournalFull step = ap (λ (k : Journaled). k.standing.cases) step.3
  refused_cases journal_fault.NumbersSpent step = absurd step
  refused_cases journal_fault.OutOfMemory step = ap (λ (k : Journaled). k.standing.cases) step.3
  refused_cases journal_fault.Disk step = ap (λ (k : Journaled). k.standing.cases) step.3
  refused_cases journal_fault.OldVersion step = absurd step

  -- the same bytes
  pub upgrade_bytes : (u : Unit {0}) → JournalStep j (Ok u) j' → Behind g d d' j (g.seen d) (g.seen d') → contents_of g.seen once_done ≡ contents_of g.seen old
  upgrade_bytes u step others =
      ⊎_elim
      (λ kept. ap (λ (k : Journaled). contents_of g.seen (record { disk = d'; journal = k; limit = most; streams = streams; stopped = b })) kept.1 ∙ same_bytes g.seen d d' j most streams b others b)
      (λ set. ap (λ (k : Journaled). contents_of g.seen (record { disk = d'; journal = k; limit = most; streams = streams; stopped = b })) set.2 ∙ same_bytes g.seen d d' j most streams b others b)
      step.1

  pub refused_bytes : (jf : JournalFault) → JournalStep j (Err jf) j' → Behind g d d' j (g.seen d) (g.seen d') → EndsStreams (fault_of jf) streams b' streams'
      → UnmovedBytes (contents_of g.seen old) (fault_of jf) (contents_of g.seen new)
  refused_bytes journal_fault.Stopped step others ends = absurd (let e : true ≡ false = sym step.0 ∙ (sound.runs on).journal in cc)
  refused_bytes journal_fault.JournalFull step others ends = stay g.seen d d' j most streams b others j' b' streams' step.3 ends.1
  refused_bytes journal_fault.NumbersSpent step others ends = absurd step
  refused_bytes journal_fault.OutOfMemory step others ends = stay g.seen d d' j most streams b others j' b' streams' step.3 ends.1
  refused_bytes journal_fault.Disk step others ends =
      ap (λ (k : Journaled). contents_of g.seen (record { disk = d'; journal = k; limit = most; streams = streams'; stopped = b' })) step.3
      ∙ ap (λ (x : List (Option StreamParts)). contents_of g.seen (record { disk = d'; journal = halted j; limit = most; streams = x; stopped = b' })) ends.1
      ∙ no_streams_bytes g.seen d d' j most streams b others b'
  refused_bytes journal_fault.OldVersion step others ends = absurd step

  -- what a crash leaves
  module _ (honest : IsTrue (g.is_honest d)) (either : LeavesOnly g d d' (λ c. Stands c j.standing ⊎ Stands c (standing_upgraded j.standing))) (outside : LeavesOutside g d d' j.standing) where
    abbrev before : Durable
    before = durable_in (g.seen d) j.standing

    moments : LeavesOnly g d d' (λ c. StandsFor c before ⊎ StandsFor c (upgraded before))
    moments = upgrade_moments g d d' j ((sound.runs on).keeps.whole (sound.runs on).journal honest) either outside

    pub upgrade_crash : (u : Unit {0}) → JournalStep j (Ok u) j' → Behind g d d' j (g.seen d) (g.seen d') → AddsOnly g d d' (Leaves {T = Unit {0}} before (Ok u) (durable_in (g.seen d') j'.standing) (λ x. x ≡ upgraded before))
    upgrade_crash u step others =
        appended_adds (Unit {0}) u g d d' before (upgraded before) (durable_in (g.seen d') j'.standing) (λ x. x ≡ upgraded before)
        (⊎_elim
        (λ kept. ap (λ (k : Journaled). durable_in (g.seen d') k.standing) kept.1 ∙ cases_behind g d d' j (g.seen d) (g.seen d') others ∙ sym (durable_in_two j.standing (g.seen d) kept.0))
        (λ set. ap (λ (k : Journaled). durable_in (g.seen d') k.standing) set.2 ∙ two_behind g d d' j (g.seen d) (g.seen d') others)
        step.1)
        moments

    pub refused_crash : (jf : JournalFault) (f : ArchiveFault) (after : Durable) → f ≡ fault_of jf → LeavesDisk jf d d' → ((c : List ℕ) → g.left_since d (g.clock d) c → g.may_leave d c)
        → AddsOnly g d d' (Leaves {T = Unit {0}} before (Err f) after (λ x. x ≡ upgraded before))
    refused_crash jf f after told untouched only =
        subst (λ (x : ArchiveFault). AddsOnly g d d' (Leaves {T = Unit {0}} before (Err x) after (λ y. y ≡ upgraded before))) (sym told)
        (adds g d d' (Leaves {T = Unit {0}} before (Err (fault_of jf)) after (λ y. y ≡ upgraded before))
        (refused_moments (Unit {0}) g d d' jf before (upgraded before) after (λ y. y ≡ upgraded before) refl untouched
        (λ c was. stands_now g d j (sound.runs on).keeps (sound.runs on).journal honest c (only c was)) moments))
