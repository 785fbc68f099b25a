-- The state in which a line that asks an image leaves the archive.
use Rattle.std.proofs.Common.{◌≡◌, ◌⊎◌, inl, inr, ⊎_elim, ℕ, Bool, true, false, List, [], ◌∷◌, Option, None, Some, Result, Ok, Err, Vec, Global, refl, ap, sym, subst, ◌∙◌}
use Rattle.std.specs.Prelude.{IsTrue}
use Rattle.address_space.specs.Source.{ExecutableView}
use Rattle.case_journal.specs.Viewing.{OnlyReads}
use Rattle.disk_model.specs.declared.disk.Disk as disk
use Rattle.image_replies.specs.declared.core_image.CoreFault.{CoreFault}
use Rattle.intake.specs.Calls.{ChangesNoCase}
use Rattle.intake.specs.Contents.{Contents, UnmovedBytes, image_at}
use Rattle.intake.specs.Parts.{Parts, state_of, contents_of}
use Rattle.intake.specs.QuietLaws.{quiet_none, quiet_then}
use Rattle.intake.specs.State.{ArchiveState}
use Rattle.intake.specs.StayLaws.{stays_as, stays_then}
use Rattle.intake.specs.Step.{ImageStep}
use Rattle.intake.specs.declared.faults.ArchiveFault.{ArchiveFault}
use Rattle.intake.specs.declared.faults.ArchiveFault.TheVariants.{Stopped, NoCase, OutOfMemory, Disk}
use Rattle.journal_layout.specs.Soundness.{case_numbered}
use Rattle.journal_layout.specs.Case.{Case}
use Rattle.journal_layout.specs.declared.entry.Kind.{Kind}
use Rattle.script_lines.specs.Queries.{QuerySaid}
use Rattle.case_queries.specs.Collecting.{Collects, CollectsAll, Gathered, Gathers, GathersMore, Wanted}
use Rattle.case_queries.specs.Inspecting.{core_fault_for, reads_executables}
use Rattle.case_queries.specs.Steps.{Asks, ShowsBy, ShowsWithExecutables, ShowsSeen}
use Rattle.case_queries.specs.Seeing.{AreOfCase, LooksAt}

-- an image that can't be read: the archive stays as it is, or is stopped
image_cases : (old new : ArchiveState) (seq : ℕ) (f : ArchiveFault) → ImageStep {T = Vec ℕ Global} old seq (Err f) new → new.cases ≡ old.cases
image_cases old new seq Stopped step = ap (λ (b : ArchiveState). b.cases) step.1
image_cases old new seq NoCase step = ap (λ (b : ArchiveState). b.cases) step.2
image_cases old new seq OutOfMemory step = ap (λ (b : ArchiveState). b.cases) step.2
image_cases old new seq Disk step = ap (λ (b : ArchiveState). b.cases) step.2
image_cases old new seq _ step = absurd step

image_streams : (old new : ArchiveState) (seq : ℕ) (f : ArchiveFault) → ImageStep {T = Vec ℕ Global} old seq (Err f) new → (new.streams ≡ old.streams) ⊎ (new.stopped ≡ true)
image_streams old new seq Stopped step = inl (ap (λ (b : ArchiveState). b.streams) step.1)
image_streams old new seq NoCase step = inl (ap (λ (b : ArchiveState). b.streams) step.2)
image_streams old new seq OutOfMemory step = inl (ap (λ (b : ArchiveState). b.streams) step.2)
image_streams old new seq Disk step = inr (ap (λ (b : ArchiveState). b.stopped) step.2)
image_streams old new seq _ step = absurd step

image_halts : (old new : ArchiveState) (seq : ℕ) (f : ArchiveFault) → ImageStep {T = Vec ℕ Global} old seq (Err f) new → old.stopped ≡ true → new.stopped ≡ true
image_halts old new seq Stopped step stopped = ap (λ (b : ArchiveState). b.stopped) step.1 ∙ stopped
image_halts old new seq NoCase step stopped = ap (λ (b : ArchiveState). b.stopped) step.2 ∙ stopped
image_halts old new seq OutOfMemory step stopped = ap (λ (b : ArchiveState). b.stopped) step.2 ∙ stopped
image_halts old new seq Disk step stopped = ap (λ (b : ArchiveState). b.stopped) step.2
image_halts old new seq _ step stopped = absurd step

image_stops : (old new : ArchiveState) (seq : ℕ) (f : ArchiveFault) → ImageStep {T = Vec ℕ Global} old seq (Err f) new → f ≡ Disk → new.stopped ≡ true
image_stops old new seq f step is = ap (λ (b : ArchiveState). b.stopped) (subst (λ (x : ArchiveFault). ImageStep {T = Vec ℕ Global} old seq (Err x) new) is step).2

unmoved_images : (old new : Contents) (f : ArchiveFault) → UnmovedBytes old f new → new.images ≡ old.images
unmoved_images old new Disk unmoved = ap (λ (c : Contents). c.images) unmoved
unmoved_images old new _ unmoved = ap (λ (c : Contents). c.images) unmoved

unmoved_taken : (old new : Contents) (f : ArchiveFault) → UnmovedBytes old f new → (new.taken ≡ old.taken) ⊎ (f ≡ Disk)
unmoved_taken old new Disk unmoved = inr refl
unmoved_taken old new _ unmoved = inl (ap (λ (c : Contents). c.taken) unmoved)

-- The cases and their images are the same as before. The streams are too, unless the archive is stopped.
pub record Leaves {D : Type 0} (g : disk.Ghosts D) (old new : Parts D) : Type 0 where
  pub stays : ChangesNoCase g old new
  pub halts : old.stopped ≡ true → new.stopped ≡ true
  pub cases : (state_of new).cases ≡ (state_of old).cases
  pub streams : ((state_of new).streams ≡ (state_of old).streams) ⊎ ((state_of new).stopped ≡ true)
  pub images : IsTrue (g.is_honest old.disk) → (contents_of g.seen new).images ≡ (contents_of g.seen old).images
  pub taken : IsTrue (g.is_honest old.disk) → ((contents_of g.seen new).taken ≡ (contents_of g.seen old).taken) ⊎ (new.stopped ≡ true)

module _ {D : Type 0} (g : disk.Ghosts D) where
  pub leaves_as : (old new : Parts D) → new ≡ old → Leaves g old new
  leaves_as old new is = record {
    stays = stays_as g old new is;
    halts = λ stopped. ap (λ (a : Parts D). a.stopped) is ∙ stopped;
    cases = ap (λ (a : Parts D). (state_of a).cases) is;
    streams = inl (ap (λ (a : Parts D). (state_of a).streams) is);
    images = λ honest. ap (λ (a : Parts D). (contents_of g.seen a).images) is;
    taken = λ honest. inl (ap (λ (a : Parts D). (contents_of g.seen a).taken) is);
  }

  pub leaves_then : (a b c : Parts D) → Leaves g a b → Leaves g b c → Leaves g a c
  leaves_then a b c first second = record {
    stays = stays_then g a b c first.stays second.stays;
    halts = λ stopped. second.halts (first.halts stopped);
    cases = second.cases ∙ first.cases;
    streams =
        ⊎_elim
        (λ same. ⊎_elim (λ before. inl (same ∙ before)) (λ stopped. inr (second.halts stopped)) first.streams)
        (λ stopped. inr stopped)
        second.streams;
    images = λ honest. second.images (first.stays.honesty ∙ honest) ∙ first.images honest;
    taken = λ honest.
        ⊎_elim
        (λ same. ⊎_elim (λ before. inl (same ∙ before)) (λ stopped. inr (second.halts stopped)) (first.taken honest))
        (λ stopped. inr stopped)
        (second.taken (first.stays.honesty ∙ honest));
  }

  pub looks_leaves : (old new : Parts D) (seq : ℕ) (r : Result (List ℕ) ArchiveFault) → LooksAt g old seq r new → Leaves g old new
  looks_leaves old new seq (Ok image) looks = record {
    stays = looks.stays;
    halts = λ stopped. ap (λ (b : ArchiveState). b.stopped) looks.state ∙ stopped;
    cases = ap (λ (b : ArchiveState). b.cases) looks.state;
    streams = inl (ap (λ (b : ArchiveState). b.streams) looks.state);
    images = λ honest. ap (λ (c : Contents). c.images) (looks.contents honest);
    taken = λ honest. inl (ap (λ (c : Contents). c.taken) (looks.contents honest));
  }
  looks_leaves old new seq (Err f) looks = record {
    stays = looks.stays;
    halts = image_halts (state_of old) (state_of new) seq f looks.step;
    cases = image_cases (state_of old) (state_of new) seq f looks.step;
    streams = image_streams (state_of old) (state_of new) seq f looks.step;
    images = λ honest. unmoved_images (contents_of g.seen old) (contents_of g.seen new) f (looks.bytes honest);
    taken = λ honest.
        ⊎_elim (λ same. inl same) (λ is. inr (image_stops (state_of old) (state_of new) seq f looks.step is))
        (unmoved_taken (contents_of g.seen old) (contents_of g.seen new) f (looks.bytes honest));
  }

  pub collects_leaves : (old new : Parts D) (xs : List Wanted) (r : Result (List ExecutableView) ArchiveFault) → Collects g old xs r new → Leaves g old new
  collects_leaves old new [] r collects = leaves_as old new collects.1
  collects_leaves old new (x ∷ xs) r (Ok image, mid, looks, more) =
      leaves_then old mid new (looks_leaves old mid x.0 (Ok image) looks)
      (⊎_elim (λ short. leaves_as mid new short.1) (λ rest. collects_leaves mid new xs rest.0 rest.1) more)
  collects_leaves old new (x ∷ xs) r (Err f, mid, looks, more) = leaves_then old mid new (looks_leaves old mid x.0 (Err f) looks) (leaves_as mid new more.1)

  pub all_leaves : (old new : Parts D) (xs : List Wanted) (r : Result (List ExecutableView) ArchiveFault) → CollectsAll g old xs r new → Leaves g old new
  all_leaves old new xs r all = ⊎_elim (λ short. leaves_as old new short.1) (λ collects. collects_leaves old new xs r collects) all

  more_leaves : (mid new : Parts D) (ws : List Wanted) (debugs : List ExecutableView → List Wanted) (first : Result (List ExecutableView) ArchiveFault) (r : Result Gathered ArchiveFault) → GathersMore g mid ws debugs first r new → Leaves g mid new
  more_leaves mid new ws debugs (Ok xs) r (more, collects, is) = all_leaves mid new (debugs xs) more collects
  more_leaves mid new ws debugs (Err f) r (is, still) = leaves_as mid new still

  pub gathers_leaves : (old new : Parts D) (ws : List Wanted) (debugs : List ExecutableView → List Wanted) (r : Result Gathered ArchiveFault) → Gathers g old ws debugs r new → Leaves g old new
  gathers_leaves old new ws debugs r (first, mid, collects, more) = leaves_then old mid new (all_leaves old mid ws first collects) (more_leaves mid new ws debugs first r more)

  with_executables_leaves : (old new : Parts D) (kind : Kind) (q : QuerySaid) (b : List ℕ) (fault : Option CoreFault) (reply : List ℕ) → ShowsWithExecutables g old kind q b fault reply new → Leaves g old new
  with_executables_leaves old new kind q b (Some fault) reply shows = leaves_as old new shows.1
  with_executables_leaves old new kind q b None reply shows = gathers_leaves old new _ _ shows.0 shows.1

  pub shows_leaves : (old new : Parts D) (kind : Kind) (q : QuerySaid) (b : List ℕ) (t : Bool) (reply : List ℕ) → ShowsBy g old kind q b t reply new → Leaves g old new
  shows_leaves old new kind q b true reply shows = with_executables_leaves old new kind q b (core_fault_for q b) reply shows
  shows_leaves old new kind q b false reply shows = leaves_as old new shows.1

  seen_leaves : (old new : Parts D) (kind : Kind) (q : QuerySaid) (r : Result (List ℕ) ArchiveFault) (reply : List ℕ) → ShowsSeen g old kind q r reply new → Leaves g old new
  seen_leaves old new kind q (Ok image) reply shows = shows_leaves old new kind q image (reads_executables q) reply shows
  seen_leaves old new kind q (Err f) reply shows = leaves_as old new shows.1

  pub asks_leaves : (old new : Parts D) (seq : ℕ) (q : QuerySaid) (k : Result Kind (List ℕ)) (reply : List ℕ) → Asks g old seq q k reply new → Leaves g old new
  asks_leaves old new seq q (Ok kind) reply asks = leaves_then old asks.1 new (looks_leaves old asks.1 seq asks.0 asks.2) (seen_leaves asks.1 new kind q asks.0 reply asks.3)
  asks_leaves old new seq q (Err reason) reply asks = leaves_as old new asks.1

  -- an image that is kept is still that of its case
  pub own_still : (old new : Parts D) (seq : ℕ) (image : List ℕ) → Leaves g old new → AreOfCase g old seq image → AreOfCase g new seq image
  own_still old new seq image leaves own = record {
    bytes = λ honest.
        let was = sym leaves.stays.honesty ∙ honest in
        ap (λ (cs : List Case). image_at seq cs (contents_of g.seen new).images) leaves.cases
        ∙ ap (image_at seq (state_of old).cases) (leaves.images was) ∙ own.bytes was;
    long = λ c at. own.long c (ap (case_numbered seq) (sym leaves.cases) ∙ at);
  }

-- A line that asks an image writes no byte of the disk.
module _ {D : Type 0} (g : disk.Ghosts D) (only : (d : D) (c : List ℕ) → g.left_since d (g.clock d) c → g.may_leave d c) where
  abbrev Quiet : Parts D → Parts D → Type 0
  Quiet old new = OnlyReads g old.disk new.disk

  pub quiet_as : (old new : Parts D) → new ≡ old → Quiet old new
  quiet_as old new is = subst (λ (a : Parts D). Quiet old a) (sym is) (quiet_none g old.disk (only old.disk))

  looks_quiet : (old new : Parts D) (seq : ℕ) (r : Result (List ℕ) ArchiveFault) → LooksAt g old seq r new → Quiet old new
  looks_quiet old new seq (Ok image) looks = looks.quiet
  looks_quiet old new seq (Err f) looks = looks.quiet

  collects_quiet : (old new : Parts D) (xs : List Wanted) (r : Result (List ExecutableView) ArchiveFault) → Collects g old xs r new → Quiet old new
  collects_quiet old new [] r collects = quiet_as old new collects.1
  collects_quiet old new (x ∷ xs) r (Ok image, mid, looks, more) =
      quiet_then g old.disk mid.disk new.disk (looks_quiet old mid x.0 (Ok image) looks)
      (⊎_elim (λ short. quiet_as mid new short.1) (λ rest. collects_quiet mid new xs rest.0 rest.1) more)
  collects_quiet old new (x ∷ xs) r (Err f, mid, looks, more) =
      quiet_then g old.disk mid.disk new.disk (looks_quiet old mid x.0 (Err f) looks) (quiet_as mid new more.1)

  all_quiet : (old new : Parts D) (xs : List Wanted) (r : Result (List ExecutableView) ArchiveFault) → CollectsAll g old xs r new → Quiet old new
  all_quiet old new xs r all = ⊎_elim (λ short. quiet_as old new short.1) (λ collects. collects_quiet old new xs r collects) all

  more_quiet : (mid new : Parts D) (ws : List Wanted) (debugs : List ExecutableView → List Wanted) (first : Result (List ExecutableView) ArchiveFault) (r : Result Gathered ArchiveFault) → GathersMore g mid ws debugs first r new → Quiet mid new
  more_quiet mid new ws debugs (Ok xs) r (more, collects, is) = all_quiet mid new (debugs xs) more collects
  more_quiet mid new ws debugs (Err f) r (is, still) = quiet_as mid new still

  gathers_quiet : (old new : Parts D) (ws : List Wanted) (debugs : List ExecutableView → List Wanted) (r : Result Gathered ArchiveFault) → Gathers g old ws debugs r new → Quiet old new
  gathers_quiet old new ws debugs r (first, mid, collects, more) =
      quiet_then g old.disk mid.disk new.disk (all_quiet old mid ws first collects) (more_quiet mid new ws debugs first r more)

  with_executables_quiet : (old new : Parts D) (kind : Kind) (q : QuerySaid) (b : List ℕ) (fault : Option CoreFault) (reply : List ℕ) → ShowsWithExecutables g old kind q b fault reply new → Quiet old new
  with_executables_quiet old new kind q b (Some fault) reply shows = quiet_as old new shows.1
  with_executables_quiet old new kind q b None reply shows = gathers_quiet old new _ _ shows.0 shows.1

  shows_quiet : (old new : Parts D) (kind : Kind) (q : QuerySaid) (b : List ℕ) (t : Bool) (reply : List ℕ) → ShowsBy g old kind q b t reply new → Quiet old new
  shows_quiet old new kind q b true reply shows = with_executables_quiet old new kind q b (core_fault_for q b) reply shows
  shows_quiet old new kind q b false reply shows = quiet_as old new shows.1

  seen_quiet : (old new : Parts D) (kind : Kind) (q : QuerySaid) (r : Result (List ℕ) ArchiveFault) (reply : List ℕ) → ShowsSeen g old kind q r reply new → Quiet old new
  seen_quiet old new kind q (Ok image) reply shows = shows_quiet old new kind q image (reads_executables q) reply shows
  seen_quiet old new kind q (Err f) reply shows = quiet_as old new shows.1

  pub asks_quiet : (old new : Parts D) (seq : ℕ) (q : QuerySaid) (k : Result Kind (List ℕ)) (reply : List ℕ) → Asks g old seq q k reply new → Quiet old new
  asks_quiet old new seq q (Ok kind) reply asks =
      quiet_then g old.disk asks.1.disk new.disk (looks_quiet old asks.1 seq asks.0 asks.2) (seen_quiet asks.1 new kind q asks.0 reply asks.3)
  asks_quiet old new seq q (Err reason) reply asks = quiet_as old new asks.1
