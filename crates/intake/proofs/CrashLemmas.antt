-- What a crash leaves of the calls of an archive.
use Rattle.std.proofs.Common.{◌≡◌, ◌⊎◌, ℕ, zero, suc, ◌≤◌, Bool, true, false, List, [], ◌∷◌, map, refl, sym, ap, ◌∙◌, subst, ⊎_elim, inl, inr, arith, Option, Some, Ok, Err, Result}
use Rattle.std.specs.Prelude.{IsTrue, nat_lt, option_map}
use Rattle.disk_model.specs.MomentLaws.{adds, weakened, then_also}
use Rattle.disk_model.specs.Moments.{LeavesOnly, AddsOnly}
use Rattle.disk_model.specs.declared.disk.Disk as disk
use Rattle.extents.specs.FreeSet.{one_if}
use Rattle.journal_layout.specs.Case.{Case}
use Rattle.journal_layout.specs.Rewriting.{appended}
use Rattle.journal_layout.specs.Standing.{store_of}
use Rattle.journal_layout.specs.declared.faults.OpenFault.TheVariants as open_fault
use Rattle.case_journal.specs.Journaled.{Journaled}
use Rattle.intake.specs.Blocks.{image_in}
use Rattle.intake.specs.Closing.{with_blocks}
use Rattle.extents.specs.Runs.{runs_of}
use Rattle.std.proofs.Common.{length}
use Rattle.intake.specs.Step.{MayHaveRuns}
use Rattle.intake.specs.Durable.{Durable, StandsFor, durable_in, with_case}
use Rattle.intake.specs.Guarding.{Guards, LeavesCases, UsesNoFreeBlock, Leaves, LeavesNew, LeavesStored, StoresIn}
use Rattle.intake.specs.Parts.{StreamParts, state_of, stream_facts, contents_of, taken_in}
use Rattle.intake.specs.Slots.{stream_at}
use Rattle.intake.specs.Sound.{IsRunning}
use Rattle.intake.specs.StreamView.{case_from_parts}
use Rattle.intake.specs.declared.faults.ArchiveFault.{ArchiveFault}
use Rattle.intake.specs.declared.faults.ArchiveFault.TheVariants as fault
use Rattle.journal_layout.specs.Record.{Record}
use Rattle.case_journal.specs.Refusing.{LeavesDisk}
use Rattle.case_journal.specs.Journaled.{after_append}
use Rattle.case_journal.specs.Keeping.{LeavesEither, LeavesOutside}
use Rattle.case_journal.specs.declared.faults.JournalFault.{JournalFault}
use Rattle.intake.specs.Faults.{fault_of}
use Rattle.intake.proofs.DurableLemmas.{durable_stored}
use Rattle.intake.proofs.LeaveLemmas.{Behind, IsWholeAfter, append_moments, new_behind, refused_moments}
use Rattle.intake.proofs.RestLemmas.{stands_now}

one_if_most : (t : Bool) → one_if t ≤ 1
one_if_most true = omega arith
one_if_most false = omega arith

module _ {D : Type 0} (g : disk.Ghosts D) (d d' : D) (j : Journaled) (most : ℕ) (flags : List Bool) (streams : List (Option StreamParts)) (running : IsRunning g d j most flags streams) where
  -- no case has a block that is free
  pub spares : UsesNoFreeBlock flags j
  spares k free = let h = running.once k in let e = ap one_if free in let m = one_if_most (nat_lt k j.standing.shape.data_blocks) in omega (arith, h, e, m)

  pub grow_rests : (UsesNoFreeBlock flags j → Guards g d j → LeavesCases g d d' j) → LeavesCases g d d' j
  grow_rests rests = rests spares running.keeps

  pub rests_durable : LeavesCases g d d' j → IsTrue (g.is_honest d) → durable_in (g.seen d') j.standing ≡ durable_in (g.seen d) j.standing
  rests_durable rests honest = rests.same running.journal honest

  pub rests_moments : LeavesCases g d d' j → IsTrue (g.is_honest d) → AddsOnly g d d' (λ c. StandsFor c (durable_in (g.seen d) j.standing))
  rests_moments rests honest = adds g d d' (λ c. StandsFor c (durable_in (g.seen d) j.standing)) (rests.moments running.journal honest)

  -- a refusal that leaves the cases leaves nothing else
  pub rests_leaves : (T : Type 0) (r : Result T ArchiveFault) (new : Durable) (doubt : Durable → Type 0) → LeavesCases g d d' j → IsTrue (g.is_honest d) → AddsOnly g d d' (Leaves {T = T} (durable_in (g.seen d) j.standing) r new doubt)
  rests_leaves T r new doubt rests honest =
      adds g d d' (Leaves {T = T} (durable_in (g.seen d) j.standing) r new doubt)
      (weakened g d d' (λ c. StandsFor c (durable_in (g.seen d) j.standing)) (Leaves {T = T} (durable_in (g.seen d) j.standing) r new doubt) (λ c stands. inl stands) (rests.moments running.journal honest))

  -- the same of a call that took a free block at most
  pub grow_durable : (UsesNoFreeBlock flags j → Guards g d j → LeavesCases g d d' j) → IsTrue (g.is_honest d) → durable_in (g.seen d') j.standing ≡ durable_in (g.seen d) j.standing
  grow_durable rests honest = rests_durable (grow_rests rests) honest

  pub grow_moments : (UsesNoFreeBlock flags j → Guards g d j → LeavesCases g d d' j) → IsTrue (g.is_honest d) → AddsOnly g d d' (λ c. StandsFor c (durable_in (g.seen d) j.standing))
  grow_moments rests honest = rests_moments (grow_rests rests) honest

-- what may be left after a refusal is told of other words for it
told_of : (S T : Type 0) (f : ArchiveFault) (a b : Durable) (P Q : Durable → Type 0) (c : List ℕ) → ((z : Durable) → P z → Q z) → LeavesNew {T = S} (Err f) a P c → LeavesNew {T = T} (Err f) b Q c
told_of S T fault.Disk a b P Q c implies h = (h.0, implies h.0 h.1, h.2)
told_of S T _ a b P Q c implies h = absurd h

pub leaves_of : (S T : Type 0) (f : ArchiveFault) (x a b : Durable) (P Q : Durable → Type 0) (c : List ℕ) → ((z : Durable) → P z → Q z) → Leaves {T = S} x (Err f) a P c → Leaves {T = T} x (Err f) b Q c
leaves_of S T f x a b P Q c implies h = ⊎_elim (λ stands. inl stands) (λ new. inr (told_of S T f a b P Q c implies new)) h

-- an append that was answered
pub appended_adds : {D : Type 0} (T : Type 0) (v : T) (g : disk.Ghosts D) (d d' : D) (x y new : Durable) (doubt : Durable → Type 0) → new ≡ y → LeavesOnly g d d' (λ c. StandsFor c x ⊎ StandsFor c y)
    → AddsOnly g d d' (Leaves {T = T} x (Ok v) new doubt)
appended_adds T v g d d' x y new doubt is moments =
    adds g d d' (Leaves {T = T} x (Ok v) new doubt)
    (weakened g d d' (λ c. StandsFor c x ⊎ StandsFor c y) (Leaves {T = T} x (Ok v) new doubt) (λ c h. ⊎_elim (λ a. inl a) (λ b. inr (subst (StandsFor c) (sym is) b)) h) moments)

-- an append behind disk calls that change no case
module _ {D : Type 0} (g : disk.Ghosts D) (d d1 d2 : D) (j : Journaled) (runs : j.stopped ≡ false) (rests : LeavesCases g d d1 j) (honest : IsTrue (g.is_honest d)) (y new : Durable) (doubt : Durable → Type 0) where
  abbrev old : Durable
  old = durable_in (g.seen d) j.standing

  joined_moments : (P Q : List ℕ → Type 0) → ((c : List ℕ) → StandsFor c old → Q c) → ((c : List ℕ) → P c → Q c) → LeavesOnly g d1 d2 P → AddsOnly g d d2 Q
  joined_moments P Q first second moments =
      adds g d d2 Q
      (weakened g d d2 (λ c. StandsFor c old ⊎ P c) Q (λ c h. ⊎_elim (first c) (second c) h)
      (then_also g d d1 d2 (λ c. StandsFor c old) P (rests.moments runs honest) moments))

  pub stored_adds : (v : ℕ) → new ≡ y → LeavesOnly g d1 d2 (LeavesStored {T = ℕ} (Ok v) (durable_in (g.seen d1) j.standing) y) → AddsOnly g d d2 (Leaves {T = ℕ} old (Ok v) new doubt)
  stored_adds v is moments =
      joined_moments (LeavesStored {T = ℕ} (Ok v) (durable_in (g.seen d1) j.standing) y) (Leaves {T = ℕ} old (Ok v) new doubt)
      (λ c stands. inl stands)
      (λ c h. ⊎_elim (λ a. inl (subst (StandsFor c) (rests.same runs honest) a)) (λ b. inr (subst (StandsFor c) (sym is) b)) h)
      moments

  pub unstored_adds : (f : ArchiveFault) → doubt y → LeavesOnly g d1 d2 (LeavesStored {T = ℕ} (Err f) (durable_in (g.seen d1) j.standing) y) → AddsOnly g d d2 (Leaves {T = ℕ} old (Err f) new doubt)
  unstored_adds f may moments =
      joined_moments (LeavesStored {T = ℕ} (Err f) (durable_in (g.seen d1) j.standing) y) (Leaves {T = ℕ} old (Err f) new doubt)
      (λ c stands. inl stands)
      (λ c h. ⊎_elim (λ a. inl (subst (StandsFor c) (rests.same runs honest) a))
      (λ b. inr (told_of ℕ ℕ f y new (λ z. z ≡ y) doubt c (λ z is. subst doubt (sym is) may) b)) h)
      moments

-- what a stream that is stored leaves
pub stored_is : {D : Type 0} (g : disk.Ghosts D) (d d1 : D) (j : Journaled) (s : StreamParts) (blocks : List ℕ) (c : Case) → c ≡ case_from_parts (with_blocks s blocks)
    → image_in j.standing.shape (g.seen d1) blocks s.facts.len ≡ (taken_in j (g.seen d) s).bytes → durable_in (g.seen d1) j.standing ≡ durable_in (g.seen d) j.standing
    → durable_in (g.seen d1) (appended j.standing (store_of j.standing c)) ≡ with_case (durable_in (g.seen d) j.standing) s.facts blocks (taken_in j (g.seen d) s).bytes
stored_is g d d1 j s blocks c is image same =
    ap (λ (x : Case). durable_in (g.seen d1) (appended j.standing (store_of j.standing x))) is
    ∙ durable_stored j.standing (case_from_parts (with_blocks s blocks)) (g.seen d1)
    ∙ ap (λ (x : List ℕ). with_case (durable_in (g.seen d1) j.standing) s.facts blocks x) image
    ∙ ap (λ (x : Durable). with_case x s.facts blocks (taken_in j (g.seen d) s).bytes) same

-- what stands in a slot, with the bytes that it took
pub stored_doubt : {D : Type 0} (g : disk.Ghosts D) (d : D) (j : Journaled) (most : ℕ) (streams : List (Option StreamParts)) (b : Bool) (slot : ℕ) (s : StreamParts) (blocks : List ℕ) (y : Durable) → stream_at streams slot ≡ Some s → MayHaveRuns s.facts.len (length (runs_of blocks))
    → y ≡ with_case (durable_in (g.seen d) j.standing) s.facts blocks (taken_in j (g.seen d) s).bytes
    → StoresIn blocks (state_of (record { disk = d; journal = j; limit = most; streams = streams; stopped = b })) (contents_of g.seen (record { disk = d; journal = j; limit = most; streams = streams; stopped = b })) (durable_in (g.seen d) j.standing) slot y
stored_doubt g d j most streams b slot s blocks y is fits stored = (
  s.facts,
  taken_in j (g.seen d) s,
  at_map stream_facts streams slot ∙ ap (option_map stream_facts) is,
  at_map (taken_in j (g.seen d)) streams slot ∙ ap (option_map (taken_in j (g.seen d))) is,
  fits,
  stored,
)
  where
    at_map : {Y : Type 0} (f : StreamParts → Y) (xs : List (Option StreamParts)) (i : ℕ) → stream_at (map (option_map f) xs) i ≡ option_map f (stream_at xs i)
    at_map f [] i = refl
    at_map f (o ∷ rest) zero = refl
    at_map f (o ∷ rest) (suc i) = at_map f rest i

-- the append of a record that moves no block
module _ {D : Type 0} (g : disk.Ghosts D) (d d' : D) (j j' : Journaled) (r : Record) (guards : Guards g d j) (runs : j.stopped ≡ false) (honest : IsTrue (g.is_honest d)) (whole : IsWholeAfter g d d' j r)
    (either : LeavesEither g d d' j.standing r) (outside : LeavesOutside g d d' j.standing) (doubt : Durable → Type 0) where
  moments : LeavesOnly g d d' (λ c. StandsFor c (durable_in (g.seen d) j.standing) ⊎ StandsFor c (durable_in (g.seen d) (appended j.standing r)))
  moments = append_moments g d d' j r (λ b may. guards.whole runs honest b may) whole either outside

  pub record_ok : (u : Unit {0}) → Behind g d d' j r (g.seen d) (g.seen d') → j' ≡ after_append j r → AddsOnly g d d' (Leaves {T = Unit {0}} (durable_in (g.seen d) j.standing) (Ok u) (durable_in (g.seen d') j'.standing) doubt)
  record_ok u others step =
      appended_adds (Unit {0}) u g d d' (durable_in (g.seen d) j.standing) (durable_in (g.seen d) (appended j.standing r)) (durable_in (g.seen d') j'.standing) doubt
      (ap (λ (k : Journaled). durable_in (g.seen d') k.standing) step ∙ new_behind g d d' j r (g.seen d) (g.seen d') others) moments

  pub record_err : (jf : JournalFault) (f : ArchiveFault) (new : Durable) → f ≡ fault_of jf → LeavesDisk jf d d' → doubt (durable_in (g.seen d) (appended j.standing r)) → ((c : List ℕ) → g.left_since d (g.clock d) c → g.may_leave d c)
      → AddsOnly g d d' (Leaves {T = Unit {0}} (durable_in (g.seen d) j.standing) (Err f) new doubt)
  record_err jf f new told untouched may only =
      subst (λ (x : ArchiveFault). AddsOnly g d d' (Leaves {T = Unit {0}} (durable_in (g.seen d) j.standing) (Err x) new doubt)) (sym told)
      (adds g d d' (Leaves {T = Unit {0}} (durable_in (g.seen d) j.standing) (Err (fault_of jf)) new doubt)
      (refused_moments (Unit {0}) g d d' jf (durable_in (g.seen d) j.standing) (durable_in (g.seen d) (appended j.standing r)) new doubt may untouched
      (λ c was. stands_now g d j guards runs honest c (only c was)) moments))
