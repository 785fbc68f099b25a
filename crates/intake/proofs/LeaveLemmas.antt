-- What a crash leaves of the append of a record.
use Rattle.std.proofs.Common.{◌≡◌, ◌⊎◌, ℕ, ◌*◌, ◌≤◌, false, true, Bool, List, sym, ap, ◌∙◌, subst, ⊎_elim, inl, inr, Err}
use Rattle.std.specs.Prelude.{IsTrue}
use Rattle.disk_model.specs.Disk.{ChangedIn}
use Rattle.disk_model.specs.MomentLaws.{started, weakened, both, now_too}
use Rattle.disk_model.specs.Moments.{LeavesOnly, IsSettled}
use Rattle.disk_model.specs.Places.{SameOutside}
use Rattle.disk_model.specs.declared.disk.Disk as disk
use Rattle.journal_layout.specs.Layout.{half_length}
use Rattle.journal_layout.specs.Record.{Record, Drop, Pin, Label}
use Rattle.journal_layout.specs.Case.{Case}
use Rattle.journal_layout.specs.Rewriting.{appended}
use Rattle.journal_layout.specs.Standing.{store_of}
use Rattle.journal_layout.specs.Stands.{Stands}
use Rattle.case_journal.specs.Append.{AppendStep, StoreRefused}
use Rattle.case_journal.specs.Refusing.{LeavesDisk}
use Rattle.case_journal.specs.Journaled.{Journaled, after_append}
use Rattle.case_journal.specs.Keeping.{Keeps, LeavesEither, LeavesOutside}
use Rattle.case_journal.specs.declared.faults.JournalFault.{JournalFault}
use Rattle.case_journal.specs.declared.faults.JournalFault.TheVariants as journal_fault
use Rattle.intake.specs.Durable.{Durable, StandsFor, durable_in, without, flagged, labelled}
use Rattle.intake.specs.Faults.{fault_of}
use Rattle.intake.specs.Guarding.{Guards, Leaves}
use Rattle.intake.proofs.DurableLemmas.{durable_behind, durable_dropped, durable_pinned, durable_labelled}

module _ {D : Type 0} (g : disk.Ghosts D) (d d' : D) (j : Journaled) (r : Record) where
  abbrev pub Behind : List ℕ → List ℕ → Type 0
  Behind a b = SameOutside 4096 (2 * half_length j.standing.shape) a b

  abbrev pub IsWhole : Type 0
  IsWhole = (c : List ℕ) → g.may_leave d c → durable_in c j.standing ≡ durable_in (g.seen d) j.standing

  abbrev pub IsWholeAfter : Type 0
  IsWholeAfter = (c : List ℕ) → g.may_leave d c → durable_in c (appended j.standing r) ≡ durable_in (g.seen d) (appended j.standing r)

  old_behind : (a b : List ℕ) → Behind a b → durable_in b j.standing ≡ durable_in a j.standing
  old_behind a b same = durable_behind j a b same j.standing.cases j.standing.next j.standing.version

  pub new_behind : (a b : List ℕ) → Behind a b → durable_in b (appended j.standing r) ≡ durable_in a (appended j.standing r)
  new_behind a b same = durable_behind j a b same (appended j.standing r).cases (appended j.standing r).next (appended j.standing r).version

  -- the cases before or after
  pub append_moments : IsWhole → IsWholeAfter → LeavesEither g d d' j.standing r → LeavesOutside g d d' j.standing
      → LeavesOnly g d d' (λ c. StandsFor c (durable_in (g.seen d) j.standing) ⊎ StandsFor c (durable_in (g.seen d) (appended j.standing r)))
  append_moments whole whole_after either outside =
      weakened g d d'
      (λ c. (Stands c j.standing ⊎ Stands c (appended j.standing r)) × ChangedIn 4096 (2 * half_length j.standing.shape) (g.may_leave d) c)
      (λ c. StandsFor c (durable_in (g.seen d) j.standing) ⊎ StandsFor c (durable_in (g.seen d) (appended j.standing r)))
      (λ c h. ⊎_elim
      (λ stands. inl (record { standing = j.standing; stands = stands; is = old_behind h.1.0 c h.1.2 ∙ whole h.1.0 h.1.1 }))
      (λ stands. inr (record { standing = appended j.standing r; stands = stands; is = new_behind h.1.0 c h.1.2 ∙ whole_after h.1.0 h.1.1 }))
      h.0)
      (both g d d' (λ c. Stands c j.standing ⊎ Stands c (appended j.standing r)) (ChangedIn 4096 (2 * half_length j.standing.shape) (g.may_leave d)) either outside)

  -- once it is done
  pub guards_appended : g.is_honest d' ≡ g.is_honest d → ((t : ℕ) (c : List ℕ) → t ≤ g.clock d' → g.may_leave d' c → g.left_since d' t c)
      → Keeps g d' (after_append j r) → (IsTrue (g.is_honest d) → IsWholeAfter) → (IsTrue (g.is_honest d) → LeavesOutside g d d' j.standing)
      → (IsTrue (g.is_honest d) → Behind (g.seen d) (g.seen d')) → Guards g d' (after_append j r)
  guards_appended honesty counts keeps whole_after outside others = record {
    keeps = keeps;
    whole = λ runs real c may. (
        let honest : IsTrue (g.is_honest d) = sym honesty ∙ real in
        let was = now_too g d d' (ChangedIn 4096 (2 * half_length j.standing.shape) (g.may_leave d)) (outside honest) counts c may in
        new_behind was.0 c was.2 ∙ whole_after honest was.0 was.1 ∙ sym (new_behind (g.seen d) (g.seen d') (others honest)));
  }

-- of a case, where a crash leaves what reads give
pub store_moments : {D : Type 0} (g : disk.Ghosts D) (d d' : D) (j : Journaled) (c : Case) → Guards g d j → j.stopped ≡ false → IsTrue (g.is_honest d) → IsSettled g d
    → LeavesEither g d d' j.standing (store_of j.standing c) → LeavesOutside g d d' j.standing
    → LeavesOnly g d d' (λ x. StandsFor x (durable_in (g.seen d) j.standing) ⊎ StandsFor x (durable_in (g.seen d) (appended j.standing (store_of j.standing c))))
store_moments g d d' j c guards runs honest settled either outside =
    append_moments g d d' j (store_of j.standing c) (λ b may. guards.whole runs honest b may)
    (λ b may. ap (λ (x : List ℕ). durable_in x (appended j.standing (store_of j.standing c))) (settled b may)) either outside

-- a refusal that is not the disk's leaves the cases
pub guards_untouched : {D : Type 0} (g : disk.Ghosts D) (d d' : D) (j : Journaled) → d' ≡ d → Guards g d j → Guards g d' j
guards_untouched g d d' j same guards = subst (λ (x : _). Guards g x j) (sym same) guards

-- and a journal that is stopped says nothing of them
pub guards_stopped : {D : Type 0} (g : disk.Ghosts D) (d' : D) (j' : Journaled) → Keeps g d' j' → j'.stopped ≡ true → Guards g d' j'
guards_stopped g d' j' keeps off = record { keeps = keeps; whole = λ runs real c may. absurd (let e : true ≡ false = sym off ∙ runs in cc) }

-- the same images after a record that moves no block
pub whole_dropped : {D : Type 0} (g : disk.Ghosts D) (d : D) (j : Journaled) (seqs : List ℕ) → IsWhole g d d j (Drop seqs) → IsWholeAfter g d d j (Drop seqs)
whole_dropped g d j seqs whole c may = durable_dropped j.standing seqs c ∙ ap (λ (x : Durable). without x seqs) (whole c may) ∙ sym (durable_dropped j.standing seqs (g.seen d))

pub whole_pinned : {D : Type 0} (g : disk.Ghosts D) (d : D) (j : Journaled) (seq : ℕ) (flag : Bool) → IsWhole g d d j (Pin seq flag) → IsWholeAfter g d d j (Pin seq flag)
whole_pinned g d j seq flag whole c may = durable_pinned j.standing seq flag c ∙ ap (λ (x : Durable). flagged x seq flag) (whole c may) ∙ sym (durable_pinned j.standing seq flag (g.seen d))

pub whole_labelled : {D : Type 0} (g : disk.Ghosts D) (d : D) (j : Journaled) (seq : ℕ) (text : List ℕ) → IsWhole g d d j (Label seq text) → IsWholeAfter g d d j (Label seq text)
whole_labelled g d j seq text whole c may = durable_labelled j.standing seq text c ∙ ap (λ (x : Durable). labelled x seq text) (whole c may) ∙ sym (durable_labelled j.standing seq text (g.seen d))

-- what a refused append leaves
pub refused_moments : {D : Type 0} (T : Type 0) (g : disk.Ghosts D) (d d' : D) (jf : JournalFault) (x y z : Durable) (doubt : Durable → Type 0) → doubt y → LeavesDisk jf d d'
    → ((c : List ℕ) → g.left_since d (g.clock d) c → StandsFor c x) → LeavesOnly g d d' (λ c. StandsFor c x ⊎ StandsFor c y)
    → LeavesOnly g d d' (Leaves {T = T} x (Err (fault_of jf)) z doubt)
refused_moments T g d d' journal_fault.Disk x y z doubt may untouched before moments =
    weakened g d d' (λ c. StandsFor c x ⊎ StandsFor c y) (Leaves {T = T} x (Err (fault_of journal_fault.Disk)) z doubt) (λ c h. ⊎_elim (λ a. inl a) (λ b. inr (y, may, b)) h) moments
refused_moments T g d d' journal_fault.Stopped x y z doubt may untouched before moments =
    subst (λ (e : _). LeavesOnly g d e (Leaves {T = T} x (Err (fault_of journal_fault.Stopped)) z doubt)) (sym untouched) (started g d (Leaves {T = T} x (Err (fault_of journal_fault.Stopped)) z doubt) (λ c was. inl (before c was)))
refused_moments T g d d' journal_fault.JournalFull x y z doubt may untouched before moments =
    subst (λ (e : _). LeavesOnly g d e (Leaves {T = T} x (Err (fault_of journal_fault.JournalFull)) z doubt)) (sym untouched) (started g d (Leaves {T = T} x (Err (fault_of journal_fault.JournalFull)) z doubt) (λ c was. inl (before c was)))
refused_moments T g d d' journal_fault.NumbersSpent x y z doubt may untouched before moments =
    subst (λ (e : _). LeavesOnly g d e (Leaves {T = T} x (Err (fault_of journal_fault.NumbersSpent)) z doubt)) (sym untouched) (started g d (Leaves {T = T} x (Err (fault_of journal_fault.NumbersSpent)) z doubt) (λ c was. inl (before c was)))
refused_moments T g d d' journal_fault.OutOfMemory x y z doubt may untouched before moments =
    subst (λ (e : _). LeavesOnly g d e (Leaves {T = T} x (Err (fault_of journal_fault.OutOfMemory)) z doubt)) (sym untouched) (started g d (Leaves {T = T} x (Err (fault_of journal_fault.OutOfMemory)) z doubt) (λ c was. inl (before c was)))
refused_moments T g d d' journal_fault.OldVersion x y z doubt may untouched before moments =
    subst (λ (e : _). LeavesOnly g d e (Leaves {T = T} x (Err (fault_of journal_fault.OldVersion)) z doubt)) (sym untouched) (started g d (Leaves {T = T} x (Err (fault_of journal_fault.OldVersion)) z doubt) (λ c was. inl (before c was)))

-- a refused append leaves the cases guarded
pub refusal_guards : {D : Type 0} (g : disk.Ghosts D) (d d' : D) (j j' : Journaled) (r : Record) (jf : JournalFault) → AppendStep j r (Err jf) j' → LeavesDisk jf d d' → Keeps g d' j' → Guards g d j → Guards g d' j'
refusal_guards g d d' j j' r journal_fault.Stopped step same keeps guards = guards_untouched g d d' j' same (subst (Guards g d) (sym step.1) guards)
refusal_guards g d d' j j' r journal_fault.JournalFull step same keeps guards = guards_untouched g d d' j' same (subst (Guards g d) (sym step.2) guards)
refusal_guards g d d' j j' r journal_fault.NumbersSpent step same keeps guards = absurd step
refusal_guards g d d' j j' r journal_fault.OutOfMemory step same keeps guards = guards_untouched g d d' j' same (subst (Guards g d) (sym step.2) guards)
refusal_guards g d d' j j' r journal_fault.Disk step same keeps guards = guards_stopped g d' j' keeps (ap (λ (k : Journaled). k.stopped) step.2)
refusal_guards g d d' j j' r journal_fault.OldVersion step same keeps guards = absurd step

-- so does a case that was refused
pub store_guards : {D : Type 0} (g : disk.Ghosts D) (d d' : D) (j j' : Journaled) (c : Case) (jf : JournalFault) → StoreRefused j c jf j' → LeavesDisk jf d d' → Keeps g d' j' → Guards g d j → Guards g d' j'
store_guards g d d' j j' c journal_fault.Stopped step same keeps guards = guards_untouched g d d' j' same (subst (Guards g d) (sym step.1) guards)
store_guards g d d' j j' c journal_fault.JournalFull step same keeps guards = guards_untouched g d d' j' same (subst (Guards g d) (sym step.2) guards)
store_guards g d d' j j' c journal_fault.NumbersSpent step same keeps guards = guards_untouched g d d' j' same (subst (Guards g d) (sym step.3) guards)
store_guards g d d' j j' c journal_fault.OutOfMemory step same keeps guards = guards_untouched g d d' j' same (subst (Guards g d) (sym step.3) guards)
store_guards g d d' j j' c journal_fault.Disk step same keeps guards = guards_stopped g d' j' keeps (ap (λ (k : Journaled). k.stopped) step.3)
store_guards g d d' j j' c journal_fault.OldVersion step same keeps guards = absurd step

-- and one that was done, of a record that moves no block
pub done_guards : {D : Type 0} (g : disk.Ghosts D) (d d' : D) (j j' : Journaled) (r : Record) → j' ≡ after_append j r → g.is_honest d' ≡ g.is_honest d
    → ((t : ℕ) (c : List ℕ) → t ≤ g.clock d' → g.may_leave d' c → g.left_since d' t c) → Keeps g d' j' → (IsTrue (g.is_honest d) → IsWholeAfter g d d' j r)
    → (IsTrue (g.is_honest d) → LeavesOutside g d d' j.standing) → (IsTrue (g.is_honest d) → Behind g d d' j r (g.seen d) (g.seen d')) → Guards g d' j'
done_guards g d d' j j' r step honesty counts keeps whole outside others =
    subst (Guards g d') (sym step) (guards_appended g d d' j r honesty counts (subst (Keeps g d') step keeps) whole outside others)
