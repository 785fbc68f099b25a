-- What each call does to what the archive holds.
use Rattle.std.proofs.Common.{◌≡◌, ◌≢◌, ◌⊎◌, ⊎_elim, inl, inr, ℕ, ◌+◌, ◌≤◌, Bool, true, false, not, cond, List, [], ◌∷◌, ◌++◌, map, Result, Ok, Err, refl, sym, ap, subst, ◌∙◌}
use Rattle.std.specs.List.{All, filter}
use Rattle.std.specs.Prelude.{IsTrue}
use Rattle.disk_model.specs.Moments.{AddsOnly}
use Rattle.disk_model.specs.MomentLaws.{adds_weakened}
use Rattle.disk_model.specs.declared.disk.Disk as disk
use Rattle.journal_layout.specs.Case.{Case}
use Rattle.journal_layout.specs.Folding.{is_among, dropped, pinned_as, labelled_as}
use Rattle.intake.proofs.KeptNameLemmas.{all_left}
use Rattle.intake.specs.Blocks.{image_in}
use Rattle.intake.specs.Calls.{FinishCall, DeleteCall, PinCall, LabelCall, UpgradeCall, RetireCall}
use Rattle.intake.specs.Contents.{Contents, images_without}
use Rattle.intake.specs.Durable.{Durable, FoundCase, StandsFor, durable_of, durable_part, with_images, without, flagged, labelled, upgraded, found_with, made_of}
use Rattle.intake.specs.Guarding.{Leaves, LeavesNew, MayBeStored}
use Rattle.intake.specs.Lasting.{HasEmptyLabel}
use Rattle.intake.specs.Lasts.{IsUpgradeOf}
use Rattle.intake.specs.Parts.{Parts, state_of, contents_of}
use Rattle.intake.specs.State.{ArchiveState}
use Rattle.intake.specs.Step.{HasCase, stored, case_from, without_cases, with_flag, with_label, anew_in_two}
use Rattle.intake.specs.declared.faults.ArchiveFault.{ArchiveFault}
use Rattle.intake.specs.declared.faults.ArchiveFault.TheVariants as fault
use Rattle.intake.proofs.DurableLemmas.{durable_is, durable_in_two, found_zipped}
use Rattle.intake.proofs.LastingLemmas.{labels_kept}
use Rattle.intake.proofs.MarkLemmas.{finish_same, refused_same, delete_is, pin_is, label_is, upgrade_is, retire_is}
use Rattle.retention.specs.declared.Decision.{Decision}
use Rattle.retention.specs.declared.Policy.{Policy}

module _ (image : Case → List ℕ) where
  abbrev zipped : List Case → List FoundCase
  zipped cases = with_images cases (map image cases)

  zipped_then : (cases : List Case) (c : Case) (t : List ℕ) → with_images (cases ++ c ∷ []) (map image cases ++ t ∷ []) ≡ zipped cases ++ found_with c t ∷ []
  zipped_then [] c t = refl
  zipped_then (d ∷ ds) c t = ap (λ (l : List FoundCase). found_with d (image d) ∷ l) (zipped_then ds c t)

  zipped_without : (seqs : List ℕ) (cases : List Case)
      → with_images (dropped seqs cases) (images_without seqs cases (map image cases))
      ≡ filter (λ (c : FoundCase). not (is_among seqs c.case.seq)) (zipped cases)
  zipped_without seqs [] = refl
  zipped_without seqs (d ∷ ds) =
      let cs : List Case = dropped seqs ds in
      let is : List (List ℕ) = images_without seqs ds (map image ds) in
      let fs : List FoundCase = filter (λ (c : FoundCase). not (is_among seqs c.case.seq)) (zipped ds) in
      elim (is_among seqs d.seq) as (λ t. with_images (cond (not t) (d ∷ cs) cs) (cond t is (image d ∷ is)) ≡ cond (not t) (found_with d (image d) ∷ fs) fs) [
        | true ↦ zipped_without seqs ds
        | false ↦ ap (λ (l : List FoundCase). found_with d (image d) ∷ l) (zipped_without seqs ds)
      ]

-- a change of cases leaves their images
zipped_made : (f : Case → Case) (cases : List Case) (images : List (List ℕ)) → with_images (map f cases) images ≡ map (made_of f) (with_images cases images)
zipped_made f [] images = refl
zipped_made f (c ∷ cs) [] = refl
zipped_made f (c ∷ cs) (i ∷ is) = ap (λ (l : List FoundCase). found_with (f c) i ∷ l) (zipped_made f cs is)

module _ {D : Type 0} (g : disk.Ghosts D) (old new : Parts D) (honest : IsTrue (g.is_honest old.disk)) where
  abbrev image_of : Case → List ℕ
  image_of c = image_in old.journal.standing.shape (g.seen old.disk) c.blocks c.len

  abbrev cases_of : List FoundCase
  cases_of = with_images (state_of old).cases (contents_of g.seen old).images

  found_before : cases_of ≡ (durable_of g.seen old).cases
  found_before = sym (found_zipped old.journal.standing.shape (g.seen old.disk) old.journal.standing.cases)

  -- the cases are told by the state and the bytes
  lasts : (b : ArchiveState) (c : Contents) → state_of new ≡ b → contents_of g.seen new ≡ c → durable_of g.seen new ≡ durable_part b c
  lasts b c is has = durable_is g.seen new ∙ ap (λ (z : ArchiveState). durable_part z (contents_of g.seen new)) is ∙ ap (durable_part b) has

  pub finish_lasts : (slot seq : ℕ) → FinishCall g old slot (Ok seq) new → MayBeStored (state_of old) (contents_of g.seen old) (durable_of g.seen old) slot (durable_of g.seen new)
  finish_lasts slot seq call =
      let step = call.step in
      let bytes = call.bytes honest in
      let case : Case = case_from step.0 (state_of old).next step.1 in (
        step.1,
        (
          step.0,
          bytes.0,
          step.2.1,
          bytes.1,
          step.3,
          lasts (stored (state_of old) slot step.0 step.1) _ step.7 bytes.2
              ∙ ap (λ (l : List FoundCase). record { cases = l; next = (state_of old).next + 1; version = (state_of old).version })
              (zipped_then image_of old.journal.standing.cases case bytes.0.bytes ∙ ap (λ (l : List FoundCase). l ++ found_with case bytes.0.bytes ∷ []) found_before),
        ),
      )

  left : (seqs : List ℕ) → record { cases = with_images (without_cases (state_of old) seqs).cases (images_without seqs (state_of old).cases (contents_of g.seen old).images); next = (state_of old).next; version = (state_of old).version } ≡ without (durable_of g.seen old) seqs
  left seqs =
      ap (λ (l : List FoundCase). record { cases = l; next = (state_of old).next; version = (state_of old).version })
      (zipped_without image_of seqs old.journal.standing.cases ∙ ap (filter (λ (c : FoundCase). not (is_among seqs c.case.seq))) found_before)

  pub delete_lasts : (seq : ℕ) (u : Unit {0}) → DeleteCall g old seq (Ok u) new → durable_of g.seen new ≡ without (durable_of g.seen old) (seq ∷ [])
  delete_lasts seq u call = lasts (without_cases (state_of old) (seq ∷ [])) _ call.step.4 (call.bytes honest) ∙ left (seq ∷ [])

  pub pin_lasts : (seq : ℕ) (flag : Bool) (u : Unit {0}) → PinCall g old seq flag (Ok u) new
      → (c : Case) × HasCase (state_of old) seq c
      × (((c.pinned ≡ flag) × (durable_of g.seen new ≡ durable_of g.seen old)) ⊎ ((c.pinned ≢ flag) × (durable_of g.seen new ≡ flagged (durable_of g.seen old) seq flag)))
  pin_lasts seq flag u call = (call.step.0, call.step.1, told)
    where
      told : ((call.step.0.pinned ≡ flag) × (durable_of g.seen new ≡ durable_of g.seen old)) ⊎ ((call.step.0.pinned ≢ flag) × (durable_of g.seen new ≡ flagged (durable_of g.seen old) seq flag))
      told =
          ⊎_elim
          (λ kept. inl (kept.0, lasts (state_of old) (contents_of g.seen old) kept.1 (call.bytes honest) ∙ sym (durable_is g.seen old)))
          (λ set. inr (
            set.0,
            lasts (with_flag (state_of old) seq flag) (contents_of g.seen old) set.2 (call.bytes honest)
                ∙ ap (λ (l : List FoundCase). record { cases = l; next = (state_of old).next; version = (state_of old).version })
                (zipped_made (pinned_as seq flag) (state_of old).cases (contents_of g.seen old).images ∙ ap (map (made_of (pinned_as seq flag))) found_before),
          ))
          call.step.2

  pub label_lasts : (seq : ℕ) (text : List ℕ) (u : Unit {0}) → LabelCall g old seq text (Ok u) new
      → (c : Case) × HasCase (state_of old) seq c
      × (((c.label ≡ text) × (durable_of g.seen new ≡ durable_of g.seen old)) ⊎ ((c.label ≢ text) × (durable_of g.seen new ≡ labelled (durable_of g.seen old) seq text)))
  label_lasts seq text u call = (call.step.0, call.step.1.0, told)
    where
      told : ((call.step.0.label ≡ text) × (durable_of g.seen new ≡ durable_of g.seen old)) ⊎ ((call.step.0.label ≢ text) × (durable_of g.seen new ≡ labelled (durable_of g.seen old) seq text))
      told =
          ⊎_elim
          (λ kept. inl (kept.0, lasts (state_of old) (contents_of g.seen old) kept.1 (call.bytes honest) ∙ sym (durable_is g.seen old)))
          (λ set. inr (
            set.0,
            lasts (with_label (state_of old) seq text) (contents_of g.seen old) set.2 (call.bytes honest)
                ∙ ap (λ (l : List FoundCase). record { cases = l; next = (state_of old).next; version = (state_of old).version })
                (zipped_made (labelled_as seq text) (state_of old).cases (contents_of g.seen old).images ∙ ap (map (made_of (labelled_as seq text))) found_before),
          ))
          call.step.2

  pub upgrade_lasts : (u : Unit {0}) → UpgradeCall g old (Ok u) new → durable_of g.seen new ≡ upgraded (durable_of g.seen old)
  upgrade_lasts u call =
      ⊎_elim
      (λ kept. lasts (state_of old) (contents_of g.seen old) kept.1 (call.bytes honest) ∙ sym (durable_is g.seen old) ∙ sym (durable_in_two old.journal.standing (g.seen old.disk) kept.0))
      (λ set. lasts (anew_in_two (state_of old)) (contents_of g.seen old) set.2 (call.bytes honest) ∙ ap (λ (x : Durable). upgraded x) (sym (durable_is g.seen old)))
      call.step.1

  pub retire_lasts : (policy : Policy) (d : Decision) → RetireCall g old policy (Ok d) new → durable_of g.seen new ≡ without (durable_of g.seen old) d.dropped.items
  retire_lasts policy d call =
      ⊎_elim
      (λ none. (
      let no : List ℕ = [] in
      lasts (state_of old) _ none.1 (call.bytes honest)
      ∙ ap (λ (l : List Case). record { cases = with_images l (images_without d.dropped.items (state_of old).cases (contents_of g.seen old).images); next = (state_of old).next; version = (state_of old).version })
      (sym (all_left (state_of old).cases) ∙ ap (λ (seqs : List ℕ). dropped seqs (state_of old).cases) (sym none.0))
      ∙ left d.dropped.items
      ))
      (λ some. lasts (without_cases (state_of old) d.dropped.items) _ some.2 (call.bytes honest) ∙ left d.dropped.items)
      call.step.2

module _ {D : Type 0} (g : disk.Ghosts D) (counts : (d : D) (t : ℕ) (c : List ℕ) → t ≤ g.clock d → g.may_leave d c → g.left_since d t c)
    (only : (d : D) (c : List ℕ) → g.left_since d (g.clock d) c → g.may_leave d c) (old new : Parts D) where
  pub refusals_last : (f : ArchiveFault) → IsTrue (g.is_honest old.disk)
      → ((slot : ℕ) × FinishCall g old slot (Err f) new) ⊎ (((seq : ℕ) × DeleteCall g old seq (Err f) new)
      ⊎ (((seq : ℕ) × (flag : Bool) × PinCall g old seq flag (Err f) new) ⊎ (((policy : Policy) × RetireCall g old policy (Err f) new)
      ⊎ (((seq : ℕ) × (text : List ℕ) × LabelCall g old seq text (Err f) new) ⊎ UpgradeCall g old (Err f) new))))
      → durable_of g.seen new ≡ durable_of g.seen old
  refusals_last f honest (inl finish) = finish_same g counts only old new finish.0 f finish.1.step (finish.1.bytes honest)
  refusals_last f honest (inr (inl delete)) = refused_same g counts only old new f (delete_is g counts only old new delete.0 f delete.1.step) (delete.1.bytes honest)
  refusals_last f honest (inr (inr (inl pin))) = refused_same g counts only old new f (pin_is g counts only old new pin.0 pin.1 f pin.2.step) (pin.2.bytes honest)
  refusals_last f honest (inr (inr (inr (inr (inl label))))) = refused_same g counts only old new f (label_is g counts only old new label.0 label.1 f label.2.step) (label.2.bytes honest)
  refusals_last f honest (inr (inr (inr (inr (inr upgrade))))) = refused_same g counts only old new f (upgrade_is g counts only old new f upgrade.step) (upgrade.bytes honest)
  refusals_last f honest (inr (inr (inr (inl retire)))) = refused_same g counts only old new f (retire_is g counts only old new retire.0 f retire.1.step) (retire.1.bytes honest)

-- an upgrade leaves the cases, whatever is left of it
module _ {D : Type 0} (g : disk.Ghosts D) (old new : Parts D) (honest : IsTrue (g.is_honest old.disk)) (one : (state_of old).version ≡ 1) (none : All HasEmptyLabel (durable_of g.seen old).cases) where
  is_old : IsUpgradeOf (durable_of g.seen old) (durable_of g.seen old)
  is_old = record { cases = refl; next = refl; version = inl one; labels = none }

  is_upgraded : IsUpgradeOf (durable_of g.seen old) (upgraded (durable_of g.seen old))
  is_upgraded = record { cases = refl; next = refl; version = inr refl; labels = none }

  abbrev LeavesCases : List ℕ → Type 0
  LeavesCases c = (x : Durable) × StandsFor c x × IsUpgradeOf (durable_of g.seen old) x

  left_new : (r : Result (Unit {0}) ArchiveFault) (c : List ℕ) → UpgradeCall g old r new → LeavesNew {T = Unit {0}} r (durable_of g.seen new) (λ x. x ≡ upgraded (durable_of g.seen old)) c → LeavesCases c
  left_new (Ok u) c call stands = (durable_of g.seen new, stands, subst (IsUpgradeOf (durable_of g.seen old)) (sym (upgrade_lasts g old new honest u call)) is_upgraded)
  left_new (Err fault.Disk) c call h = (h.0, h.2, subst (IsUpgradeOf (durable_of g.seen old)) (sym h.1) is_upgraded)
  left_new (Err _) c call h = absurd h

  left_cases : (r : Result (Unit {0}) ArchiveFault) → UpgradeCall g old r new → AddsOnly g old.disk new.disk LeavesCases
  left_cases r call =
      adds_weakened g old.disk new.disk (Leaves {T = Unit {0}} (durable_of g.seen old) r (durable_of g.seen new) (λ x. x ≡ upgraded (durable_of g.seen old))) LeavesCases
      (λ c h. ⊎_elim (λ stands. (durable_of g.seen old, stands, is_old)) (λ more. left_new r c call more) h) (call.changes.crash honest)

pub upgrade_leaves : {D : Type 0} (g : disk.Ghosts D) (old new : Parts D) (r : Result (Unit {0}) ArchiveFault) → ((d : D) → IsTrue (g.is_honest d) → g.may_leave d (g.seen d)) → IsTrue (g.is_honest old.disk)
    → (state_of old).version ≡ 1 → ((c : List ℕ) → g.may_leave old.disk c → StandsFor c (durable_of g.seen old)) → UpgradeCall g old r new
    → AddsOnly g old.disk new.disk (λ c. (x : Durable) × StandsFor c x × IsUpgradeOf (durable_of g.seen old) x)
upgrade_leaves g old new r stays_seen honest one settled call =
    left_cases g old new honest one ((labels_kept (g.seen old.disk) (durable_of g.seen old) (settled (g.seen old.disk) (stays_seen old.disk honest))).none one) r call
