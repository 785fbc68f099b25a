-- What is told of cases between two looks.
use Rattle.std.proofs.Common.{◌≡◌, ◌∙◌, ◌<◌, ◌++◌, ℕ, Bool, true, false, List, [], ◌∷◌, length, map, inl, inr, refl, sym, ap, subst, Option, None, Some, Result, Ok, Err, arith, IsTrue, if◌then◌else◌, ◌⊎◌, codes, Vec, Global}
use Rattle.std.specs.List.{flat_map}
use Rattle.disk_model.specs.declared.disk.Disk as disk
use Rattle.intake.specs.Calls.{OpenCall}
use Rattle.intake.specs.InTurn.{last_state}
use Rattle.intake.specs.Parts.{Parts, state_of}
use Rattle.intake.specs.State.{ArchiveState}
use Rattle.intake.specs.Reading.{IsReadFault}
use Rattle.journal_layout.specs.Case.{Case}
use Rattle.shared_disk.specs.Looks.{LooksAnew}
use Rattle.shared_disk.specs.declared.shared.SharedDisk as shared
use Rattle.shared_disk.specs.declared.unlocked.Unlocked.{Unlocked}
use Rattle.archive_checks.specs.Checking.{cases_seen}
use Rattle.archive_checks.specs.Texts.{facts_lines}
use Rattle.archive_checks.specs.Verdicts.{gone_line, verdict_line}
use Rattle.archive_checks.specs.declared.verdict.Verdict.{Verdict}
use Rattle.archive_files.specs.UnlockedChecks.{AreSettled, CasesTold, ChecksUnlocked, Examines, IsCheckText, IsSeen, IsSettled, LooksBack, Reports, ToldAsGone, ToldAsThere, IsVerdictOf, report_text, settled, told_line, told_words}
use Rattle.archive_files.specs.UnlockedCopies.{Meanwhile}
use Rattle.archive_files.specs.UnlockedFinding.{has_number}
use Rattle.archive_files.specs.History.{HasNone, HasOne}
use Rattle.archive_files.specs.UnlockedImages.{AreSeen}
use Rattle.archive_files.specs.declared.unlocked_checks.Findings.{Findings}
use Rattle.archive_files.specs.declared.unlocked_checks.ToldCase.{ToldCase}
use Rattle.archive_files.specs.declared.unlocked_faults.UnlockedCheckFault.{UnlockedCheckFault}
use Rattle.archive_files.specs.declared.unlocked_faults.UnlockedCheckFault.TheVariants as fault
use Rattle.archive_files.specs.declared.unlocked_images.SeenCase.{SeenCase}
use Rattle.archive_files.proofs.UnlockedCopyLemmas.{numbered_nowhere, numbered_there, stands_for}

-- where no images are asked for no case is seen
none_asked : (P : ℕ → Verdict → Type 0) (vs : List SeenCase) → AreSeen P [] vs → 0 < length vs → ⊥
none_asked P [] seen some = omega (arith, some)
none_asked P (v ∷ vs) seen some = seen

pub asked : (P : ℕ → Verdict → Type 0) (s : ArchiveState) (sees : Bool) (vs : List SeenCase) → AreSeen P (cases_seen s sees) vs → 0 < length vs → sees ≡ true
asked P s true vs seen some = refl
asked P s false vs seen some = absurd (none_asked P vs seen some)

module _ {S : Type 0} (g : shared.Ghosts S) (s : S) where
  settled_as : (seq : ℕ) (verdict : Verdict) (there : Bool) → (true ≡ there → Meanwhile g s (λ x ys. HasOne (last_state x ys) seq)) → (false ≡ there → Meanwhile g s (λ x ys. HasNone (last_state x ys) seq))
      → IsSettled g s seq verdict (if there then Some verdict else None)
  settled_as seq verdict true has none = (refl, has refl)
  settled_as seq verdict false has none = none refl

  -- each case by what is there at the next look
  pub all_settled : (there : ℕ → Bool) (cases : List SeenCase) → ((n : ℕ) → true ≡ there n → Meanwhile g s (λ x ys. HasOne (last_state x ys) n)) → ((n : ℕ) → false ≡ there n → Meanwhile g s (λ x ys. HasNone (last_state x ys) n))
      → AreSettled g s cases (map (settled there) cases)
  all_settled there [] has none = tt
  all_settled there (c ∷ cs) has none = (refl, settled_as c.seq c.verdict (there c.seq) (has c.seq) (none c.seq), all_settled there cs has none)

  -- the line of one that was seen
  one_told : (seq n : ℕ) (v : Verdict) (told : Option Verdict) → n ≡ seq → IsSeen g s seq v → IsSettled g s seq v told → ToldAsThere g s seq (told_words n told) ⊎ ToldAsGone g s seq (told_words n told)
  one_told seq n v None is seen here = inr (ap gone_line is, here)
  one_told seq n v (Some w) is seen here =
      inl (
        w,
        ap (λ (k : ℕ). verdict_line k w) is,
        λ shape x ys honest holds.
            let later = here.1 shape x ys honest holds in
            (later, subst (IsVerdictOf x seq) (sym here.0) (seen shape x ys honest holds later)),
      )

  -- the lines of all that were seen
  pub all_told : (cs : List Case) (vs : List SeenCase) (ts : List ToldCase) → AreSeen (IsSeen g s) cs vs → AreSettled g s vs ts → CasesTold g s cs (flat_map told_line ts)
  all_told [] [] [] seen settles = refl
  all_told [] [] (t ∷ ts) seen settles = absurd settles
  all_told [] (v ∷ vs) ts seen settles = absurd seen
  all_told (c ∷ cs) [] ts seen settles = absurd seen
  all_told (c ∷ cs) (v ∷ vs) [] seen settles = absurd settles
  all_told (c ∷ cs) (v ∷ vs) (t ∷ ts) seen settles = (
    told_line t,
    flat_map told_line ts,
    refl,
    one_told c.seq t.seq v.verdict t.verdict (settles.0 ∙ seen.0) seen.1 (subst (λ (n : ℕ). IsSettled g s n v.verdict t.verdict) seen.0 settles.1),
    all_told cs vs ts seen.2 settles.2,
  )

module _ {S : Type 0} (g : shared.Ghosts S) (s t : S) (looks : LooksAnew g s t) {D : Type 0} (U : disk.Ghosts D) (again : D) (honest0 : IsTrue (g.is_honest t) → IsTrue (U.is_honest again)) (seen0 : U.seen again ≡ g.looked t)
    (a : Parts D) (call : OpenCall U 0 again (Ok a)) where
  -- the cases of the next opening are those that are there at the next look
  pub has_later : (n : ℕ) → true ≡ has_number (state_of a) n → Meanwhile g s (λ x ys. HasOne (last_state x ys) n)
  has_later n there shape x ys honest holds =
      numbered_there U again (g.looked t) (last_state x ys) a n (honest0 (looks.honesty ∙ honest)) seen0 call (stands_for shape (g.looked t) (last_state x ys) (holds.last (g.looked t) (looks.next honest))) there

  pub none_later : (n : ℕ) → false ≡ has_number (state_of a) n → Meanwhile g s (λ x ys. HasNone (last_state x ys) n)
  none_later n there shape x ys honest holds =
      numbered_nowhere U again (g.looked t) (last_state x ys) a n (honest0 (looks.honesty ∙ honest)) seen0 call (stands_for shape (g.looked t) (last_state x ys) (holds.last (g.looked t) (looks.next honest))) call.state.runs there

-- the same look, by other names
pub looked_back : {S : Type 0} (g : shared.Ghosts S) (U : disk.Ghosts (Unlocked S g)) (t s : S) (cases seen : List SeenCase) (r : Result (Vec ToldCase Global) UnlockedCheckFault) → t ≡ s → cases ≡ seen → LooksBack g U t cases r → LooksBack g U s seen r
looked_back g U t s cases seen r is same looks = subst (λ x. LooksBack g U x seen r) is (subst (λ (cs : List SeenCase). LooksBack g U t cs r) same looks)

pub settled_back : {S : Type 0} (g : shared.Ghosts S) (t s : S) (cases seen : List SeenCase) (told : List ToldCase) → t ≡ s → cases ≡ seen → AreSettled g t cases told → AreSettled g s seen told
settled_back g t s cases seen told is same settles = subst (λ x. AreSettled g x seen told) is (subst (λ (cs : List SeenCase). AreSettled g t cs told) same settles)

module _ {S : Type 0} (g : shared.Ghosts S) (U : disk.Ghosts (Unlocked S g)) (s : S) (sees : Bool) where
  -- nothing was told
  pub refused_first : (taken : Option (List ℕ)) (lost : ℕ) (e : UnlockedCheckFault) → Examines g U s sees (Err e) → ChecksUnlocked g U s sees taken taken lost lost (Err e)
  refused_first taken lost (fault.Open f) why = (refl, refl, why)
  refused_first taken lost (fault.Archive f) why = (refl, refl, why)
  refused_first taken lost _ why = absurd why

  pub refused_last : (taken : Option (List ℕ)) (lost : ℕ) (f : Findings) (e : UnlockedCheckFault) → Examines g U s sees (Ok f) → LooksBack g U s f.cases.items (Err e) → ChecksUnlocked g U s sees taken taken lost lost (Err e)
  refused_last taken lost f (fault.Archive why) seen is = (refl, refl, subst IsReadFault (sym is) tt)
  refused_last taken lost f (fault.Look why) seen some = (refl, refl, asked (IsSeen g s) (state_of seen.3) sees f.cases.items seen.6 some)
  refused_last taken lost f (fault.Reopen why) seen some = (refl, refl, asked (IsSeen g s) (state_of seen.3) sees f.cases.items seen.6 some.0, some.1)
  refused_last taken lost f _ seen why = absurd why

  -- the text of what was found
  is_text : (f : Findings) (told : List ToldCase) → Examines g U s sees (Ok f) → AreSettled g s f.cases.items told → IsCheckText g U s sees (report_text f told)
  is_text f told seen settles = (
    seen.0,
    seen.1,
    seen.2,
    seen.3,
    seen.4,
    f.space,
    seen.5.free,
    flat_map told_line told,
    all_told g s (cases_seen (state_of seen.3) sees) f.cases.items told seen.6 settles,
    ap (λ (v : ℕ). facts_lines v f.count f.space ++ (flat_map told_line told ++ codes "sound\n")) seen.5.version
        ∙ ap (λ (n : ℕ). facts_lines (state_of seen.3).version n f.space ++ (flat_map told_line told ++ codes "sound\n")) seen.5.count,
  )

  pub reported : (f : Findings) (told : List ToldCase) (taken taken' : Option (List ℕ)) (lost lost' : ℕ) (r : Result (Unit {0}) UnlockedCheckFault) → Examines g U s sees (Ok f) → AreSettled g s f.cases.items told → Reports f told taken taken' lost lost' r
      → ChecksUnlocked g U s sees taken taken' lost lost' r
  reported f told taken taken' lost lost' (Ok u) seen settles states = (report_text f told, is_text f told seen settles, states)
  reported f told taken taken' lost lost' (Err fault.Output) seen settles states = (report_text f told, is_text f told seen settles, states.0, states.1)
  reported f told taken taken' lost lost' (Err _) seen settles states = absurd states
