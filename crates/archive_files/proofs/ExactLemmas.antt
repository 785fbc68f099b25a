-- What a check of the images has told.
use Rattle.std.proofs.Common.{◌≡◌, ◌∙◌, ◌⊎◌, ℕ, true, List, [], ◌∷◌, ◌++◌, length, map, inl, inr, refl, sym, ap, subst, Option, Ok, IsTrue, codes}
use Rattle.std.proofs.lemmas.List.{length-map}
use Rattle.std.specs.Io.KnownBytes.{Appends}
use Rattle.disk_model.specs.declared.disk.Disk as disk
use Rattle.intake.specs.Durable.{Durable, FoundCase, durable_of, found_case}
use Rattle.intake.specs.InTurn.{last_state}
use Rattle.intake.specs.Lives.{IsAmong}
use Rattle.intake.specs.Parts.{state_of}
use Rattle.intake.specs.declared.space.Space.{Space}
use Rattle.journal_layout.specs.Case.{Case}
use Rattle.journal_layout.specs.declared.shape.Shape.{Shape}
use Rattle.shared_disk.specs.Looks.{under}
use Rattle.shared_disk.specs.declared.shared.SharedDisk as shared
use Rattle.shared_disk.specs.declared.unlocked.Unlocked.{Unlocked}
use Rattle.archive_checks.specs.Texts.{facts_lines}
use Rattle.archive_checks.specs.Verdicts.{verdict_line}
use Rattle.archive_files.specs.UnlockedChecks.{CasesTold, ChecksUnlocked, ToldAsGone, ToldAsThere}
use Rattle.archive_files.specs.Exact.{AreLinesOf, IsLineOf}
use Rattle.archive_files.specs.History.{HoldsArchive}
use Rattle.archive_files.proofs.UnlockedCopyLemmas.{opened_holds}

module _ {S : Type 0} (g : shared.Ghosts S) (s : S) (shape : Shape) (x : Durable) (ys : List Durable) (honest : IsTrue (g.is_honest s)) (holds : HoldsArchive g s shape x ys) where
  line_of : (f : FoundCase) (line : List ℕ) → IsAmong x.cases f → ToldAsThere g s f.case.seq line ⊎ ToldAsGone g s f.case.seq line → IsLineOf (last_state x ys) f line
  line_of f line among (inl there) =
      let here = there.2 shape x ys honest holds in
      inl (here.0, there.1 ∙ ap (verdict_line f.case.seq) (here.1.1 f (among, refl)))
  line_of f line among (inr gone) = inr (gone.1 shape x ys honest holds, gone.0)

  lines_of : (first : Shape) (bytes : List ℕ) (cs : List Case) (lines : List ℕ) → ((f : FoundCase) → IsAmong (map (found_case first bytes) cs) f → IsAmong x.cases f) → CasesTold g s cs lines
      → AreLinesOf (last_state x ys) (map (found_case first bytes) cs) lines
  lines_of first bytes [] lines among told = told
  lines_of first bytes (c ∷ cs) lines among told = (
    told.0,
    told.1,
    told.2,
    line_of (found_case first bytes c) told.0 (among (found_case first bytes c) (inl refl)) told.3,
    lines_of first bytes cs told.1 (λ f here. among f (inr here)) told.4,
  )

  pub exact : (U : disk.Ghosts (Unlocked S g)) → ((d : Unlocked S g) → under d ≡ s → U.seen d ≡ g.looked s) → (taken taken' : Option (List ℕ)) (lost lost' : ℕ) → ChecksUnlocked g U s true taken taken' lost lost' (Ok tt)
      → (space : Space) × (lines : List ℕ) × AreLinesOf (last_state x ys) x.cases lines × Appends taken taken' (facts_lines x.version (length x.cases) space ++ (lines ++ codes "sound\n"))
  exact U shown taken taken' lost lost' checks =
      let text = checks.1 in
      let a = text.3 in
      let first = a.journal.standing.shape in
      let bytes = U.seen a.disk in
      let cases = a.journal.standing.cases in
      let found : durable_of U.seen a ≡ x = opened_holds U text.0 (g.looked s) shape x (text.2 shape x ys honest holds) (shown text.0 text.1) holds.first a text.4 in (
        text.5,
        text.7,
        subst (λ (y : Durable). AreLinesOf (last_state x ys) y.cases text.7) found
            (lines_of first bytes cases text.7 (λ f here. subst (λ (y : Durable). IsAmong y.cases f) found here) text.8),
        subst (Appends taken taken')
            (text.9
            ∙ ap (λ (n : ℕ). facts_lines (state_of a).version n text.5 ++ (text.7 ++ codes "sound\n")) (sym (length-map cases (found_case first bytes)))
            ∙ ap (λ (y : Durable). facts_lines y.version (length y.cases) text.5 ++ (text.7 ++ codes "sound\n")) found)
            checks.2,
      )
