-- A case of a state, among those that an archive holds.
use Rattle.std.proofs.Common.{◌≡◌, inl, inr, ⊎_elim, ℕ, Bool, cond, List, [], ◌∷◌, map, Some, refl, ap, subst, None, sym, ◌∙◌}
use Rattle.std.proofs.lemmas.Bool.Decides.{eqb_tells}
use Rattle.intake.specs.Durable.{found_case}
use Rattle.intake.specs.Lives.{IsAmong}
use Rattle.intake.specs.Step as step
use Rattle.journal_layout.specs.Soundness.{case_numbered}
use Rattle.journal_layout.specs.Case.{Case}
use Rattle.journal_layout.specs.declared.shape.Shape.{Shape}
use Rattle.inspector_cli.specs.Headline as headline
use Rattle.inspector_cli.specs.StoreHeadline.{case_in}
use Rattle.inspector_cli.proofs.SlotLemmas.{some_same}

module _ (shape : Shape) (bytes : List ℕ) where
  pub is_found : (cs : List Case) (seq : ℕ) (c : Case) → case_numbered seq cs ≡ Some c → IsAmong (map (found_case shape bytes) cs) (found_case shape bytes c) × (c.seq ≡ seq)
  is_found [] seq c at = absurd (let e : None ≡ Some c = at in cc)
  is_found (k ∷ ks) seq c at =
      ⊎_elim
      (λ h.
      (let here : k ≡ c = some_same k c (subst (λ (t : Bool). cond t (Some k) (case_numbered seq ks) ≡ Some c) h.0 at) in
      (inl (ap (found_case shape bytes) (sym here)), ap (λ (x : Case). x.seq) (sym here) ∙ h.1)))
      (λ h.
      (let more = is_found ks seq c (subst (λ (t : Bool). cond t (Some k) (case_numbered seq ks) ≡ Some c) h.0 at) in
      (inr more.0, more.1)))
      (eqb_tells k.seq seq)

  pub briefs_are : (cs : List Case) → map step.brief_of cs ≡ map headline.brief_of (map (found_case shape bytes) cs)
  briefs_are [] = refl
  briefs_are (k ∷ ks) = ap (λ (xs : List _). step.brief_of k ∷ xs) (briefs_are ks)

  pub cases_are : (cs : List Case) → cs ≡ map case_in (map (found_case shape bytes) cs)
  cases_are [] = refl
  cases_are (k ∷ ks) = ap (λ (xs : List _). k ∷ xs) (cases_are ks)
