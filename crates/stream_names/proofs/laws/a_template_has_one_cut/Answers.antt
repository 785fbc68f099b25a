use Rattle.std.proofs.Common.{◌≡◌, ◌≢◌, ℕ, ◌==◌, false, List, [], ◌∷◌, refl, sym, ap, ◌∙◌, ⊎_elim, eqb-true}
use Rattle.std.proofs.lemmas.Bool.{cases_Bool, true≢false}
use Rattle.std.specs.List.{flat_map}
use Rattle.stream_names.specs.declared.part.Part.{Part}
use Rattle.stream_names.specs.declared.part.Part.TheVariants.{Letter, Lone, Plain}
use Rattle.stream_names.specs.Template.{parts_of, spelling, AreParts}
use Rattle.stream_names.proofs.laws.a_template_has_one_cut.Goals as goal

not_percent : (c : ℕ) → (c == 37) ≡ false → c ≢ 37
not_percent c other is = let e : (37 == 37) ≡ false = rw is at other in absurd (true≢false e)

joined_parts : (parts : List Part) → List ℕ
joined_parts parts = flat_map spelling parts

found : (template : List ℕ) → AreParts (parts_of template) × (flat_map spelling (parts_of template) ≡ template)
found [] = (tt, refl)
found (c ∷ []) =
    ⊎_elim
    (λ is. rw (is, eqb-true c 37 is) (refl, refl))
    (λ other. rw other ((not_percent c other, tt), refl))
    (cases_Bool (c == 37))
found (c ∷ d ∷ cs) =
    ⊎_elim
    (λ is. let rest = found cs in rw is (rest.0, ap (λ x. x ∷ d ∷ flat_map spelling (parts_of cs)) (sym (eqb-true c 37 is)) ∙ ap (λ ds. c ∷ d ∷ ds) rest.1))
    (λ other. let rest = found (d ∷ cs) in rw other ((not_percent c other, rest.0), ap (λ ds. c ∷ ds) rest.1))
    (cases_Bool (c == 37))

plain_first : (c : ℕ) (cs : List ℕ) → (c == 37) ≡ false → parts_of (c ∷ cs) ≡ Plain c ∷ parts_of cs
plain_first c [] other = rw other
plain_first c (d ∷ cs) other = rw other

percent_test : (c : ℕ) → c ≢ 37 → (c == 37) ≡ false
percent_test c ne = ⊎_elim (λ is. absurd (ne (eqb-true c 37 is))) (λ other. other) (cases_Bool (c == 37))

again : (parts : List Part) → AreParts parts → parts ≡ parts_of (flat_map spelling parts)
again [] stand = refl
again (Letter c ∷ parts) stand = ap (λ ps. Letter c ∷ ps) (again parts stand)
again (Lone ∷ []) stand = refl
again (Lone ∷ part ∷ parts) stand = cc
again (Plain c ∷ parts) stand =
    ap (λ ps. Plain c ∷ ps) (again parts stand.1) ∙ sym (plain_first c (flat_map spelling parts) (percent_test c stand.0))

pub returns : goal.returns
returns c = record {
  found = λ template. let parts = found template in record { parts_stand = parts.0; joined = parts.1 };
  only = λ template parts cut. again parts cut.parts_stand ∙ ap parts_of cut.joined;
}
