-- Scripts over archives that hold the same get the same texts.
use Rattle.std.proofs.Common.{◌≡◌, ℕ, zero, suc, List, [], ◌∷◌, ◌++◌, sym, ap, subst, ◌∙◌, append_assoc}
use Rattle.std.proofs.lemmas.List.{append-nil}
use Rattle.std.specs.Prelude.{IsTrue}
use Rattle.disk_model.specs.declared.disk.Disk as disk
use Rattle.intake.specs.Parts.{Parts}
use Rattle.script_lines.specs.Said.{Said, part_of, raw_length, said}
use Rattle.stream_names.specs.declared.naming.Naming.{Naming}
use Rattle.inspector_cli.specs.Agreement.{HasFree, HoldSame, IsFree, LinesAgree, ScriptsAgree}
use Rattle.inspector_cli.specs.Cuts.{HasOneCut}
use Rattle.inspector_cli.specs.Session.{AnswersItems, EndReplies, Ending, Item, LastReplies, Truncates, last_stage, complete, last_line, cut_part}
use Rattle.inspector_cli.specs.Stages.{Stage}

-- a text without free replies
front_bound : (a b : List ℕ) → (HasFree (a ++ b) → ⊥) → HasFree a → ⊥
front_bound a b bound free = bound (free.0, free.1, free.2 ++ b, free.3, ap (λ (l : List ℕ). l ++ b) free.4 ∙ append_assoc free.0 (free.1 ++ free.2) b ∙ ap (λ (l : List ℕ). free.0 ++ l) (append_assoc free.1 free.2 b))

back_bound : (a b : List ℕ) → (HasFree (a ++ b) → ⊥) → HasFree b → ⊥
back_bound a b bound free = bound (a ++ free.0, free.1, free.2, free.3, ap (λ (l : List ℕ). a ++ l) free.4 ∙ sym (append_assoc a free.0 (free.1 ++ free.2)))

one_bound : (reply : List ℕ) → (HasFree reply → ⊥) → IsFree reply → ⊥
one_bound reply bound free = bound ([], reply, [], free, sym (append-nil reply))

module _ {D E : Type 0} (g : disk.Ghosts D) (h : disk.Ghosts E) (lines : LinesAgree g h) (naming : Naming) where
  -- both, and whether they are honest
  record Both (a : Parts D) (b : Parts E) : Type 0 where
    pub honest : IsTrue (g.is_honest a.disk)
    pub honest' : IsTrue (h.is_honest b.disk)
    pub same : HoldSame g h a b

  items_agree : (items : List Item) (old : Stage D) (stages : List (Stage D)) (old' : Stage E) (stages' : List (Stage E)) (out out' : List ℕ) → Both old.archive old'.archive
      → AnswersItems g naming old items out stages → AnswersItems h naming old' items out' stages' → (HasFree out → ⊥) → (HasFree out' → ⊥)
      → (out' ≡ out) × Both (last_stage old stages).archive (last_stage old' stages').archive
  items_agree [] old [] old' [] out out' both is is' bound bound' = (is' ∙ sym is, both)
  items_agree [] old [] old' (t ∷ ts) out out' both is is' bound bound' = absurd is'
  items_agree [] old (s ∷ ss) old' stages' out out' both is is' bound bound' = absurd is
  items_agree (i ∷ items) old [] old' stages' out out' both is is' bound bound' = absurd is
  items_agree (i ∷ items) old (s ∷ ss) old' [] out out' both is is' bound bound' = absurd is'
  items_agree (i ∷ items) old (s ∷ ss) old' (t ∷ ts) out out' both (reply, more, answers, moves, rest, is) (reply', more', answers', moves', rest', is') bound bound' =
      let b = subst (λ (l : List ℕ). HasFree l → ⊥) is bound in
      let b' = subst (λ (l : List ℕ). HasFree l → ⊥) is' bound' in
      let line = lines naming old.archive s.archive old'.archive t.archive (said i.line) i.raw reply reply' both.honest both.honest' both.same answers answers'
      (one_bound reply (front_bound reply more b)) (one_bound reply' (front_bound reply' more' b')) in
      let others = items_agree items s ss t ts more more' (record { honest = moves.passes.honesty ∙ both.honest; honest' = moves'.passes.honesty ∙ both.honest'; same = line.1 }) rest rest'
      (back_bound reply more b) (back_bound reply' more' b') in
      (is' ∙ ap (λ (l : List ℕ). l ++ more') line.0 ∙ ap (λ (l : List ℕ). reply ++ l) others.0 ∙ sym is, others.1)

  truncated_alike : (old new : Parts D) (old' new' : Parts E) (what : Said) (raw reply reply' : List ℕ) → Truncates g old what raw reply new → Truncates h old' what raw reply' new' → reply' ≡ reply
  truncated_alike old new old' new' (part_of slot n) raw reply reply' cut cut' = cut'.5 ∙ sym cut.5
  truncated_alike old new old' new' _ raw reply reply' cut cut' = absurd cut

  last_agrees : (n : ℕ) (old new : Parts D) (old' new' : Parts E) (what : Said) (reply reply' : List ℕ) → Both old old' → LastReplies g naming n old what reply new → LastReplies h naming n old' what reply' new' → (IsFree reply → ⊥) → (IsFree reply' → ⊥) → reply' ≡ reply
  last_agrees zero old new old' new' what reply reply' both answers answers' bound bound' = (lines naming old new old' new' what [] reply reply' both.honest both.honest' both.same answers answers' bound bound').0
  last_agrees (suc n) old new old' new' what reply reply' both cut cut' bound bound' = truncated_alike old new old' new' what [] reply reply' cut cut'

  end_agrees : (ending : Ending) (old new : Parts D) (old' new' : Parts E) (reply reply' : List ℕ) → Both old old' → EndReplies g naming old ending reply new → EndReplies h naming old' ending reply' new' → (IsFree reply → ⊥) → (IsFree reply' → ⊥) → reply' ≡ reply
  end_agrees complete old new old' new' reply reply' both is is' bound bound' = is'.0 ∙ sym is.0
  end_agrees (last_line line) old new old' new' reply reply' both answers answers' bound bound' = last_agrees (raw_length (said line)) old new old' new' (said line) reply reply' both answers answers' bound bound'
  end_agrees (cut_part line raw) old new old' new' reply reply' both cut cut' bound bound' = truncated_alike old new old' new' (said line) raw reply reply' cut cut'

pub scripts_agree : {D E : Type 0} (g : disk.Ghosts D) (h : disk.Ghosts E) → LinesAgree g h → HasOneCut → ScriptsAgree g h
scripts_agree {D} {E} g h lines one_cut naming script text text' old new stages old' new' stages' honest honest' same all all' bound bound' =
    let cut = one_cut all.items all'.items all.ending all'.ending all.each all'.each all.ends all'.ends (sym all.cut ∙ all'.cut) in
    let b = subst (λ (l : List ℕ). HasFree l → ⊥) all.text bound in
    let b' = subst (λ (l : List ℕ). HasFree l → ⊥) all'.text bound' in
    let items = items_agree g h lines naming all.items old stages old' stages' all.replies all'.replies (record { honest = honest; honest' = honest'; same = same }) all.run
    (subst (λ (x : List Item). AnswersItems h naming old' x all'.replies stages') (sym cut.0) all'.run) (front_bound all.replies all.last b) (front_bound all'.replies all'.last b') in
    let end = end_agrees g h lines naming all.ending (last_stage old stages).archive new.archive (last_stage old' stages').archive new'.archive all.last all'.last items.1 all.final
    (subst (λ (x : Ending). EndReplies h naming (last_stage old' stages').archive x all'.last new'.archive) (sym cut.1) all'.final)
    (one_bound all.last (back_bound all.replies all.last b)) (one_bound all'.last (back_bound all'.replies all'.last b')) in
    all'.text ∙ ap (λ (l : List ℕ). l ++ all'.last) items.0 ∙ ap (λ (l : List ℕ). all.replies ++ l) end ∙ sym all.text
