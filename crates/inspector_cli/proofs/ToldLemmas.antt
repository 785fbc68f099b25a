-- A session's commands, each with its reply.
use Rattle.std.proofs.Common.{◌≡◌, ◌⊎◌, inl, inr, ⊎_elim, ℕ, List, [], ◌∷◌, ◌++◌, map, refl, sym, ap, subst, ◌∙◌}
use Rattle.std.proofs.lemmas.List.{append-nil}
use Rattle.std.specs.List.{flat_map, AllByRecursion}
use Rattle.disk_model.specs.declared.disk.Disk as disk
use Rattle.intake.specs.Parts.{Parts}
use Rattle.stream_names.specs.declared.naming.Naming.{Naming}
use Rattle.script_lines.specs.Said.{Said, silence}
use Rattle.inspector_cli.specs.Headline.{BreaksThere, EndsWhole}
use Rattle.inspector_cli.specs.Stages.{Stage}
use Rattle.inspector_cli.specs.Session.{BreaksOff, Item, IsItem, spelled, AnswersItems, Ending, EndReplies, last_stage, said_last, ending_text, AnswersAll, AnswersWhole, DropsStreams}
use Rattle.inspector_cli.specs.Stored.{IsToldAs}
use Rattle.inspector_cli.specs.Told.{Answer, Answers, Session}

breaks_there : {D : Type 0} (g : disk.Ghosts D) (old new : Parts D) (rest : List ℕ) → BreaksOff g old rest new → BreaksThere rest
breaks_there g old new rest broken = ⊎_elim (λ front. inl front.0) (λ cut. inr (cut.0, cut.1, cut.2, cut.3, cut.4)) broken

module _ {D : Type 0} (g : disk.Ghosts D) (naming : Naming) where
  abbrev Told : Stage D → List Item → List ℕ → List (Stage D) → Type 0
  Told old is out ss =
      (list : List Answer) × (map (λ (a : Answer). a.item) list ≡ is) × (flat_map (λ (a : Answer). a.reply) list ≡ out) × Answers g naming old list ss

  told : (old : Stage D) (is : List Item) (out : List ℕ) (ss : List (Stage D)) → AnswersItems g naming old is out ss → Told old is out ss
  told old [] out [] run = ([], refl, sym run, tt)
  told old [] out (s ∷ ss) run = absurd run
  told old (i ∷ is) out [] run = absurd run
  told old (i ∷ is) out (s ∷ ss) run =
      let more = told s is run.1 ss run.4 in (
        record { item = i; reply = run.0 } ∷ more.0,
        ap (λ (x : List Item). i ∷ x) more.1,
        ap (λ (x : List ℕ). run.0 ++ x) more.2 ∙ sym run.5,
        (run.2, run.3, more.3),
      )

  abbrev pub session_of : Stage D → List (Stage D) → Stage D → Parts D → List Answer → Said → List ℕ → Session D
  session_of old stages end new answers last reply =
      record { naming = naming; first = old; answers = answers; stages = stages; last = last; reply = reply; end = end; closed = new }

  abbrev pub IsSome : List ℕ → List ℕ → Stage D → List (Stage D) → Stage D → Parts D → Type 0
  IsSome read out old stages end new =
      (answers : List Answer) × (last : Said) × (reply : List ℕ) × IsToldAs g read out (session_of old stages end new answers last reply)

  -- how a script that was answered to its end ends
  abbrev pub EndsAs : Parts D → Said → List ℕ → Parts D → Type 0
  EndsAs old last reply new = (ending : Ending) × (last ≡ said_last ending) × EndReplies g naming old ending reply new

  -- a session with its replies, and where its script ends
  abbrev pub IsWholeTold : List ℕ → List ℕ → Session D → Type 0
  IsWholeTold read out s = (is : IsToldAs g read out s) × EndsWhole is.rest s.last

  pub all_told : (read out : List ℕ) (old : Stage D) (stages : List (Stage D)) (end : Stage D) (new : Parts D) → AnswersAll g naming read out old stages end → DropsStreams g end.archive new
      → (answers : List Answer) × (last : Said) × (reply : List ℕ) × IsWholeTold read out (session_of old stages end new answers last reply)
      × EndsAs (last_stage old stages).archive last reply end.archive
  all_told read out old stages end new all closes =
      let t = told old all.items all.replies stages all.run in (
        t.0,
        said_last all.ending,
        all.last,
        (
          record {
            had = record { answered = t.3; finishes = inl (all.ending, refl, all.final); moves = all.moves; closes = closes };
            each = subst (λ (is : List Item). AllByRecursion IsItem is) (sym t.1) all.each;
            rest = ending_text all.ending;
            ends = inl (all.ending, all.ends, refl, refl);
            cut = all.cut ∙ ap (λ (is : List Item). flat_map spelled is ++ ending_text all.ending) (sym t.1);
            text = all.text ∙ ap (λ (x : List ℕ). x ++ all.last) (sym t.2);
          },
          (all.ending, all.ends, refl, refl),
        ),
        (all.ending, refl, all.final),
      )

  pub whole_told : (read out : List ℕ) (old : Stage D) (stages : List (Stage D)) (end : Stage D) (new : Parts D) → AnswersWhole g naming read out old stages end → DropsStreams g end.archive new → IsSome read out old stages end new
  whole_told read out old stages end new whole closes =
      let t = told old whole.items out stages whole.run in (
        t.0,
        silence,
        [],
        record {
          had = record { answered = t.3; finishes = inr (whole.rest, refl, refl, whole.broken); moves = whole.moves; closes = closes };
          each = subst (λ (is : List Item). AllByRecursion IsItem is) (sym t.1) whole.each;
          rest = whole.rest;
          ends = inr (refl, breaks_there g (last_stage old stages).archive end.archive whole.rest whole.broken);
          cut = whole.cut ∙ ap (λ (is : List Item). flat_map spelled is ++ whole.rest) (sym t.1);
          text = sym t.2 ∙ sym (append-nil (flat_map (λ (a : Answer). a.reply) t.0));
        },
      )

  pub session_told : (read out : List ℕ) (old : Stage D) (stages : List (Stage D)) (end : Stage D) (new : Parts D)
      → AnswersAll g naming read out old stages end ⊎ AnswersWhole g naming read out old stages end → DropsStreams g end.archive new → IsSome read out old stages end new
  session_told read out old stages end new answers closes =
      ⊎_elim (λ all. (let t = all_told read out old stages end new all closes in (t.0, t.1, t.2, t.3.0))) (λ whole. whole_told read out old stages end new whole closes) answers
