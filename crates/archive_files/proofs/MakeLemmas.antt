-- An archive with no case is brought to version 2 of the layout.
use Rattle.std.proofs.Common.{◌≡◌, ⊎_elim, Ok, true, false, ap, subst, ◌∙◌, arith}
use Rattle.std.specs.Prelude.{IsTrue}
use Rattle.disk_model.specs.declared.disk.Disk as disk
use Rattle.intake.specs.Calls.{OpenCall, UpgradeCall, CloseCall}
use Rattle.intake.specs.Durable.{Durable, StandsFor, durable_of, durable_part, with_images}
use Rattle.intake.specs.Parts.{Parts, state_of, contents_of}
use Rattle.intake.specs.State.{ArchiveState}
use Rattle.intake.specs.Step.{anew_in_two}
use Rattle.journal_layout.specs.Standing.{Standing, fresh}
use Rattle.journal_layout.specs.Stands.{Stands}
use Rattle.journal_layout.specs.declared.shape.Half.TheVariants.{A}
use Rattle.journal_layout.specs.declared.shape.Shape.{Shape}
use Rattle.archive_files.specs.Making.{IsFresh, nothing_yet}

module _ {D : Type 0} (g : disk.Ghosts D) (shape : Shape) (before after : D) (opened new : Parts D) (u : Unit {0})
    (law : (a : Parts D) → durable_of g.seen a ≡ durable_part (state_of a) (contents_of g.seen a))
    (honest : IsTrue (g.is_honest before)) (stands : Stands (g.seen before) (fresh shape A 1 1))
    (opening : OpenCall g 0 before (Ok opened)) (call : UpgradeCall g opened (Ok u) new) (closing : CloseCall g new after) where
  found : opened.journal.standing ≡ fresh shape A 1 1
  found = opening.found (fresh shape A 1 1) honest stands

  anew : state_of new ≡ anew_in_two (state_of opened)
  anew =
      let one : (state_of opened).version ≡ 1 = ap (λ (s : Standing). s.version) found in
      ⊎_elim (λ two. let is : (state_of opened).version ≡ 2 = two.0 in absurd (omega (arith, one, is))) (λ up. up.2) call.step.1

  empty : durable_of g.seen new ≡ nothing_yet
  empty =
      law new
      ∙ ap (λ (s : ArchiveState). durable_part s (contents_of g.seen new)) anew
      ∙ ap (λ (s : Standing). record { cases = with_images s.cases (contents_of g.seen new).images; next = s.next; version = 2 }) found

  pub made_in_two : IsFresh g shape true after
  made_in_two =
      let runs : new.stopped ≡ false = ap (λ (s : ArchiveState). s.stopped) anew ∙ call.step.0 in
      let keeps : IsTrue (g.is_honest after) = ap g.is_honest closing.disk ∙ (call.changes.disk.honesty ∙ (opening.honesty ∙ honest)) in (
        subst (λ (x : Durable). StandsFor (g.seen after) x) empty (closing.stands runs keeps),
        λ c may. subst (λ (x : Durable). StandsFor c x) empty (closing.left runs keeps c may),
      )
