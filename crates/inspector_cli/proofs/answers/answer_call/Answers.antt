use Rattle.std.proofs.Common.{refl}
use Rattle.intake.specs.Parts.{state_of}
use Rattle.archive_replies.specs.Texts.{list_reply}
use Rattle.inspector_cli.proofs.AskLemmas.{plain_outcome, retire_outcome, free_outcome, list_outcome, outcome_as}
use Rattle.inspector_cli.proofs.answers.answer_call.Goals as goal

pub returns-in-Delete : goal.returns-in-Delete
returns-in-Delete g c =
    let told = c.answer_delete.ensures in
    rw c.in-Delete.is (told.0, (λ naming by_path. told.1.0), outcome_as _ told.0 _ told.1.0.2 (plain_outcome told.1.0.0 _ told.1.1), told.2)

pub returns-in-Pin : goal.returns-in-Pin
returns-in-Pin g c =
    let told = c.answer_pin.ensures in
    rw c.in-Pin.is (told.0, (λ naming by_path. told.1.0), outcome_as _ told.0 _ told.1.0.2 (plain_outcome told.1.0.0 _ told.1.1), told.2)

pub returns-in-Label : goal.returns-in-Label
returns-in-Label g c =
    let told = c.answer_label.ensures in
    rw c.in-Label.is (told.0, (λ naming by_path. told.1.0), outcome_as _ told.0 _ told.1.0.2 (plain_outcome told.1.0.0 _ told.1.1), told.2)

pub returns-in-Retire : goal.returns-in-Retire
returns-in-Retire g c =
    let told = c.answer_retire.ensures in
    rw c.in-Retire.is (told.0, (λ naming by_path. told.1.0), outcome_as _ told.0 _ told.1.0.2 (retire_outcome told.1.0.0 _ told.1.1), told.2)

pub returns-in-Upgrade : goal.returns-in-Upgrade
returns-in-Upgrade g c =
    let told = c.answer_upgrade.ensures in
    rw c.in-Upgrade.is (told.0, (λ naming by_path. told.1.0), outcome_as _ told.0 _ told.1.0.2 (plain_outcome told.1.0.0 _ told.1.1), told.2)

pub returns-in-CountFree : goal.returns-in-CountFree
returns-in-CountFree g c =
    let told = c.answer_free.ensures in
    rw c.in-CountFree.is (told.0, (λ naming by_path. told.1.0), outcome_as _ told.0 _ told.1.0.2 (free_outcome told.1.0.0 _ told.1.1), told.2)

pub returns-in-ListCases : goal.returns-in-ListCases
returns-in-ListCases g c =
    let s = state_of c.args.archive.now in
    rw c.in-ListCases.is (list_reply s.stopped s.version s.cases, (λ naming by_path. (refl, refl)), list_outcome s.stopped s.version s.cases _ c.answer_list.ensures.done, c.answer_list.ensures.states)
