use Rattle.std.proofs.Common.{◌++◌, drop, length, sym, ◌∙◌, ap, rules}
use Rattle.std.proofs.lemmas.List.{length-drop}
use Rattle.elf_view.specs.NoteList.{note_rests, note_len}
use Rattle.elf_view.specs.Sound.{note_checks, first_fault_among}
use Rattle.elf_view.proofs.FirstFault.{item_passes, item_fails}
use Rattle.elf_view.proofs.NotePlaces.{rests_step, rests_none, note_len_above}
use Rattle.elf_view.proofs.checks.check_note_list.Goals as goal

pub returns-in-Err : goal.returns-in-Err
returns-in-Err c = λ others.
    let rest = c.loop-rest.rest.now in
    let step = ap (λ rests. rests ++ others) (rests_step rest (search rules)) in
    c.loop-rest.invariant others ∙ item_fails note_checks _ _ _ rest _ step c.in-Err.ensures.fault

pub loop-rest-smaller : goal.loop-rest-smaller
loop-rest-smaller c =
    let rest = c.loop-rest.rest.now in
    let above = note_len_above rest in
    let shorter = ap length c.in-Ok.ensures.behind ∙ length-drop (note_len rest) rest in search (rules, shorter)

pub loop-rest-preserved : goal.loop-rest-preserved
loop-rest-preserved c = λ others.
    let rest = c.loop-rest.rest.now in
    let step = ap (λ rests. rests ++ others) (rests_step rest (search rules)) in
    c.loop-rest.invariant others ∙ item_passes note_checks _ _ _ rest step c.in-Ok.ensures.fault
    ∙ ap (λ i. first_fault_among note_checks i (note_rests (drop (note_len rest) rest) ++ others)) (sym c.saturating_add-index.ensures)
    ∙ ap (λ behind. first_fault_among note_checks c.saturating_add-index.result (note_rests behind ++ others)) (sym c.in-Ok.ensures.behind)

pub returns : goal.returns
returns c = λ others.
    c.loop-rest.invariant others ∙ ap (λ rests. first_fault_among note_checks c.loop-rest.index (rests ++ others)) (rests_none c.loop-rest.rest.now (search rules))
