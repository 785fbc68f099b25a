use Rattle.std.proofs.Common.{◌≡◌, ap, sym, ◌∙◌, length, min, take, arith}
use Rattle.std.proofs.lemmas.List.{take_min}
use Rattle.elf_view.specs.ViewWords.{notes_of}
use Rattle.elf_view.specs.declared.faults.Want.TheVariants.{Core}
use Rattle.image_replies.specs.CoreWords.{core_bytes}
use Rattle.core_notes.specs.Typed.{all_descs, first_desc}
use Rattle.thread_regs.specs.ThreadWords.{threads_left}
use Rattle.script_streams.specs.PrintLaws.{prints_then, prints_as}
use Rattle.case_screens.specs.Core.{files_in}
use Rattle.case_screens.specs.Frames.{each_thread, thread_count, threads_rest}
use Rattle.case_screens.proofs.ThreadLemmas.{shown_some}
use Rattle.case_screens.proofs.threads.print_shown.Goals as goal

pub returns : goal.returns
returns g c =
    let notes = notes_of Core (core_bytes c.args.core.now) in
    let all = c.args.unwound.now in
    let descs = all_descs 1 notes in
    let files = files_in (first_desc 0x46494c45 notes) in
    let some = shown_some notes all (sym c.is_empty.ensures ∙ c.if-is_empty.false) in
    let most : c.min.result ≡ min 256 (length all) = omega (arith, c.min.ensures) in
    let first = c.split_at.result.0.now in
    let counted = c.thread_count-count.result in
    let left = threads_left c.threads.result in
    let shown : first ≡ take 256 all = c.split_at.ensures.front ∙ ap (λ n. take n all) most ∙ take_min 256 all in
    let is =
    ap (λ ds. each_thread (files_in ds) counted left first) (c.files.ensures ∙ ap (first_desc 0x46494c45) c.notes.ensures)
    ∙ ap (λ n. each_thread files n left first) c.thread_count-count.ensures
    ∙ ap (λ ts. each_thread files (thread_count descs) ts first) (c.threads.ensures ∙ ap (all_descs 1) c.notes-2.ensures)
    ∙ ap (each_thread files (thread_count descs) descs) shown in
    let rest = ap (λ n. threads_rest n (length all)) c.thread_count-count.ensures in
    prints_as (sym some) (prints_then (prints_as is c.print_each.ensures) (prints_as rest c.print_threads_rest.ensures))
