use Rattle.std.proofs.Common.{refl, sym, ap, true≢false}
use Rattle.memory_replies.specs.Answers.{had_memory}
use Rattle.memory_replies.proofs.AnswerLemmas.{refused}
use Rattle.memory_replies.proofs.SymbolLemmas.{elf_told, fault_is, found_told, named_is, table_told, told_by}
use Rattle.memory_replies.proofs.symbol.print_symbol_with_debug.Goals as goal

pub returns-in-Err : goal.returns-in-Err
returns-in-Err g c = (_, (refused _ _ (elf_told _ _ _ _ c.in-Err.ensures.fault), (λ none. absurd (true≢false (ap had_memory none)))), c.print_elf_fault.ensures)

pub returns-in-Err-Fault : goal.returns-in-Err-Fault
returns-in-Err-Fault g c = (
  _,
  (refused _ _ (table_told _ _ _ _ (fault_is _ _ _ c.in-Ok.ensures.fault c.in-Ok.ensures.image (rw c.in-Err-Fault.field-0-is at c.in-Err-Fault.ensures.fault))), (λ none. absurd (true≢false (ap had_memory none)))),
  rw c.in-Err-Fault.field-0-is at c.print_symbol_fault.ensures,
)

pub returns : goal.returns
returns g c = (
  _,
  (refl, (λ none. sym (fault_is _ _ _ c.in-Ok.ensures.fault c.in-Ok.ensures.image (rw c.in-Err-OutOfMemory.field-0-is at c.in-Err-OutOfMemory.ensures.fault)))),
  c.print_no-in-Err-OutOfMemory.ensures,
)

pub returns-in-Ok-symbol_at : goal.returns-in-Ok-symbol_at
returns-in-Ok-symbol_at g c =
    let sound = fault_is _ _ _ c.in-Ok.ensures.fault c.in-Ok.ensures.image c.in-Ok-read.ensures.fault in
    let own = named_is _ _ _ _ _ c.in-Ok.ensures.image c.in-Ok-read.ensures.strings c.in-Ok-read.ensures.functions in
    (_, (rw c.outcome_by.ensures (told_by _ _ _ c.print_found-done.ensures.done (found_told c.args.image.now c.args.debug c.args.address _ _ sound own c.in-Ok-symbol_at.ensures)), λ none. sym sound), c.print_found-done.ensures.states)

pub returns-in-Ok-read : goal.returns-in-Ok-read
returns-in-Ok-read g c =
    (_, (refl, (λ none. sym (fault_is _ _ _ c.in-Ok.ensures.fault c.in-Ok.ensures.image c.in-Ok-read.ensures.fault))), c.print_no.ensures)
