use Rattle.std.proofs.Common.{refl}
use Rattle.elf_view.specs.ViewWords.{image_of}
use Rattle.memory_replies.proofs.NamingLemmas.{functions_read, no_functions, no_strings, strings_read}
use Rattle.memory_replies.proofs.SymbolLemmas.{fault_is}
use Rattle.memory_replies.proofs.functions.Functions.read.Goals as goal

pub invariant_of-result : goal.invariant_of-result
invariant_of-result c =
    let image = image_of c.args.elf in
    let sound = fault_is image image _ c.requires refl c.in-Ok.ensures.fault in
    record { functions = functions_read image _ sound c.in-Ok.ensures.functions; strings = strings_read image _ sound c.in-Ok.ensures.strings }

pub invariant_of-result-in-Err-Fault : goal.invariant_of-result-in-Err-Fault
invariant_of-result-in-Err-Fault c =
    let image = image_of c.args.elf in
    let fault = fault_is image image _ c.requires refl (rw c.in-Err-Fault.field-0-is at c.in-Err-Fault.ensures.fault) in
    record { functions = no_functions image _ fault; strings = no_strings image _ fault }
