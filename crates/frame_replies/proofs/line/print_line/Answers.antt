use Rattle.std.proofs.Common.{None}
use Rattle.frame_replies.proofs.SourceLineLemmas.{answered, header_told, refused, section_told}
use Rattle.frame_replies.proofs.line.print_line.Goals as goal

pub returns-in-Err : goal.returns-in-Err
returns-in-Err g c = (_, refused _ _ (header_told _ _ _ _ c.in-Err.ensures.fault), c.print_elf_fault.ensures)

pub returns-in-Some : goal.returns-in-Some
returns-in-Some g c =
    (_, refused _ _ (section_told _ _ _ _ _ c.in-Ok.ensures.fault c.in-Ok.ensures.image c.in-Some.ensures), c.print_no.ensures)

pub returns : goal.returns
returns g c =
    let (text, told, states) = c.print_searched.ensures in
    (text, answered _ _ _ _ (section_told _ _ _ _ None c.in-Ok.ensures.fault c.in-Ok.ensures.image c.in_default.ensures) told, states)
