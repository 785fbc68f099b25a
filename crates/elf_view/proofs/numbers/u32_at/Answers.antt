use Rattle.std.proofs.Common.{◌∙◌, ◌-◌, length, arith}
use Rattle.elf_view.proofs.Fields.{reads_field}
use Rattle.elf_view.proofs.numbers.u32_at.Goals as goal

pub returns : goal.returns
returns c =
    let b = c.args.bytes.now in
    c.read_u32.ensures ∙ reads_field b c.args.at (length b - c.args.at) 4 (omega arith)
