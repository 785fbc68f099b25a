use Rattle.std.proofs.Common.{◌∙◌, ◌-◌, length, arith}
use Rattle.elf_view.proofs.Fields.{reads_field}
use Rattle.elf_view.proofs.numbers.u64_at.Goals as goal

pub returns : goal.returns
returns c =
    let b = c.args.bytes.now in
    c.read_u64.ensures ∙ reads_field b c.args.at (length b - c.args.at) 8 (omega arith)
