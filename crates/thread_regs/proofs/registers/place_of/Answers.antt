use Rattle.std.proofs.Common.{◌∙◌, Bor, List, ℕ}
use Rattle.std.specs.Str.{bytes_eq}
use Rattle.thread_regs.proofs.NameTables.{position-map}
use Rattle.thread_regs.proofs.registers.place_of.Goals as goal

pub returns : goal.returns
returns c =
    c.find_name.ensures ∙ position-map (λ (n : Bor (List ℕ)). n.now) (λ n. bytes_eq n c.args.name.now) c.args.names.now
