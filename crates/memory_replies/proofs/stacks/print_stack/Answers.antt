use Rattle.std.proofs.Common.{[], ◌∷◌, ◌++◌, cond, ap, sym, ◌∙◌}
use Rattle.std.specs.Prelude.{codes, decimal}
use Rattle.address_space.specs.PieceWords.{mapping_view}
use Rattle.thread_regs.specs.Register.{register_in}
use Rattle.thread_regs.specs.ThreadWords.{thread_bytes}
use Rattle.script_streams.specs.PrintLaws.{prints_then, prints_as, prints_nothing}
use Rattle.memory_replies.specs.At.{has_address, stack_line}
use Rattle.memory_replies.proofs.stacks.print_stack.Goals as goal

pub returns-then-has_address : goal.returns-then-has_address
unfolding stack_line
returns-then-has_address g c =
    let m = mapping_view c.args.mapping.now in
    let desc = thread_bytes c.args.thread.now in
    prints_as
    (ap (λ t. cond t (codes "stack " ++ (decimal c.args.index ++ 10 ∷ [])) []) (sym c.if-has_address.true ∙ c.has_address.ensures ∙ ap (λ a. has_address a m) (c.register-sp.ensures ∙ ap (register_in desc) c.of_word.ensures)))
    (prints_then c.print.ensures (prints_then c.print_decimal.ensures c.print-then-has_address.ensures))

pub returns-else-has_address : goal.returns-else-has_address
unfolding stack_line
returns-else-has_address g c =
    let m = mapping_view c.args.mapping.now in
    let desc = thread_bytes c.args.thread.now in
    prints_as
    (ap (λ t. cond t (codes "stack " ++ (decimal c.args.index ++ 10 ∷ [])) []) (sym c.if-has_address.false ∙ c.has_address.ensures ∙ ap (λ a. has_address a m) (c.register-sp.ensures ∙ ap (register_in desc) c.of_word.ensures)))
    prints_nothing
