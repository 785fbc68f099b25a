use Rattle.std.proofs.Common.{List, ℕ, Option, drop}
use Rattle.std.specs.Option.{option_copied}
use Rattle.command_line.specs.Requesting.{IsStatedBy}
use Rattle.command_line.proofs.handle_words.stated_length.Given as goal

-- whatever the pairs that are left state behind the length so far, all state
abbrev pub invariant-loop-pair : goal.invariant-loop-pair
invariant-loop-pair l =
    (last : Option (List ℕ)) → IsStatedBy (option_copied l.stated) (drop l.pair-index l.pairs) last → IsStatedBy (option_copied l.option) l.pairs last
