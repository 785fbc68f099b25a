-- The function of an executable that an address belongs to, or else that of its debug file.
use Rattle.std.specs.Prelude.{ℕ, List, Option, Result}
use Rattle.std.specs.Option.{option_and_then, option_or}
use Rattle.symbols.specs.Names.{symbol_in}
use Rattle.memory_replies.specs.Naming.{debug_symbol}
use Rattle.memory_replies.specs.Symbol.{answer_unless, executable_fault, found_answer}

-- `symbol`, with a debug file if there is one: it is asked only if no function of the executable has the address
unfoldable pub symbol_with_debug : List ℕ → Option (List ℕ) → ℕ → Result (List ℕ) (List ℕ)
symbol_with_debug b debug v = answer_unless (executable_fault b) (found_answer (option_or (symbol_in b v) (option_and_then (debug_symbol v) debug)))
