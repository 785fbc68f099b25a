-- The lines that ask about an address of an executable: they are answered by its own bytes or by the debug file of its build.
use Rattle.std.specs.Prelude.{ℕ, List, Option, Result}
use Rattle.frame_replies.specs.Line.{line_answer}
use Rattle.memory_replies.specs.SymbolDebug.{symbol_with_debug}
use Rattle.script_lines.specs.Queries.{QuerySaid, ask_line, ask_symbol_by_build}
use Rattle.case_queries.specs.declared.code.CodeQuery.{CodeQuery}
use Rattle.case_queries.specs.declared.code.CodeQuery.TheVariants.{Function, Line}

abbrev pub code_query : CodeQuery → ℕ → QuerySaid
code_query Function v = ask_symbol_by_build v
code_query Line v = ask_line v

-- the answer to the line, by the bytes of an executable and of its debug file, if there is one
abbrev pub code_answer : CodeQuery → List ℕ → Option (List ℕ) → ℕ → Result (List ℕ) (List ℕ)
code_answer Function b debug v = symbol_with_debug b debug v
code_answer Line b debug v = line_answer b debug v
