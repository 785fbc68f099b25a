-- How a line that was kept in front ends.
use Rattle.std.proofs.Common.{ℕ, List, [], ◌∷◌, ◌++◌, Option, Some, Ok, Err, subst, sym, append_assoc}
use Rattle.script_streams.specs.Lines.{IsLine}
use Rattle.script_streams.specs.Reading.{Gives, GivesLine}
use Rattle.script_streams.specs.GoingOn.{GoesOn}
use Rattle.script_streams.specs.declared.kept_line.KeptLine.{KeptLine}
use Rattle.script_streams.specs.declared.reader.ScriptBuffer.{ScriptBuffer}
use Rattle.script_streams.specs.declared.reader.LineEnding.{LineEnding}
use Rattle.script_streams.specs.declared.reader.LineEnding.TheVariants.{Newline, EndOfInput, NothingLeft}
use Rattle.script_streams.specs.declared.reader.ReadStop.{ReadStop}
use Rattle.script_streams.proofs.ReadingLemmas.{gives_then, is_line_append}

module _ (front : List ℕ) (a b c : Option (List ℕ)) (old mid new : ScriptBuffer) (kept : KeptLine) (line : IsLine front) (gives : Gives a b old mid front) where
  pub line_ended : (ending : LineEnding) → GoesOn front b c mid new kept (Ok (Some ending)) → GivesLine a c old new kept (Ok ending)
  line_ended Newline t = (
    front ++ t.0,
    is_line_append front t.0 line t.1,
    t.2,
    subst (Gives a c old new) (sym (append_assoc front t.0 (10 ∷ []))) (gives_then a b c old mid new front (t.0 ++ 10 ∷ []) gives t.3),
  )
  line_ended EndOfInput t = (
    front ++ t.0,
    is_line_append front t.0 line t.1,
    t.2,
    t.3,
    gives_then a b c old mid new front t.0 gives t.4,
    t.5,
  )
  line_ended NothingLeft t = (
    subst (Gives a c old new) t.1 (gives_then a b c old mid new front t.0 gives t.2),
    t.3,
  )

  pub line_stopped : (stop : ReadStop) → GoesOn front b c mid new kept (Err stop) → GivesLine a c old new kept (Err stop)
  line_stopped stop t = (
    front ++ t.0,
    is_line_append front t.0 line t.1,
    gives_then a b c old mid new front t.0 gives t.2,
    t.3,
  )
