use Rattle.std.proofs.Common.{◌≡◌, ℕ, List, [], ◌++◌, Option, None, Some, refl, sym, ap, ◌∙◌, arith}
use Rattle.std.proofs.lemmas.List.{append-nil}
use Rattle.std.specs.Io.KnownBytes.{Consumes, IsAtEnd}
use Rattle.script_streams.proofs.ReadingLemmas.{gives_held, gives_then}
use Rattle.script_streams.proofs.laws.reading_adds_up.Goals as goal

-- a known input that is used up was read whole
all_read : (input read : List ℕ) (b : Option (List ℕ)) → Consumes (Some input) b read → IsAtEnd b → input ≡ read
all_read input read None consumed ended = absurd consumed
all_read input read (Some rest) consumed ended = consumed ∙ ap (λ back. read ++ back) ended ∙ append-nil read

pub returns : goal.returns
returns c = record {
  nothing = λ a buffer. gives_held buffer buffer [] refl refl (omega arith) a;
  then = gives_then;
  all = λ input given b old new empty gives used.
      sym (append-nil given) ∙ ap (λ held. given ++ held) (sym used.1) ∙ sym gives.bytes ∙ ap (λ held. held ++ gives.read) empty ∙ sym (all_read input gives.read b gives.consumed used.0);
}
