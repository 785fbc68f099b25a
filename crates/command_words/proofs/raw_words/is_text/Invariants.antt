use Rattle.std.proofs.Common.{◌≡◌, IsUtf8, chars}
use Rattle.std.specs.List.{list_all}
use Rattle.std.specs.Str.Iter.{chars_rest}
use Rattle.command_words.specs.RawWords.{is_own, is_text}
use Rattle.command_words.proofs.raw_words.is_text.Given as goal

abbrev pub invariant-loop-character : goal.invariant-loop-character
invariant-loop-character l = IsUtf8 (chars_rest l.character-iterator) × (list_all is_own (chars (chars_rest l.character-iterator)) ≡ is_text l.fn.word)
