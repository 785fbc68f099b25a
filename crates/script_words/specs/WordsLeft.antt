-- The iterator over a line's words as callers see it.
use Rattle.std.specs.Prelude.{ℕ, List}
use Rattle.std.specs.Borrow.{Bor}
use Rattle.script_words.specs.declared.line.Words.{Words}
use Rattle.script_words.specs.Words.{words_of}

-- the words that have not come yet
abbrev pub words_left : Words → List (List ℕ)
words_left words = words_of words.rest.now

-- the bytes of a word
abbrev pub word_bytes : Bor (List ℕ) → List ℕ
word_bytes word = word.now
