-- The words of a signature as people read them.
use Rattle.std.specs.Prelude.{ℕ, Bool, ◌==◌, ◌||◌, List, [], ◌∷◌, ◌++◌, codes, if◌then◌else◌}
use Rattle.std.specs.List.{flat_map}
use Rattle.script_words.specs.Printing.{escape, shown, shown_byte}
use Rattle.crash_signatures.specs.Signature.{SignatureSaid}
use Rattle.crash_signatures.specs.Words.{WordSaid}

-- `<` or `?`, with which marks begin
abbrev pub begins_mark : ℕ → Bool
begins_mark b = b == 60 || b == 63

-- A name as a script prints it. If it begins as a mark does, its first byte is escaped: so a mark is always one.
abbrev pub name_text : List ℕ → List ℕ
name_text [] = shown []
name_text (b ∷ bs) = if begins_mark b then escape b ++ flat_map shown_byte bs else shown (b ∷ bs)

abbrev pub word_text : WordSaid → List ℕ
word_text w = if w.is_mark then shown w.text else name_text w.text

-- words, each behind a space
abbrev pub others_text : List WordSaid → List ℕ
others_text ws = flat_map (λ w. codes " " ++ word_text w) ws

-- the words with a space between two of them; `-` if there are no words
abbrev pub words_text : List WordSaid → List ℕ
words_text [] = codes "-"
words_text (w ∷ ws) = word_text w ++ others_text ws

-- the words, and two dots if frames are missing behind them
abbrev pub frames_text : SignatureSaid → List ℕ
frames_text s = words_text s.words ++ (if s.is_missing then codes " .." else [])
