-- JSON as it is printed: no character of it is hidden.
use Rattle.std.specs.Prelude.{◌≡◌, ◌≤◌, ℕ, ◌/◌, ◌%◌, Bool, false, List, [], ◌∷◌, ◌||◌, if◌then◌else◌, Some}
use Rattle.std.specs.Char.{encode_utf8}
use Rattle.std.specs.Int.{is_in_range}
use Rattle.std.specs.List.{flat_map}
use Rattle.std.specs.Str.{chars}
use Rattle.serde_json.specs.Data.{Data, depth}
use Rattle.serde_json.specs.Read.{max_depth, read}
use Rattle.serde_json.specs.Written.{compact_text, has_float}
use Rattle.script_words.specs.Hex.{hex_of}

-- A character that a terminal acts on or does not show, so that a reader is shown another text than is there: DEL and the C1 controls;
-- the Arabic letter mark; zero-width characters and the marks of a direction; the separators of lines and paragraphs and the embeddings
-- and overrides of a direction; the word joiner; the isolates; and the byte order mark. JSON escapes the C0 controls by itself.
unfoldable pub is_hidden : ℕ → Bool
is_hidden c =
    is_in_range 0x7F 0x9F c || (is_in_range 0x61C 0x61C c || (is_in_range 0x200B 0x200F c || (is_in_range 0x2028 0x202E c
    || (is_in_range 0x2060 0x2060 c || (is_in_range 0x2066 0x2069 c || is_in_range 0xFEFF 0xFEFF c)))))

-- `\uXXXX` in lower case
abbrev pub code_escape : ℕ → List ℕ
code_escape c = 92 ∷ 117 ∷ hex_of (c / 256 ∷ c % 256 ∷ [])

-- how a character of JSON is printed: itself, or escaped if it is hidden
abbrev pub printed_char : ℕ → List ℕ
printed_char c = if is_hidden c then code_escape c else encode_utf8 c

-- JSON as it is printed, each character of its text in turn
unfoldable pub printed_json : List ℕ → List ℕ
printed_json text = flat_map printed_char (chars text)

-- the printed text reads back as the value, and its hidden characters are escaped
pub record Prints (d : Data) (printed : List ℕ) : Type 0 where
  pub text : List ℕ
  pub reads : read printed ≡ Some d
  pub escaped : printed ≡ printed_json text

-- The printed text of a value: the text that `serde_json` writes, which is known if the value has no float, with its hidden characters
-- escaped. It reads back.
pub record IsPrinted (d : Data) (printed : List ℕ) : Type 0 where
  pub text : List ℕ
  pub escaped : printed ≡ printed_json text
  pub exact : has_float d ≡ false → text ≡ compact_text d
  pub reads : depth d ≤ max_depth → read printed ≡ Some d
