-- The values of words of the command line: a text, a number or a flag under a name.
use Rattle.std.specs.Prelude.{◌≡◌, ℕ, ◌==◌, ◌||◌, ◌^◌, ◌-◌, Bool, true, false, List, [], ◌∷◌, map, Option, codes, option_and_then, unwrap_or, if◌then◌else◌}
use Rattle.std.specs.Option.{option_map_or}
use Rattle.std.specs.Str.{bytes_eq}
use Rattle.clap.specs.Matches.{found_of}
use Rattle.clap.specs.Simple.{App, is_simple, matches_of, subcommand_of, subcommand_rows_of}
use Rattle.clap.specs.Walk.{Row, all_of, first_of, rows_of}
use Rattle.clap.specs.declared.parser.matches.ArgMatches.{ArgMatches}
use Rattle.script_words.specs.Number.{number_of, number_within}
use Rattle.command_words.specs.Grammar.{grammar}
use Rattle.command_words.specs.declared.given.Given.{Given}
use Rattle.command_words.specs.declared.tables.CommandWords.{CommandWords}

-- the values that clap found under each name
abbrev pub rows_in : Given → List Row
rows_in given = rows_of (found_of given.found)

-- the text of the word of a name, if it is there or has a default: the first value under this name
abbrev pub text_in : Given → List ℕ → Option (List ℕ)
text_in given name = first_of name (rows_in given)

-- A flag is there: its text is `true`. If it is left out, clap gives it the text `false`.
abbrev pub flag_in : Given → List ℕ → Bool
flag_in given name = option_map_or (λ text. bytes_eq text (codes "true")) (text_in given name) false

-- a number without a sign before it: the grammar takes `+1`, and `-0` for some numbers
abbrev pub without_sign : List ℕ → List ℕ
without_sign [] = []
without_sign (c ∷ text) = if c == 43 || c == 45 then text else c ∷ text

-- the number that the word of a name is, if it is there and is a number below 2 ^ 64
abbrev pub number_in : Given → List ℕ → Option ℕ
number_in given name = option_and_then (λ text. number_of (without_sign text)) (text_in given name)

-- the same of a number below 2 ^ 32
abbrev pub small_number_in : Given → List ℕ → Option ℕ
small_number_in given name = option_and_then (λ text. number_within 0 (2 ^ 32 - 1) (without_sign text)) (text_in given name)

-- the words that may be there several times
abbrev pub words_in : Given → List (List ℕ)
words_in given = map (λ word. word.now) given.words.items

-- a command, and the values under the names of its words
abbrev pub said_in : Given → List ℕ × List Row
said_in given = (given.command.now, rows_in given)

-- the values that clap found: of the command that is named, or of the program if no command is
abbrev pub found_in : ArgMatches → List ℕ × List Row
found_in m = unwrap_or (subcommand_rows_of m) ([], rows_of (found_of m))

-- the given values are those that clap found
pub record IsFoundBy (m : ArgMatches) (given : Given) : Type 0 where
  pub said : said_in given ≡ found_in m
  pub several : words_in given ≡ unwrap_or (all_of (codes "word") (rows_in given)) []

-- The given values are those of these words by a grammar: of the command that they name, or of the program if they name none.
pub record IsSaidBy (app : App) (words : List (List ℕ)) (given : Given) : Type 0 where
  pub said : is_simple app ≡ true → said_in given ≡ unwrap_or (subcommand_of app words) ([], matches_of app words)
  pub several : words_in given ≡ unwrap_or (all_of (codes "word") (rows_in given)) []

-- The same for the grammar of these tables, which is simple: for such a grammar clap's clauses say which values the words have.
pub record IsReadBy (tables : List CommandWords) (words : List (List ℕ)) (given : Given) : Type 0 where
  pub simple : is_simple (grammar tables) ≡ true
  pub said : said_in given ≡ unwrap_or (subcommand_of (grammar tables) words) ([], matches_of (grammar tables) words)
  pub several : words_in given ≡ unwrap_or (all_of (codes "word") (rows_in given)) []

-- the values of words by the grammar of some tables
abbrev pub IsRead : List (List ℕ) → Given → Type 0
IsRead words given = (tables : List CommandWords) × IsReadBy tables words given
