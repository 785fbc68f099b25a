-- The tables of the commands, as clap takes them.
use Rattle.std.specs.Prelude.{ℕ, pos, true, false, nat_lt, List, [], ◌∷◌, map, Option, None, Some, codes}
use Rattle.std.specs.Borrow.{Bor}
use Rattle.clap.specs.Lexer.{usize_max}
use Rattle.clap.specs.Simple.{App, Shape, new_rule, new_shape, with_subcommand}
use Rattle.clap.specs.Walk.{Rule}
use Rattle.clap.specs.declared.builder.action.ArgAction.{ArgAction}
use Rattle.clap.specs.declared.builder.action.ArgAction.TheVariants.{Append, Set, SetTrue}
use Rattle.clap.specs.declared.builder.value_parser.ValueParser.TheVariants.{Signed, Unsigned}
use Rattle.command_words.specs.declared.tables.CommandWords.{CommandWords}
use Rattle.command_words.specs.declared.tables.Takes.{Takes}
use Rattle.command_words.specs.declared.tables.Takes.TheVariants as takes
use Rattle.command_words.specs.declared.tables.Word.{Word}

-- the effect of each use of a word
abbrev pub action_said : Takes → ArgAction
action_said takes.Flag = SetTrue
action_said takes.FlagWithoutJson = SetTrue
action_said takes.FlagWithBuild = SetTrue
action_said (takes.Words least) = Append
action_said _ = Set

-- a word, before it is said how it is known
abbrev pub begun : Word → Rule
begun word = record (new_rule word.id.now) { action = Some (action_said word.takes) }

-- a word that is known by its place
abbrev pub placed : Word → Rule
placed word = record (begun word) { value_names = 1 }

-- a word that follows `--` and its name, and takes no value
abbrev pub flagged : Word → Rule
flagged word = record (begun word) { long = Some word.id.now }

abbrev pub defaults_or : List (List ℕ) → Option (Bor (List ℕ)) → List (List ℕ)
defaults_or defaults None = defaults
defaults_or defaults (Some text) = text.now ∷ []

-- a value that follows `--` and the word's name
abbrev pub named_by : Rule → Word → Rule
named_by rule word = record rule { long = Some word.id.now; value_names = 1; defaults = defaults_or rule.defaults word.default }

abbrev pub named : Word → Rule
named word = named_by (begun word) word

-- a word of a command, by the values that it takes
abbrev pub rule_by : Word → Takes → Rule
rule_by word takes.Place = record (placed word) { required = true }
rule_by word takes.NewPlace = placed word
rule_by word (takes.Words least) = record (placed word) { range = Some (record { start_inclusive = least; end_inclusive = usize_max }); required = nat_lt 0 least }
rule_by word takes.Flag = flagged word
rule_by word takes.FlagWithoutJson = record (flagged word) { is_free = false }
rule_by word takes.FlagWithBuild = record (flagged word) { is_free = false }
rule_by word takes.Text = named word
rule_by word takes.TextWithBuild = record (named word) { is_free = false }
rule_by word takes.TextWithoutTemplate = record (named word) { is_free = false }
rule_by word takes.TextOfWhole = record (named word) { is_free = false }
rule_by word takes.Blocks = record (named word) { parser = Some (Signed (pos 0) (pos 4294967295)); required = true }
rule_by word (takes.Within least most) = record (named word) { parser = Some (Signed least most) }
rule_by word takes.Bytes = record (named word) { parser = Some (Unsigned 0 18446744073709551615) }

abbrev pub rule_said : Word → Rule
rule_said word = rule_by word word.takes

-- a command and its words
abbrev pub shape_said : CommandWords → Shape
shape_said command = record (new_shape command.name.now) { rules = map rule_said command.words.now }

-- the program, before its commands
abbrev pub program_said : Shape
program_said = record (new_shape (codes "corekeep")) { no_binary_name = true; subcommand_required = true; has_version = true }

-- a command with no command below it
abbrev pub alone : Shape → App
alone shape = record { top = shape; subs = [] }

-- a program with each of these commands, in their order
abbrev pub with_commands : App → List Shape → App
with_commands program [] = program
with_commands program (shape ∷ shapes) = with_commands (with_subcommand program shape) shapes

-- the grammar for clap: the program with the commands of these tables
abbrev pub grammar : List CommandWords → App
grammar tables = with_commands (alone program_said) (map shape_said tables)
