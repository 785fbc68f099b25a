-- What the builders of clap make of a command with words and commands, as a parse reads it.
use Rattle.std.proofs.Common.{rules, ◌≡◌, Bool, true, false, not, ◌&&◌, List, ◌∷◌, [], ◌++◌, map, is_some, Bor, refl, ap, sym, ◌∙◌, append_assoc, append-nil}
use Rattle.std.proofs.lemmas.Bool.{and_parts}
use Rattle.std.specs.List.{list_all}
use Rattle.clap.specs.Built.{AddsArg, AddsInTurn, AddsSubcommand}
use Rattle.clap.specs.Simple.{App, Shape, app_of, new_app, new_shape, shape_of}
use Rattle.clap.specs.Walk.{Rule, is_empty, rule_of}
use Rattle.clap.specs.declared.builder.arg.Arg.{Arg}
use Rattle.clap.specs.declared.builder.command.Command.{Command}
use Rattle.clap.specs.declared.builder.command.Command.TheViews.{out-Command}
use Rattle.command_words.specs.Grammar.{alone, grammar, program_said, rule_by, rule_said, shape_said, with_commands}
use Rattle.command_words.specs.declared.tables.CommandWords.{CommandWords}
use Rattle.command_words.specs.declared.tables.Takes.{Takes}
use Rattle.command_words.specs.declared.tables.Takes.TheVariants as takes
use Rattle.command_words.specs.declared.tables.Word.{Word}

last_of : (p q : Bool) → (p && q) ≡ true → q ≡ true
last_of p q e = (and_parts p q e).1

no : (p : Bool) → not p ≡ true → p ≡ false
no p e = search rules

last_of_ten : (p q r s t u v w x y : Bool) → (p && (q && (r && (s && (t && (u && (v && (w && (x && not y))))))))) ≡ true → y ≡ false
last_of_ten p q r s t u v w x y e = no y (last_of x _ (last_of w _ (last_of v _ (last_of u _ (last_of t _ (last_of s _ (last_of r _ (last_of q _ (last_of p _ e)))))))))

-- a simple argument is of its own command alone
local_arg : (a : Arg) → (rule_of a).is_simple ≡ true → a.global ≡ false
local_arg a e =
    last_of_ten (is_empty a.overrides.items) (is_empty a.default_vals_ifs.items) (is_empty a.groups.items) (not (is_some a.val_delim)) (not (is_some a.terminator)) (not a.allow_hyphen_values)
    (not a.allow_negative_numbers) (not a.require_equals) (not a.last) a.global e

-- arguments in turn are their rules in turn
pub args_added : (made : List Arg) (old new : Command) → list_all (λ (r : Rule). r.is_simple) (map rule_of made) ≡ true → AddsInTurn AddsArg old made new
    → app_of new ≡ record (app_of old) { top = record (app_of old).top { rules = (app_of old).top.rules ++ map rule_of made } }
args_added [] old new simple added =
    ap app_of (sym added) ∙ ap (λ (rs : List Rule). record (app_of old) { top = record (app_of old).top { rules = rs } }) (sym (append-nil (app_of old).top.rules))
args_added (a ∷ made) old new simple (m, step, rest) =
    let parts = and_parts _ _ simple in
    let shape = step.shape (local_arg a parts.0) in
    args_added made m new parts.1 rest
    ∙ (ap (λ (x : App). record x { top = record x.top { rules = x.top.rules ++ map rule_of made } }) shape
    ∙ ap (λ (rs : List Rule). record (app_of old) { top = record (app_of old).top { rules = rs } }) (append_assoc (app_of old).top.rules (rule_of a ∷ []) (map rule_of made)))

simple_by : (word : Word) (what : Takes) → (rule_by word what).is_simple ≡ true
simple_by word takes.Place = refl
simple_by word takes.NewPlace = refl
simple_by word (takes.Words least) = refl
simple_by word takes.Flag = refl
simple_by word takes.FlagWithoutJson = refl
simple_by word takes.FlagWithBuild = refl
simple_by word takes.Text = refl
simple_by word takes.TextWithBuild = refl
simple_by word takes.TextWithoutTemplate = refl
simple_by word takes.TextOfWhole = refl
simple_by word takes.Blocks = refl
simple_by word (takes.Within least most) = refl
simple_by word takes.Bytes = refl

-- the rules of tables are simple
pub simple_words : (words : List Word) → list_all (λ (r : Rule). r.is_simple) (map rule_said words) ≡ true
simple_words [] = refl
simple_words (word ∷ words) = rw (simple_by word word.takes, simple_words words) refl

third : (p q r s : Bool) → (p && (q && (not r && s))) ≡ true → r ≡ false
third p q r s e = no r (and_parts (not r) s (last_of q _ (last_of p _ e))).0

-- a plain command has no word of the commands below it
local_command : (c : Command) → (shape_of c).is_plain ≡ true → (out-Command c).has_globals ≡ false
local_command c e = third (is_empty (out-Command c).groups.items) (not (out-Command c).allow_external_subcommands) (out-Command c).has_globals _ e

-- commands in turn are their shapes in turn
pub commands_added : (cs : List Command) (old new : Command) → list_all (λ (s : Shape). s.is_plain) (map shape_of cs) ≡ true → AddsInTurn AddsSubcommand old cs new
    → app_of new ≡ with_commands (app_of old) (map shape_of cs)
commands_added [] old new plain added = ap app_of (sym added)
commands_added (c ∷ cs) old new plain (m, step, rest) =
    let parts = and_parts _ _ plain in
    commands_added cs m new parts.1 rest ∙ ap (λ (x : App). with_commands x (map shape_of cs)) (step.shape (local_command c parts.0))

-- the commands of tables are plain
pub plain_commands : (tables : List (Bor CommandWords)) → list_all (λ (s : Shape). s.is_plain) (map (λ command. shape_said command.now) tables) ≡ true
plain_commands [] = refl
plain_commands (table ∷ tables) = rw (plain_commands tables) refl

-- a new command, with the words of a table
pub command_made : (table : CommandWords) (made : List Arg) (old new : Command) → app_of old ≡ new_app table.name.now → map rule_of made ≡ map rule_said table.words.now → AddsInTurn AddsArg old made new
    → app_of new ≡ alone (shape_said table)
command_made table made old new named same added =
    let simple : list_all (λ (r : Rule). r.is_simple) (map rule_of made) ≡ true = ap (list_all (λ (r : Rule). r.is_simple)) same ∙ simple_words table.words.now in
    args_added made old new simple added
    ∙ (ap (λ (x : App). record x { top = record x.top { rules = x.top.rules ++ map rule_of made } }) named
    ∙ ap (λ (rs : List Rule). record (new_app table.name.now) { top = record (new_shape table.name.now) { rules = rs } }) same)

commands_said : (tables : List (Bor CommandWords)) → map (λ table. shape_said table.now) tables ≡ map shape_said (map (λ table. table.now) tables)
commands_said [] = refl
commands_said (table ∷ tables) = ap (λ (shapes : List Shape). shape_said table.now ∷ shapes) (commands_said tables)

-- the program, with the commands of tables
pub grammar_made : (tables : List (Bor CommandWords)) (made : List Command) (old new : Command) → app_of old ≡ alone program_said
    → map shape_of made ≡ map (λ table. shape_said table.now) tables → AddsInTurn AddsSubcommand old made new → app_of new ≡ grammar (map (λ table. table.now) tables)
grammar_made tables made old new named same added =
    let plain : list_all (λ (s : Shape). s.is_plain) (map shape_of made) ≡ true = ap (list_all (λ (s : Shape). s.is_plain)) same ∙ plain_commands tables in
    commands_added made old new plain added
    ∙ (ap (λ (x : App). with_commands x (map shape_of made)) named
    ∙ ap (with_commands (alone program_said)) (same ∙ commands_said tables))
