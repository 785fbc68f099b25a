use Rattle.std.proofs.Common.{map, string_bytes, subst}
use Rattle.std.proofs.Common.{IfOk, IfErr, ◌≡◌, true}
use Rattle.clap.specs.Simple.{App, HasMatchesOf}
use Rattle.clap.specs.Takes.{takes}
use Rattle.clap.specs.Values.{kind_of}
use Rattle.clap.specs.declared.error.kind.ErrorKind.TheVariants.{OutOfMemory}
use Rattle.command_words.proofs.CommandLemmas.{grammar_made}
use Rattle.command_words.proofs.grammar.matches_of.Goals as goal

pub returns-clause-read : goal.returns-clause-read
returns-clause-read c =
    let made = grammar_made c.args.commands.now c.in_ok-subcommands.subcommands.items c.in_ok-whole_program.field-0 c.in_ok-subcommands-2.field-0
    c.in_ok-whole_program.ensures c.in_ok-subcommands.ensures c.in_ok-subcommands-2.ensures in
    subst (λ (a : App). IfOk c.try_get_matches_from.result (HasMatchesOf a (map string_bytes c.args.words.now))) made c.try_get_matches_from.ensures.matches

pub returns-clause-passes : goal.returns-clause-passes
returns-clause-passes c =
    let made = grammar_made c.args.commands.now c.in_ok-subcommands.subcommands.items c.in_ok-whole_program.field-0 c.in_ok-subcommands-2.field-0
    c.in_ok-whole_program.ensures c.in_ok-subcommands.ensures c.in_ok-subcommands-2.ensures in
    subst (λ (a : App). IfErr c.try_get_matches_from.result (λ e. takes a (map string_bytes c.args.words.now) ≡ true → kind_of e ≡ OutOfMemory)) made c.try_get_matches_from.ensures.passes
