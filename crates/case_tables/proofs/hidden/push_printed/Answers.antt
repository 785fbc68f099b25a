use Rattle.std.proofs.Common.{rules, ◌≡◌, true, arith}
use Rattle.std.specs.String.{string_bytes}
use Rattle.case_tables.proofs.HiddenLemmas.{ascii_letters, escape_added, hidden_below}
use Rattle.case_tables.specs.Hidden.{is_hidden}
use Rattle.case_tables.proofs.hidden.push_printed.Goals as goal

pub overflow_cast-code : goal.overflow_cast-code
overflow_cast-code c =
    let is : is_hidden c.args.character ≡ true = search rules in
    let below = hidden_below c.args.character is in
    grind (arith, below)

pub push_letters-requires : goal.push_letters-requires
push_letters-requires c =
    let is : is_hidden c.args.character ≡ true = search rules in
    ascii_letters c.args.character c.from-code.result c.deref.result.now is (search rules) (search rules)

pub returns : goal.returns
returns c =
    let is : is_hidden c.args.character ≡ true = search rules in
    escape_added c.args.character c.from-code.result (string_bytes c.args.text.now) (string_bytes c.push_str.new.self) (string_bytes c.push_letters.new.value)
    c.deref.result.now is (search rules) (search rules) (search rules) (search rules)
