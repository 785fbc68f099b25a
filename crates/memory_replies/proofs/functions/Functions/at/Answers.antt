use Rattle.std.proofs.Common.{sym, ap, ◌∙◌}
use Rattle.std.specs.Option.{option_map}
use Rattle.elf_view.specs.ViewWords.{image_of}
use Rattle.symbols.specs.SymbolWords.{functions_in, strings_in}
use Rattle.memory_replies.proofs.NamingLemmas.{own_is, own_none}
use Rattle.memory_replies.proofs.functions.Functions.at.Goals as goal

pub returns-in-Some : goal.returns-in-Some
returns-in-Some c =
    let f = c.args.self.now in
    let s = c.in-Some.symbols in
    c.lookup.ensures
    ∙ own_is (image_of f.elf) (functions_in s) (strings_in s) c.args.address (sym (ap (option_map functions_in) c.in-Some.is) ∙ f.functions) (sym (ap (option_map strings_in) c.in-Some.is) ∙ f.strings)

pub returns-in-None : goal.returns-in-None
returns-in-None c =
    let f = c.args.self.now in
    own_none (image_of f.elf) c.args.address (sym (ap (option_map functions_in) c.in-None.is) ∙ f.functions)
