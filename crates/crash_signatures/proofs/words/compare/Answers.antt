use Rattle.std.proofs.Common.{sym, ◌∙◌}
use Rattle.std.specs.Cmp.Derive.Mapped.{lex_map}
use Rattle.crash_signatures.specs.Words.{word_cmp}
use Rattle.crash_signatures.specs.WordViews.{said}
use Rattle.crash_signatures.proofs.words.compare.Goals as goal

pub returns : goal.returns
returns c = c.cmp.ensures ∙ sym (lex_map said word_cmp c.args.a.now c.args.b.now)
