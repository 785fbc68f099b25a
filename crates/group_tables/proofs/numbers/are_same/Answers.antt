use Rattle.std.proofs.Common.{sym, ◌∙◌}
use Rattle.std.specs.Cmp.Derive.Mapped.{pointwise-map}
use Rattle.crash_signatures.specs.Words.{same_word}
use Rattle.crash_signatures.specs.WordViews.{said}
use Rattle.group_tables.proofs.numbers.are_same.Goals as goal

pub returns : goal.returns
returns c = c.eq.ensures ∙ sym (pointwise-map said same_word c.args.a.now c.args.b.now)
