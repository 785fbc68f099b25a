use Rattle.std.proofs.Common.{sym, subst}
use Rattle.memchr.specs.Find.{IsLastByte, is_byte}
use Rattle.symbols.proofs.StringEnds.{none_ended, last_decides}
use Rattle.symbols.proofs.tables.is_ended.Goals as goal

pub returns-in-Some : goal.returns-in-Some
returns-in-Some c =
    last_decides c.args.strings.now c.args.place c.in-Some.last (subst (IsLastByte (is_byte 0) c.args.strings.now) c.in-Some.is c.requires)

pub returns-in-None : goal.returns-in-None
returns-in-None c =
    sym (none_ended c.args.strings.now c.args.place (subst (IsLastByte (is_byte 0) c.args.strings.now) c.in-None.is c.requires))
