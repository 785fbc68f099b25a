use Rattle.std.proofs.Common.{map, sym}
use Rattle.build_replies.specs.ChoosingLaws.{chosen_without}
use Rattle.build_replies.specs.Mapped.{id_view}
use Rattle.build_replies.specs.TableWords.{table_rows}
use Rattle.build_replies.proofs.alike.add_chosen.Goals as goal

pub returns-in-Nothing : goal.returns-in-Nothing
returns-in-Nothing c = chosen_without (table_rows c.args.stored.now) (map id_view c.args.some.now.items) (id_view c.args.file.now) (sym c.in-Nothing.ensures)
