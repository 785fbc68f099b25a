use Rattle.std.proofs.Common.{ap, refl, arith}
use Rattle.windowed_search.proofs.MemorySearching.{no_values}
use Rattle.windowed_search.proofs.memory_search.MemorySearch.pass.Goals as goal

pub returns-clause-searched : goal.returns-clause-searched
returns-clause-searched c space so_far none =
    no_values space c.args.self.now _ c.args.count c.args.self.now.search.some (omega (arith, c.if-count-eq0.false)) so_far (ap (λ n. n.now) c.restart.ensures.needle) refl refl none c.restart.ensures.fed
