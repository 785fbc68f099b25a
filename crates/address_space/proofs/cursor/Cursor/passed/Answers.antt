use Rattle.std.proofs.Common.{◌-◌, length, take, drop, arith}
use Rattle.std.proofs.lemmas.List.{take_rest}
use Rattle.address_space.proofs.Ordering.{placed_behind}
use Rattle.address_space.proofs.cursor.Cursor.passed.Goals as goal

pub returns-clause-placed : goal.returns-clause-placed
returns-clause-placed c space p =
    let within = c.args.self.within in
    let here = c.args.self.here.now in
    let behind = placed_behind space c.args.self.number c.args.self.at c.args.count c.saturating_add.result here (take (length here - c.args.count) (drop c.args.count here)) (take_rest here c.args.count) (λ h. omega (arith, c.saturating_add.ensures)) p.values p.decided in
    record { number = p.number; values = behind.0; decided = behind.1 }
