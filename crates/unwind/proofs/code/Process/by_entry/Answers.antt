use Rattle.std.proofs.Common.{ap}
use Rattle.address_space.specs.Source.{Space}
use Rattle.seen_memory.specs.Seen.{space_by}
use Rattle.seen_memory.specs.SeenLaws.{each_as}
use Rattle.unwind.specs.ByEntry.{by_code, by_entry}
use Rattle.unwind.specs.Code.{code_of}
use Rattle.unwind.specs.Reasons.{and_then}
use Rattle.unwind.specs.Words.{code_view, process_with}
use Rattle.unwind.proofs.code.Process.by_entry.Goals as goal

pub returns-in-Ok : goal.returns-in-Ok
unfolding by_entry code_of
returns-in-Ok c =
    let m = c.args.self.now.memory in
    let f = c.args.frame.now in
    each_as m (λ (space : Space). by_code space c.args.self.now.start f (code_view c.in-Ok.code)) (λ (space : Space). by_entry (process_with space c.args.self.now.executables.now c.args.self.now.others.now c.args.self.now.start) f) c.by_code.result (λ image. ap (λ r. and_then r (by_code (space_by m image) c.args.self.now.start c.args.frame.now)) c.in-Ok.ensures) c.by_code.ensures

pub returns-in-Err : goal.returns-in-Err
unfolding by_entry code_of
returns-in-Err c image is =
    let m = c.args.self.now.memory in
    ap (λ r. and_then r (by_code (space_by m image) c.args.self.now.start c.args.frame.now)) c.in-Err.ensures
