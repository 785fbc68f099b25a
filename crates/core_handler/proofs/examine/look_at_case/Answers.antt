use Rattle.std.proofs.Common.{subst, sym}
use Rattle.case_journal.specs.Viewing.{OnlyReads}
use Rattle.intake.specs.QuietLaws.{quiet_then}
use Rattle.core_handler.proofs.examine.look_at_case.Goals as goal

pub returns-in-Ok : goal.returns-in-Ok
returns-in-Ok g c =
    let opened : OnlyReads g.D.Disk c.args.disk c.in-Ok.archive.disk = record {
      seen = c.in-Ok.ensures.seen;
      crash = λ honest b may. (let moments = c.in-Ok.ensures.any_moment honest in
          moments.each b (g.met.D.Disk.counts_now c.in-Ok.archive.disk (g.D.Disk.clock c.args.disk) b moments.later may));
      moments = c.in-Ok.ensures.any_moment;
      honesty = c.in-Ok.ensures.honesty;
      size = c.in-Ok.ensures.size;
    } in
    let seen = quiet_then g.D.Disk c.args.disk c.in-Ok.archive.disk c.see_case-seen.new.archive.disk opened c.see_case-seen.ensures.quiet in
    record { quiet = subst (OnlyReads g.D.Disk c.args.disk) (sym c.close-disk.ensures.disk) seen }
