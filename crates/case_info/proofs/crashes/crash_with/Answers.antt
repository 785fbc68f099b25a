use Rattle.std.proofs.Common.{List, ℕ, subst}
use Rattle.core_crashes.specs.Views.{crashed_said}
use Rattle.case_info.specs.Crashes.{IsCrashBy}
use Rattle.case_info.proofs.ScreenLemmas.{has_still}
use Rattle.case_info.proofs.crashes.crash_with.Goals as goal

pub crash_by-requires : goal.crash_by-requires
crash_by-requires g c =
    let old = c.args.archive.now in
    let says = c.in_ok-facts.ensures old c.requires.seen in
    has_still g.D.Disk old c.facts_with.new.archive c.args.image.seq c.args.image.size says.image c.requires.has says.seen

pub returns : goal.returns
returns g c =
    let old = c.args.archive.now in
    let walked = c.facts_with.new.archive in
    record {
      facts = c.in_ok-facts.facts;
      walked = walked;
      says = c.in_ok-facts.ensures old c.requires.seen;
      crashes =
          subst (λ (b : List ℕ). IsCrashBy g.D.Disk walked c.args.image.seq c.args.image.size b c.in_ok-facts.facts (crashed_said c.in_ok-crash_by.field-0) c.crash_by.new.archive) c.requires.front
          c.in_ok-crash_by.ensures;
    }
