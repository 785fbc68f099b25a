-- Each turn reads and writes a piece of the bytes that are left.
use Rattle.std.proofs.Common.{◌≡◌, ◌-◌, ◌≤◌, List}
use Rattle.disk_model.specs.Calls.{Call}
use Rattle.disk_model.specs.Holding.{Made, AreAgain}
use Rattle.disk_model.proofs.raw_file.rewrite.Given as goal

abbrev pub invariant-loop-at : goal.invariant-loop-at
invariant-loop-at g l = record {
  within : l.at ≤ l.length;
  facts : g.F.HeldFile.facts l.file ≡ g.F.HeldFile.facts l.initial.file;
  again : (calls : List Call) × AreAgain l.at calls × Made g.F.HeldFile.made calls l.initial.file l.file;
}

abbrev pub decreases-loop-at : goal.decreases-loop-at
decreases-loop-at g l = l.length - l.at
