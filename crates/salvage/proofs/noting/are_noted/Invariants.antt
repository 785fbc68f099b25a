-- All are noted if those that are left are.
use Rattle.std.proofs.Common.{◌≤◌, drop, length, map}
use Rattle.journal_layout.specs.Case.{case_of}
use Rattle.salvage.specs.Noting.{AreNoted}
use Rattle.salvage.proofs.noting.are_noted.Given as goal

abbrev pub invariant-loop-entry : goal.invariant-loop-entry
invariant-loop-entry l =
    (l.left ≤ length l.reads)
    × (AreNoted l.front l.reads (map case_of (drop l.entry-index l.entries)) → AreNoted l.front l.reads (map case_of l.entries))
