use Rattle.std.proofs.Common.{◌≡◌, ◌≤◌, ◌+◌, vec_capacity}
use Rattle.address_space.specs.Source.{Space}
use Rattle.intake.specs.Parts.{Parts, state_of}
use Rattle.case_queries.specs.Fronts.{HasSize}
use Rattle.case_queries.specs.Walking.{IsAt}
use Rattle.windowed_search.specs.ScanWords.{Aim}
use Rattle.case_queries.proofs.walk.Walk.skip.Given as goal

abbrev pub invariant-loop-left : goal.invariant-loop-left
invariant-loop-left g l = record {
  has : HasSize (state_of l.archive) l.image.seq l.image.size;
  at : l.self.at + l.left ≡ l.initial.self.at + l.count;
  search : l.self.search ≡ l.initial.self.search;
  buffer : 131072 ≤ vec_capacity l.self.buffer;
  walks : (before : Parts g.row.D.Denot) (space : Space) (aim : Aim) → IsAt g.D.Disk before space aim l.image l.initial.self l.initial.archive
      → IsAt g.D.Disk before space aim l.image l.self l.archive;
}

abbrev pub decreases-loop-left : goal.decreases-loop-left
decreases-loop-left g l = l.left
