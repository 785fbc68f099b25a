use Rattle.std.proofs.Common.{◌≡◌, ◌≤◌, ℕ, drop, vec_capacity}
use Rattle.address_space.specs.Source.{Space}
use Rattle.intake.specs.Parts.{Parts, state_of}
use Rattle.case_queries.specs.Fronts.{HasSize}
use Rattle.case_queries.specs.Walking.{IsAt, LeadsOn, address_after}
use Rattle.windowed_search.specs.ScanWords.{Aim, next_address}
use Rattle.windowed_search.specs.StepWords.{StepsFit}
use Rattle.case_queries.proofs.walk.Walk.walk.Given as goal

-- the steps that are left lead on from here
abbrev pub invariant-loop-step : goal.invariant-loop-step
invariant-loop-step g l = record {
  has : HasSize (state_of l.archive) l.image.seq l.image.size;
  fit : StepsFit l.image.size l.self.at (next_address l.self.search) (drop l.step-index l.steps);
  buffer : 131072 ≤ vec_capacity l.self.buffer;
  address : address_after (next_address l.self.search) (drop l.step-index l.steps) ≡ address_after (next_address l.initial.self.search) l.steps;
  walks : (before : Parts g.row.D.Denot) (space : Space) (aim : Aim) (b : ℕ) → IsAt g.D.Disk before space aim l.image l.initial.self l.initial.archive
      → LeadsOn space l.image l.initial.self.at (next_address l.initial.self.search) l.steps b
      → IsAt g.D.Disk before space aim l.image l.self l.archive × LeadsOn space l.image l.self.at (next_address l.self.search) (drop l.step-index l.steps) b;
}
