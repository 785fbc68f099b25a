-- Memories in which a stack has the same frames.
use Rattle.std.specs.Prelude.{◌≡◌, ℕ, List, [], ◌∷◌, Option, Some}
use Rattle.backtrace.specs.Chain.{Memory, step}
use Rattle.backtrace.specs.declared.frames.Frame.{Frame}

-- At each of these frames, of which the first has that frame pointer before it, two memories lead to the same.
abbrev pub AgreeAt : Memory → Memory → Option ℕ → List Frame → Type 0
AgreeAt m p before [] = Unit {0}
AgreeAt m p before (f ∷ fs) = (step m before f ≡ step p before f) × AgreeAt m p (Some f.fp) fs
