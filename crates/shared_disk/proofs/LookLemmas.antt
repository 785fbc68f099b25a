-- A look in a wider time.
use Rattle.std.proofs.Common.{ℕ, ◌≤◌, List, arith}
use Rattle.journal_layout.specs.declared.shape.Half.{Half}
use Rattle.journal_layout.specs.declared.shape.Shape.{Shape}
use Rattle.shared_disk.specs.Outcome.{IsSeen}

pub seen_wider : (moments : List (List ℕ)) (h i j : ℕ) (shape : Shape) (half : Half) (front : List ℕ) → h ≤ i → IsSeen moments i j shape half front → IsSeen moments h j shape half front
seen_wider moments h i j shape half front before seen =
    let from = seen.from in
    record {
      at = seen.at;
      from = omega (arith, before, from);
      until = seen.until;
      look = λ f same opens.
          let l = seen.look f same opens in
          let low = l.2 in
          (l.0, l.1, omega (arith, before, low), l.3, l.4);
    }
