-- The PT_LOADs among program headers, one header after another.
use Rattle.std.proofs.Common.{◌≡◌, ℕ, ◌+◌, List, [], ◌∷◌, true, false, cond, ap, ◌∙◌}
use Rattle.elf_view.specs.Header.{SegmentView, loads_from, is_load}

step : (i : ℕ) (items rest : List SegmentView) (s : SegmentView) → items ≡ s ∷ rest → loads_from i items ≡ cond (is_load s) (record { number = i; segment = s } ∷ loads_from (i + 1) rest) (loads_from (i + 1) rest)
unfolding loads_from
step i items rest s is = ap (loads_from i) is

pub load_first : (i : ℕ) (items rest : List SegmentView) (s : SegmentView) → items ≡ s ∷ rest → is_load s ≡ true → loads_from i items ≡ record { number = i; segment = s } ∷ loads_from (i + 1) rest
load_first i items rest s is h = step i items rest s is ∙ ap (λ t. cond t (record { number = i; segment = s } ∷ loads_from (i + 1) rest) (loads_from (i + 1) rest)) h

pub load_passed : (i : ℕ) (items rest : List SegmentView) (s : SegmentView) → items ≡ s ∷ rest → is_load s ≡ false → loads_from i items ≡ loads_from (i + 1) rest
load_passed i items rest s is h = step i items rest s is ∙ ap (λ t. cond t (record { number = i; segment = s } ∷ loads_from (i + 1) rest) (loads_from (i + 1) rest)) h

pub no_loads : (i : ℕ) (items : List SegmentView) → items ≡ [] → loads_from i items ≡ []
unfolding loads_from
no_loads i items none = ap (loads_from i) none
