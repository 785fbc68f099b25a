-- How the memory of a core is gone through while its image is read once, from the front to the end.
use Rattle.std.specs.Prelude.{◌≡◌, ◌<◌, ◌≤◌, ℕ, ◌+◌, ◌-◌, ◌^◌, List, [], ◌∷◌, ◌++◌, length, ⊤}
use Rattle.elf_view.specs.Field.{part}
use Rattle.address_space.specs.Source.{Space}
use Rattle.address_space.specs.StretchWords.{IsWithin, shown_in}
use Rattle.address_space.specs.declared.source.Stretch.{Stretch}
use Rattle.memory_replies.specs.Texts.{content_bytes}
use Rattle.windowed_search.specs.Runs.{values_from}
use Rattle.windowed_search.specs.declared.steps.Step.{Step}
use Rattle.windowed_search.specs.declared.steps.Step.TheVariants.{Core, File, Nothing}

-- how many addresses a step is for
abbrev pub count_of : Step → ℕ
count_of (Core skipped n) = n
count_of (File bytes) = length bytes.now
count_of (Nothing n) = n

-- the values of these, if the image is read up to place p
abbrev pub bytes_of : List ℕ → ℕ → Step → List ℕ
bytes_of image p (Core skipped n) = part image (p + skipped) n
bytes_of image p (File bytes) = bytes.now
bytes_of image p (Nothing n) = []

-- the place up to which it is read then
abbrev pub place_after : ℕ → Step → ℕ
place_after p (Core skipped n) = p + skipped + n
place_after p (File bytes) = p
place_after p (Nothing n) = p

-- The steps lead from place p of an image and address a to place q and address b: each gives the values of the next addresses.
abbrev pub Leads : List ℕ → Space → ℕ → ℕ → List Step → ℕ → ℕ → Type 0
Leads image space p a [] q b = (p ≡ q) × (a ≡ b)
Leads image space p a (s ∷ ss) q b =
    (values_from space a (count_of s) ≡ bytes_of image p s) × (place_after p s ≤ length image) × Leads image space (place_after p s) (a + count_of s) ss q b

-- They lead through all addresses but the last.
abbrev pub IsWholeWay : List ℕ → Space → List Step → Type 0
IsWholeWay image space steps = (q : ℕ) × Leads image space 0 0 steps q (2 ^ 64 - 1)

-- a step that gives the values of a `Stretch`
pub record IsNextStep (p : ℕ) (s : Stretch) (step : Step) : Type 0 where
  pub count : count_of step ≡ s.length
  pub bytes : (image : List ℕ) → content_bytes (shown_in image s.length s.kind) ≡ bytes_of image p step
  pub fits : (past : ℕ) → p ≤ past → IsWithin 0 past s.length s.kind → place_after p step ≤ past

-- The steps stay within an image of that size and below the end of the addresses.
abbrev pub StepsFit : ℕ → ℕ → ℕ → List Step → Type 0
StepsFit size p a [] = ⊤
StepsFit size p a (s ∷ ss) = (place_after p s ≤ size) × (a + count_of s < 2 ^ 64) × StepsFit size (place_after p s) (a + count_of s) ss

-- all values that the steps give, if the image is read up to place p
abbrev pub told_by : List ℕ → ℕ → List Step → List ℕ
told_by image p [] = []
told_by image p (s ∷ ss) = bytes_of image p s ++ told_by image (place_after p s) ss

-- they are those of the memory, one after another, and no others
abbrev pub PlansTellTheValues : Type 0
PlansTellTheValues = (image : List ℕ) (space : Space) (steps : List Step) → IsWholeWay image space steps → told_by image 0 steps ≡ values_from space 0 (2 ^ 64 - 1)
