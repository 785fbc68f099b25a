-- The bars of a plot: how many cores came in each span of time.
use Rattle.std.specs.Prelude.{◌≡◌, ◌≤◌, ℕ, zero, suc, ◌+◌, ◌-◌, ◌/◌, ◌==◌, Bool, true, ◌&&◌, nat_le, nat_lt, List, [], ◌∷◌, ◌++◌, filter, length, if◌then◌else◌}
use Rattle.std.specs.List.{sum}
use Rattle.case_pages.specs.declared.span.Span.{Span}

-- The time is in the bar of this number: so many whole steps are before it.
abbrev pub is_in_bar : ℕ → ℕ → ℕ → Bool
is_in_bar step bar t = t / step == bar

-- how many of these times are in a bar
abbrev pub height : ℕ → ℕ → List ℕ → ℕ
height step bar ts = length (filter (is_in_bar step bar) ts)

-- so many bars, from the first on
abbrev pub bars : ℕ → ℕ → ℕ → List ℕ → List ℕ
bars step first zero ts = []
bars step first (suc n) ts = bars step first n ts ++ height step (first + n) ts ∷ []

-- The time is in one of them.
abbrev pub is_among : ℕ → ℕ → ℕ → ℕ → Bool
is_among step first n t = nat_le first (t / step) && nat_lt (t / step) (first + n)

-- 60 bars of this step have all times from the oldest to the last
abbrev pub fits : ℕ → ℕ → ℕ → Bool
fits step oldest last = nat_lt (last / step - oldest / step) 60

-- The step: an hour, six hours, a day or a week, the first of them that fits; else four weeks.
abbrev pub step_of : ℕ → ℕ → ℕ
step_of oldest last =
    if fits 3_600 oldest last then 3_600
    else (if fits 21_600 oldest last then 21_600
    else (if fits 86_400 oldest last then 86_400
    else (if fits 604_800 oldest last then 604_800
    else 2_419_200)))

-- A span by that step has each time from the oldest to the last, if that step fits; and the last in any case. It has at most 60 bars.
pub record Spans (oldest last : ℕ) (s : Span) : Type 0 where
  pub step : s.step ≡ step_of oldest last
  pub all : fits s.step oldest last ≡ true → (t : ℕ) → oldest ≤ t → t ≤ last → is_among s.step s.first s.count t ≡ true
  pub newest : is_among s.step s.first s.count last ≡ true
  pub few : s.count ≤ 60
