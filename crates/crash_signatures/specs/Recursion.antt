-- Deep recursions: calls that repeat with a short period.
use Rattle.std.specs.Prelude.{ℕ, zero, suc, ◌-◌, Bool, nat_lt, List, [], ◌∷◌, ◌++◌, length, take, drop, Option, None, Some, if◌then◌else◌}
use Rattle.std.specs.Cmp.Lexicographic.{slice_cmp}
use Rattle.std.specs.Option.{option_map}
use Rattle.std.specs.Ordering.{is_lt}
use Rattle.crash_signatures.specs.Words.{WordSaid, same_words, word_cmp}

-- 64 words repeat with a period: from that place on they are as they are from the first
abbrev pub has_period : ℕ → List WordSaid → Bool
has_period period run = same_words (drop period run) (take (64 - period) run)

-- the least period of 64 words among n numbers, from this one on
abbrev pub period_from : ℕ → ℕ → List WordSaid → Option ℕ
period_from zero period run = None
period_from (suc n) period run = if has_period period run then Some period else period_from n (suc period) run

-- the least period, from 1 to 8, of the first 64 words
abbrev pub period_at : List WordSaid → Option ℕ
period_at ws = if nat_lt (length ws) 64 then None else period_from 8 1 (take 64 ws)

-- the words of one period, if they repeat from the first on
abbrev pub cycle_at : List WordSaid → Option (List WordSaid)
cycle_at ws = option_map (λ period. take period ws) (period_at ws)

abbrev pub or_else : Option (List WordSaid) → Option (List WordSaid) → Option (List WordSaid)
or_else None other = other
or_else (Some cycle) other = Some cycle

-- the cycle that begins first, at one of the first n words
abbrev pub cycle_among : ℕ → List WordSaid → Option (List WordSaid)
cycle_among zero ws = None
cycle_among (suc n) [] = None
cycle_among (suc n) (w ∷ ws) = or_else (cycle_at (w ∷ ws)) (cycle_among n ws)

-- a cycle from one of its words on
abbrev pub turned : ℕ → List WordSaid → List WordSaid
turned places cycle = drop places cycle ++ take places cycle

-- the lesser of two lists of words; the first, if they are the same
abbrev pub lesser : List WordSaid → List WordSaid → List WordSaid
lesser a b = if is_lt (slice_cmp word_cmp b a) then b else a

-- the least of the turns by 0 to n places
abbrev pub least_turn : ℕ → List WordSaid → List WordSaid
least_turn zero cycle = turned 0 cycle
least_turn (suc n) cycle = lesser (least_turn n cycle) (turned (suc n) cycle)
