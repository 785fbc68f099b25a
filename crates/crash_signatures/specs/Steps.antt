-- Which words of a walk say how a process died.
use Rattle.std.specs.Prelude.{ℕ, ◌*◌, ◌-◌, ◌==◌, Bool, false, not, ◌&&◌, ◌||◌, nat_le, List, [], ◌∷◌, ◌++◌, length, take, drop, codes, fold, if◌then◌else◌}
use Rattle.std.specs.List.{suffix_len}
use Rattle.std.specs.Str.{bytes_eq}
use Rattle.crash_signatures.specs.Tables.{is_death, is_outer}
use Rattle.crash_signatures.specs.Words.{WordSaid, same_words}

abbrev pub ends_process : WordSaid → Bool
ends_process w = is_death w.text

-- How many of the first 16 words come up to the last one by which the process
-- ends itself. So any word between two of these is dropped with them.
abbrev pub past_death : List WordSaid → ℕ
past_death ws = length (take 16 ws) - suffix_len (λ w. not (ends_process w)) (take 16 ws)

-- the words after the way to die; all of them, if none is after it
abbrev pub without_death : List WordSaid → List WordSaid
without_death ws = if past_death ws == length ws then ws else drop (past_death ws) ws

abbrev pub is_main : WordSaid → Bool
is_main w = bytes_eq w.text (codes "main")

abbrev pub calls_main : WordSaid → Bool
calls_main w = is_outer w.text

-- a word of the outermost part: `main`, its caller, or the caller of a thread's first function
abbrev pub is_outermost : WordSaid → Bool
is_outermost w = is_main w || calls_main w

-- The words up to the outermost part. `main` stays, and the first word of all stays too.
abbrev pub inner_part : Bool → List WordSaid → List WordSaid
inner_part is_first [] = []
inner_part is_first (w ∷ ws) =
    if is_main w then w ∷ []
    else if calls_main w then (if is_first then w ∷ [] else [])
    else w ∷ inner_part false ws

-- the last words, so many, are the same as those before them
abbrev pub ends_twice : ℕ → List WordSaid → Bool
ends_twice count ws =
    nat_le (2 * count) (length ws) && same_words (drop (length ws - count) ws) (take count (drop (length ws - 2 * count) ws))

-- how many words are left if the last one, or two, or three are dropped because they repeat those before them
abbrev pub count_left : List WordSaid → ℕ
count_left ws =
    if ends_twice 1 ws then length ws - 1
    else if ends_twice 2 ws then length ws - 2
    else if ends_twice 3 ws then length ws - 3
    else length ws

-- one word more, unless it ends a repetition
abbrev pub with_word : List WordSaid → WordSaid → List WordSaid
with_word kept w = take (count_left (kept ++ w ∷ [])) (kept ++ w ∷ [])

-- the words from the innermost on, without repetitions
abbrev pub without_repetitions : List WordSaid → List WordSaid
without_repetitions ws = fold with_word [] ws
