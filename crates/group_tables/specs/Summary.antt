-- The summary of all cores of a group.
use Rattle.std.specs.Prelude.{ℕ, ◌==◌, Bool, not, ◌&&◌, nat_le, nat_lt, List, [], ◌∷◌, ◌++◌, codes, decimal, filter, fold, length, map, max, min, if◌then◌else◌}
use Rattle.std.specs.Str.{bytes_eq}
use Rattle.script_words.specs.Printing.{shown}
use Rattle.group_tables.specs.Values.{MemberSaid}

abbrev pub is_certain : MemberSaid → Bool
is_certain m = not m.is_perhaps

-- how many are certain, and how many are not
abbrev pub certain_count : List MemberSaid → ℕ
certain_count ms = length (filter is_certain ms)

abbrev pub perhaps_count : List MemberSaid → ℕ
perhaps_count ms = length (filter (λ m. m.is_perhaps) ms)

-- A time that may be one: not before the year 2000, and not after this moment. A clock that was not set gives others.
abbrev pub is_time : ℕ → ℕ → Bool
is_time latest time = nat_le 946_684_800 time && nat_le time latest

abbrev pub times : ℕ → List MemberSaid → List ℕ
times latest ms = filter (is_time latest) (map (λ m. m.case.origin.time) ms)

-- the last of these times, and the first; 0 if there are no times
abbrev pub last_time : ℕ → List MemberSaid → ℕ
last_time latest ms = fold max 0 (times latest ms)

abbrev pub first_time : ℕ → List MemberSaid → ℕ
first_time latest ms = fold min (last_time latest ms) (times latest ms)

-- the highest number of those that are certain
abbrev pub newest : List MemberSaid → ℕ
newest ms = fold max 0 (map (λ m. m.case.seq) (filter is_certain ms))

-- different texts, each at its first place
abbrev pub once : List (List ℕ) → List (List ℕ)
once [] = []
once (t ∷ ts) = t ∷ filter (λ u. not (bytes_eq u t)) (once ts)

abbrev pub is_no_label : List ℕ → Bool
is_no_label label = length label == 0

abbrev pub is_label : List ℕ → Bool
is_label label = not (is_no_label label)

abbrev pub label_of : MemberSaid → List ℕ
label_of m = m.case.label

-- the labels of these cases that are not empty, each once
abbrev pub labels : List MemberSaid → List (List ℕ)
labels ms = filter is_label (once (map label_of ms))

-- `,+K` for so many more
abbrev pub more_text : ℕ → List ℕ
more_text k = if nat_lt 0 k then codes ",+" ++ decimal k else []

-- the first two, and how many more there are; `-` if there are no labels
abbrev pub labels_text : List (List ℕ) → List ℕ
labels_text [] = codes "-"
labels_text (a ∷ []) = shown a
labels_text (a ∷ b ∷ others) = shown a ++ (codes "," ++ (shown b ++ more_text (length others)))
