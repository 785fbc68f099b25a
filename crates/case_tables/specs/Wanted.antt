-- Which cases a list shows.
use Rattle.std.specs.Prelude.{ℕ, ◌-◌, ◌==◌, ◌&&◌, Bool, true, false, nat_le, nat_lt, List, length, drop, filter, Option, Some, None, is_some, option_map}
use Rattle.std.specs.Borrow.{Bor}
use Rattle.std.specs.List.{list_any}
use Rattle.memchr.specs.Find.{matches, first_of}
use Rattle.journal_layout.specs.Case.{Case}
use Rattle.journal_layout.specs.declared.entry.Kind.{Kind}
use Rattle.journal_layout.specs.declared.entry.Kind.TheVariants.{Core, Exec}
use Rattle.case_tables.specs.NameParts.{program_in, user_in}
use Rattle.case_tables.specs.declared.wanted.Wanted.{Wanted}

abbrev pub is_same_kind : Kind → Kind → Bool
is_same_kind Core Core = true
is_same_kind Core Exec = false
is_same_kind Exec Core = false
is_same_kind Exec Exec = true

-- it is of the kind that is wanted, if one is
abbrev pub is_of_kind : Option Kind → Kind → Bool
is_of_kind None k = true
is_of_kind (Some wanted) k = is_same_kind wanted k

-- it is one of the numbers that are wanted, if some are
abbrev pub is_among : Option (List ℕ) → ℕ → Bool
is_among None n = true
is_among (Some wanted) n = list_any (λ m. m == n) wanted

-- it is the number that is wanted, if one is
abbrev pub is_number : Option ℕ → ℕ → Bool
is_number None n = true
is_number (Some wanted) n = wanted == n

-- the user is the one that is wanted
abbrev pub is_user : ℕ → Option ℕ → Bool
is_user wanted None = false
is_user wanted (Some user) = wanted == user

-- its name has the user that is wanted, if one is
abbrev pub has_user : Option ℕ → Case → Bool
has_user None c = true
has_user (Some wanted) c = is_user wanted (user_in c)

-- the wanted text, if one is wanted, is somewhere in it
abbrev pub has_text : Option (List ℕ) → List ℕ → Bool
has_text None text = true
has_text (Some wanted) text = is_some (first_of (matches text wanted 0))

-- the time is known, and not before this one, if there is one
abbrev pub is_since : Option ℕ → ℕ → Bool
is_since None time = true
is_since (Some start) time = nat_lt 0 time && nat_le start time

-- the time is known, and before this one, if there is one
abbrev pub is_until : Option ℕ → ℕ → Bool
is_until None time = true
is_until (Some end) time = nat_lt 0 time && nat_lt time end

-- it is pinned, if only those are wanted
abbrev pub is_kept : Bool → Bool → Bool
is_kept true pinned = pinned
is_kept false pinned = true

abbrev pub text_wanted : Option (Bor (List ℕ)) → Option (List ℕ)
text_wanted t = option_map (λ t. t.now) t

-- all that is wanted of a case holds
abbrev pub is_wanted : Wanted → Case → Bool
is_wanted w c =
    is_of_kind w.kind c.origin.kind && (is_among (text_wanted w.numbers) c.seq && (has_text (text_wanted w.name) c.origin.name && (is_number w.pid c.origin.pid
    && (has_user w.user c && (has_text (text_wanted w.program) (program_in c)
    && (is_number w.signal c.origin.signal && (is_since w.since c.origin.time && (is_until w.until c.origin.time
    && (has_text (text_wanted w.label) c.label && is_kept w.pinned c.pinned)))))))))

-- how many of so many are before the last ones
abbrev pub skipped : Option ℕ → ℕ → ℕ
skipped None count = 0
skipped (Some last) count = count - last

-- the last so many, or all
abbrev pub last_of : {A : Type 0} → Option ℕ → List A → List A
last_of last cs = drop (skipped last (length cs)) cs

-- the cases that are wanted; of these the last so many, if that is asked
abbrev pub chosen : Wanted → List Case → List Case
chosen w cases = last_of w.last (filter (is_wanted w) cases)
