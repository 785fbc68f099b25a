-- Which group a core is in.
use Rattle.std.specs.Prelude.{ℕ, ◌+◌, ◌-◌, ◌*◌, ◌^◌, ◌==◌, Bool, true, false, not, ◌&&◌, ◌||◌, List, [], ◌∷◌, filter, find, fold, length, map, max, Option, None, Some, option_map, if◌then◌else◌}
use Rattle.std.specs.List.{list_all}
use Rattle.std.proofs.Math.Bool.{beq}
use Rattle.crash_signatures.specs.declared.groups.Core.{Core}
use Rattle.crash_signatures.specs.declared.groups.Member.{Member}

abbrev pub is_at : ℕ → Option ℕ → Bool
is_at place None = false
is_at place (Some its) = its == place

-- a core of this place whose frames are all there
abbrev pub is_home : ℕ → Core → Bool
is_home place c = is_at place c.place && not c.is_missing

abbrev pub first_home : List Core → ℕ → Option ℕ
first_home cores place = option_map (λ c. c.signature) (find (is_home place) cores)

-- a core has this signature, unless it is of another place or frames are missing
abbrev pub has_no_other : ℕ → ℕ → Core → Bool
has_no_other place signature c = not (is_home place c) || c.signature == signature

abbrev pub if_sole : List Core → ℕ → Option ℕ → Option ℕ
if_sole cores place None = None
if_sole cores place (Some signature) = if list_all (has_no_other place signature) cores then Some signature else None

-- the signature of the cores of a place whose frames are all there, if there are such and all of them have it
abbrev pub home_at : List Core → ℕ → Option ℕ
home_at cores place = if_sole cores place (first_home cores place)

abbrev pub home_in : List Core → Option ℕ → Option ℕ
home_in cores None = None
home_in cores (Some place) = home_at cores place

-- the signature that a core of which frames are missing perhaps has
abbrev pub home_of : List Core → Core → Option ℕ
home_of cores c = if c.is_missing then home_in cores c.place else None

-- a core with the group that it is in: that of its home, else that of its signature
abbrev pub with_home : Core → Option ℕ → Member
with_home c None = record { number = c.number; group = c.signature; is_perhaps = false }
with_home c (Some home) = record { number = c.number; group = home; is_perhaps = true }

abbrev pub member_of : List Core → Core → Member
member_of cores c = with_home c (home_of cores c)

abbrev pub members : List Core → List Member
members cores = map (member_of cores) cores

-- a member of this group, that is certain or is not
abbrev pub is_in : ℕ → Bool → Member → Bool
is_in signature is_perhaps m = m.group == signature && beq m.is_perhaps is_perhaps

-- the signatures of groups, each once, in the order of their first members
abbrev pub signatures : List Member → List ℕ
signatures [] = []
signatures (m ∷ ms) = m.group ∷ filter (λ s. not (s == m.group)) (signatures ms)

-- a group: its signature, the numbers of the cores that have it, and those of the cores that perhaps have it
pub record GroupSaid : Type 0 where
  pub signature : ℕ
  pub cases : List ℕ
  pub perhaps : List ℕ

-- the newest case that is certain
abbrev pub newest : GroupSaid → ℕ
newest g = fold max 0 g.cases

-- how many cores, both counted
abbrev pub size : GroupSaid → ℕ
size g = length g.cases + length g.perhaps

-- The rank of a group in the order: the more cores, the lower; and of groups with equally many, the newer the newest case that is
-- certain, the lower. All numbers are below 2 ^ 64.
abbrev pub rank : GroupSaid → ℕ
rank g = (2 ^ 64 - 1 - size g) * 2 ^ 64 + (2 ^ 64 - 1 - newest g)
