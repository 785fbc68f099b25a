-- The rows of groups.
use Rattle.std.specs.Prelude.{ℕ, ◌==◌, Bool, true, false, List, slice_get, Option, None, Some, if◌then◌else◌}
use Rattle.std.specs.List.{filter_map, list_any}
use Rattle.std.specs.Option.{option_map}
use Rattle.crash_signatures.specs.Groups.{GroupSaid}
use Rattle.journal_layout.specs.Case.{Case}
use Rattle.group_tables.specs.Values.{MemberSaid, RowSaid, crash_said}
use Rattle.group_tables.specs.declared.numbers.CrashedCore.{CrashedCore}

abbrev pub is_among : List ℕ → ℕ → Bool
is_among numbers n = list_any (λ k. k == n) numbers

-- whether the case of this number is perhaps of a group; none, if it is not of it at all
abbrev pub place_in : GroupSaid → ℕ → Option Bool
place_in g n = if is_among g.cases n then Some false else if is_among g.perhaps n then Some true else None

-- a case as a core of a group, if it is one
abbrev pub member_of : GroupSaid → Case → Option MemberSaid
member_of g c = option_map (λ (is_perhaps : Bool). record { case = c; is_perhaps = is_perhaps }) (place_in g c.seq)

-- the cores of a group, in the order of the cases
abbrev pub members_of : List Case → GroupSaid → List MemberSaid
members_of cases g = filter_map (member_of g) cases

-- the row of a group, by the crash of its signature
abbrev pub row_with : List Case → GroupSaid → Option CrashedCore → Option RowSaid
row_with cases g None = None
row_with cases g (Some core) = Some (record { crash = crash_said core.crash; members = members_of cases g })

abbrev pub row_of : List Case → List CrashedCore → GroupSaid → Option RowSaid
row_of cases cores g = row_with cases g (slice_get cores g.signature)

-- the rows of groups, whose signatures have the numbers of these cores
abbrev pub rows_of : List Case → List CrashedCore → List GroupSaid → List RowSaid
rows_of cases cores groups = filter_map (row_of cases cores) groups
