-- The text of the groups of cores.
use Rattle.std.proofs.Common.{◌≡◌, ◌==◌, ◌||◌, ℕ, Bool, true, false, not, cond, length, List, [], ◌∷◌, map, Option, None, Some, Result, Ok, Err, IfOk, refl, ap, sym, ◌∙◌}
use Rattle.std.specs.Borrow.{Bor}
use Rattle.std.specs.List.{find, list_all, list_any}
use Rattle.std.specs.Option.{option_map}
use Rattle.archive_files.specs.declared.collected.Collected.{Collected}
use Rattle.archive_files.specs.declared.failures.Refusal.{Refusal}
use Rattle.group_tables.specs.Table.{group_screen, groups_table}
use Rattle.group_tables.specs.Values.{RowSaid, row_said}
use Rattle.case_tables.specs.declared.zones.Zone.{Zone}
use Rattle.group_tables.specs.declared.numbers.CrashedCore.{CrashedCore}
use Rattle.group_tables.specs.declared.rows.GroupRow.{GroupRow}
use Rattle.intake.specs.Parts.{Parts, state_of}
use Rattle.archive_files.specs.UnlockedFinding.{has_number}
use Rattle.case_info.specs.Groups.{PrintsBy, PrintsFound, PrintsRows, PrintsThere, has_member}
use Rattle.case_info.specs.declared.groups.GroupsForm.{GroupsForm}

pub any_mapped : {A B : Type 0} (test : B → Bool) (f : A → B) (xs : List A) → list_any test (map f xs) ≡ list_any (λ x. test (f x)) xs
any_mapped test f [] = refl
any_mapped test f (x ∷ xs) = ap (λ (t : Bool). test (f x) || t) (any_mapped test f xs)

pub find_mapped : {A B : Type 0} (test : B → Bool) (f : A → B) (xs : List A) → find test (map f xs) ≡ option_map f (find (λ (x : A). test (f x)) xs)
find_mapped test f [] = refl
find_mapped test f (x ∷ xs) = elim (test (f x)) as (λ t. cond t (Some (f x)) (find test (map f xs)) ≡ option_map f (cond t (Some x) (find (λ y. test (f y)) xs))) [ true ↦ refl | false ↦ find_mapped test f xs ]

-- the group that was found, as a row
pub found_mapped : (seq : ℕ) (rows : List GroupRow) (o : Option (Bor GroupRow)) → option_map (λ (r : Bor GroupRow). r.now) o ≡ find (λ (r : GroupRow). has_member seq (row_said r)) rows
    → option_map (λ (r : Bor GroupRow). row_said r.now) o ≡ find (has_member seq) (map row_said rows)
found_mapped seq rows o is = twice o ∙ ap (option_map row_said) is ∙ sym (find_mapped (has_member seq) row_said rows)
  where
    twice : (q : Option (Bor GroupRow)) → option_map (λ (r : Bor GroupRow). row_said r.now) q ≡ option_map row_said (option_map (λ (r : Bor GroupRow). r.now) q)
    twice None = refl
    twice (Some r) = refl

-- what holds of the text that is told
module _ (P Q : List ℕ → Type 0) (so : (text : List ℕ) → P text → Q text) (zone : Zone) (latest : ℕ) where
  found_so : (o : Option RowSaid) → PrintsFound zone latest o P → PrintsFound zone latest o Q
  found_so None states = states
  found_so (Some row) states = so (group_screen zone latest row) states

  pub rows_so : (case : Option ℕ) (rows : List RowSaid) → PrintsRows zone case latest rows P → PrintsRows zone case latest rows Q
  rows_so None rows states = so (groups_table zone latest rows) states
  rows_so (Some seq) rows states = found_so (find (has_member seq) rows) states

-- all cases are there, and the groups are told
pub prints_by : {D : Type 0} (a : Parts D) (numbers : List ℕ) (cores : List CrashedCore) (form : GroupsForm) (r : Result (Collected × Bool) Refusal) → list_all (has_number (state_of a)) numbers ≡ true → IfOk r (PrintsThere a cores form)
    → PrintsBy numbers cores form (Ok a) r
prints_by a numbers cores form (Ok told) all is = (all, is)
prints_by a numbers cores form (Err why) all is = _

-- whether some are there
pub some_of : {A : Type 0} (count : ℕ) (xs ys : List A) (is_empty : Bool) → is_empty ≡ (count == 0) → count ≡ length xs → xs ≡ ys → not is_empty ≡ not (length ys == 0)
some_of {A} count xs ys is_empty is long same = ap not is ∙ ap (λ n. not (n == 0)) long ∙ ap (λ (zs : List A). not (length zs == 0)) same
