-- The first function whose name has no end, as the functions go by.
use Rattle.std.proofs.Common.{◌≡◌, ℕ, true, false, cond, not, List, [], ◌∷◌, Some, None, find, sym, ap, ◌∙◌}
use Rattle.std.specs.Option.{option_map}
use Rattle.symbols.specs.SymbolTable.{ends_in_nul, is_unended, name_fault, name_fault_at}
use Rattle.symbols.specs.declared.functions.Function.{Function}

-- one whose name ends leaves the others to be asked; one whose name does not is at fault
pub name_passes : (s : List ℕ) (fs rest : List Function) (f : Function) → fs ≡ f ∷ rest → true ≡ ends_in_nul s f.name → name_fault s fs ≡ name_fault s rest
name_passes s fs rest f is ends =
    ap (name_fault s) is ∙ ap (λ t. option_map name_fault_at (cond (not t) (Some f) (find (is_unended s) rest))) (sym ends)

pub name_fails : (s : List ℕ) (fs rest : List Function) (f : Function) → fs ≡ f ∷ rest → false ≡ ends_in_nul s f.name → name_fault s fs ≡ Some (name_fault_at f)
name_fails s fs rest f is open_end =
    ap (name_fault s) is ∙ ap (λ t. option_map name_fault_at (cond (not t) (Some f) (find (is_unended s) rest))) (sym open_end)

pub no_names : (s : List ℕ) (fs : List Function) → fs ≡ [] → name_fault s fs ≡ None
no_names s fs is = ap (name_fault s) is
