-- Which function an address belongs to. A function covers the addresses from its st_value on for st_size bytes (System V
-- gABI, "Symbol Table"); one of an unknown size, st_size 0, covers its st_value.
use Rattle.std.specs.Prelude.{◌≡◌, ℕ, ◌+◌, ◌==◌, ◌&&◌, ◌||◌, nat_lt, nat_le, if◌then◌else◌, Bool, false, List, [], ◌∷◌, Option, None, Some, All, Contains, IsTrue}
use Rattle.symbols.specs.declared.functions.Function.{Function}

abbrev pub covers : ℕ → Function → Bool
covers v f = nat_le f.value v && (nat_lt v (f.value + f.size) || v == f.value)

-- Which of two functions that cover an address gives it its name: the one with the greater value, then the one with the lower rank (GLOBAL, WEAK, LOCAL, other bindings),
-- then the one that is first in the table.
unfoldable pub is_before : Function → Function → Bool
is_before f g =
    if f.value == g.value then (if f.rank == g.rank then nat_lt f.index g.index else nat_lt f.rank g.rank)
    else nat_lt g.value f.value

-- the one of two that is before the other
abbrev pub nearer : Function → Option Function → Option Function
nearer f None = Some f
nearer f (Some g) = if is_before f g then Some f else Some g

-- the best of others, once a function is asked that may cover v
abbrev pub best_with : ℕ → Function → Option Function → Option Function
best_with v f best = if covers v f then nearer f best else best

-- the function, if any, that covers v and is before the others that do
abbrev pub named : ℕ → List Function → Option Function
named v [] = None
named v (f ∷ fs) = best_with v f (named v fs)

-- f is one of the functions and covers v, and none that covers v is before it
pub record IsNamed (v : ℕ) (fs : List Function) (f : Function) : Type 0 where
  pub among : Contains fs f
  pub covering : IsTrue (covers v f)
  pub first : All (λ g. IsTrue (covers v g) → ¬ IsTrue (is_before g f)) fs

-- none of the functions covers v
abbrev pub IsUnnamed : ℕ → List Function → Type 0
IsUnnamed v fs = All (λ f. covers v f ≡ false) fs
