-- One text printed after the other.
use Rattle.std.proofs.Common.{◌≡◌, ℕ, List, [], ◌++◌, sym, subst, append_assoc}
use Rattle.std.proofs.lemmas.List.{append-nil}
use Rattle.script_streams.specs.Printing.{Sink, Told, Prints}

pub prints_then : {a b c : Sink} {x y : List ℕ} → Prints a b x → Prints b c y → Prints a c (x ++ y)
prints_then {a} {b} {c} {x} {y} first second start count name told so_far =
    subst (Told start count name c) (append_assoc told x y) (second start count name (told ++ x) (first start count name told so_far))

pub prints_nothing : {a : Sink} → Prints a a []
prints_nothing {a} start count name told so_far = subst (Told start count name a) (sym (append-nil told)) so_far

-- the same text
pub prints_as : {a b : Sink} {x y : List ℕ} → x ≡ y → Prints a b x → Prints a b y
prints_as {a} {b} {x} {y} is first start count name told so_far = subst (λ (t : List ℕ). Told start count name b (told ++ t)) is (first start count name told so_far)
