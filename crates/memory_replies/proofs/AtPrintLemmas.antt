-- One text told after the other.
use Rattle.std.proofs.Common.{◌≡◌, ℕ, List, [], ◌++◌, sym, append_assoc, ap, refl, ◌∙◌}
use Rattle.std.proofs.lemmas.List.{append-nil}
use Rattle.script_streams.specs.PrintLaws.{prints_then, prints_as, prints_nothing}
use Rattle.script_streams.specs.Printing.{Sink, Prints}

-- A text was told as far as the rest: it and the rest are the whole.
pub record PrintsUpTo (old new : Sink) (whole rest : List ℕ) : Type 0 where
  pub so_far : List ℕ
  pub split : so_far ++ rest ≡ whole
  pub states : Prints old new so_far

-- nothing was told yet
pub up_to_start : {a : Sink} {whole : List ℕ} → PrintsUpTo a a whole whole
up_to_start = record { so_far = []; split = refl; states = prints_nothing }

-- a front of the rest is told
pub up_to_then : {a b c : Sink} {whole rest x others : List ℕ} → rest ≡ x ++ others → PrintsUpTo a b whole rest → Prints b c x → PrintsUpTo a c whole others
up_to_then {x = x} {others = others} is before next = record {
  so_far = before.so_far ++ x;
  split = append_assoc before.so_far x others ∙ ap (λ (t : List ℕ). before.so_far ++ t) (sym is) ∙ before.split;
  states = prints_then before.states next;
}

-- all of it is told
pub up_to_end : {a b : Sink} {whole rest : List ℕ} → rest ≡ [] → PrintsUpTo a b whole rest → Prints a b whole
up_to_end is before = prints_as (sym (append-nil before.so_far) ∙ ap (λ (t : List ℕ). before.so_far ++ t) (sym is) ∙ before.split) before.states

-- nothing was told yet, and the rest is the whole
pub up_to_start_as : {a : Sink} {whole rest : List ℕ} → whole ≡ rest → PrintsUpTo a a whole rest
up_to_start_as is = record { so_far = []; split = sym is; states = prints_nothing }
