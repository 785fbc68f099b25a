-- Texts told one behind the other, by lines and over lists.
use Rattle.std.proofs.Common.{◌≡◌, ℕ, List, [], ◌++◌, refl, sym, ap, ◌∙◌, append_assoc}
use Rattle.std.proofs.Common.{ℤ, SFits, to_z, of_z}
use Rattle.std.specs.Int.{Width}
use Rattle.std.proofs.lemmas.Int.{to_z-of_z}
use Rattle.std.proofs.lemmas.List.{append-nil}
use Rattle.script_streams.specs.PrintLaws.{prints_then, prints_as, prints_nothing}
use Rattle.script_streams.specs.Printing.{Sink, Prints}

-- of a whole text all was told but what is left
pub record PrintsFront (old new : Sink) (whole left : List ℕ) : Type 0 where
  pub front : List ℕ
  pub split : front ++ left ≡ whole
  pub told : Prints old new front

pub front_begins : {a : Sink} {whole : List ℕ} → PrintsFront a a whole whole
front_begins = record { front = []; split = refl; told = prints_nothing }

pub front_grows : {a b c : Sink} {whole left x more : List ℕ} → PrintsFront a b whole left → left ≡ x ++ more → Prints b c x → PrintsFront a c whole more
front_grows {x = x} {more = more} before is next = record {
  front = before.front ++ x;
  split = append_assoc before.front x more ∙ sym (ap (λ (t : List ℕ). before.front ++ t) is) ∙ before.split;
  told = prints_then before.told next;
}

pub front_ends : {a b : Sink} {whole left : List ℕ} → PrintsFront a b whole left → left ≡ [] → Prints a b whole
front_ends before is = prints_as (sym (append-nil before.front) ∙ sym (ap (λ (t : List ℕ). before.front ++ t) is) ∙ before.split) before.told

-- a signed number that is handed on
pub signed_as : (w : Width) (x z : ℤ) → x ≡ z → SFits w x → to_z w (of_z w x) ≡ z
signed_as w x z is fits = to_z-of_z w x fits ∙ is
