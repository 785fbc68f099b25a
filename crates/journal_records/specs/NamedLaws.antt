-- Two names are behind equal keys if and only if they are the same.
use Rattle.std.proofs.Common.{◌≡◌, ℕ, Bool, true, false, List, refl, sym, ap}
use Rattle.std.proofs.lemmas.Map.Text.{is_eq-slice_cmp}
use Rattle.std.proofs.lemmas.Slice.Eq.{bytes_eq-Decides}
use Rattle.std.specs.Ordering.{nat_cmp, is_eq, ordering_then}
use Rattle.std.specs.Cmp.{nat_cmp_is}
use Rattle.std.specs.Cmp.Lexicographic.{slice_cmp}
use Rattle.std.specs.Str.{bytes_eq}
use Rattle.std.specs.declared.cmp.Ordering.{Ordering}
use Rattle.std.specs.declared.cmp.Ordering.TheVariants.{Less, Equal, Greater}
use Rattle.journal_records.specs.Named.{last_number, key_of, key_cmp}

-- the same names have the same number
first_same : (a b : List ℕ) → bytes_eq a b ≡ true → nat_cmp (last_number a) (last_number b) ≡ Equal
first_same a b same = sym (nat_cmp_is (last_number a) (last_number b) Equal (ap last_number ((bytes_eq-Decides a b).0 same)))

pub same_key : (a b : List ℕ) → is_eq (key_cmp (key_of a) (key_of b)) ≡ bytes_eq a b
same_key a b = of (nat_cmp (last_number a) (last_number b)) (bytes_eq a b) refl (first_same a b) (is_eq-slice_cmp a b)
  where
    of : (o : Ordering) (t : Bool) → bytes_eq a b ≡ t → (bytes_eq a b ≡ true → o ≡ Equal) → is_eq (slice_cmp nat_cmp a b) ≡ bytes_eq a b → is_eq (ordering_then o (slice_cmp nat_cmp a b)) ≡ bytes_eq a b
    of Equal t is first rest = rest
    of Less true is first rest = absurd (let e : Less ≡ Equal = first is in cc)
    of Less false is first rest = sym is
    of Greater true is first rest = absurd (let e : Greater ≡ Equal = first is in cc)
    of Greater false is first rest = sym is
