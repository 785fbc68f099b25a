-- An address whose value an executable has.
use Rattle.std.proofs.Common.{◌≡◌, ◌<◌, ℕ, ◌-◌, leb, ltb, cond, Bool, true, false, List, [], ◌∷◌, get_or, length, drop, Option, None, Some, refl, ap, arith}
use Rattle.std.specs.Prelude.{slice_get}
use Rattle.std.proofs.lemmas.Bool.{ltb-true}
use Rattle.std.proofs.lemmas.List.{length-take, length-drop}
use Rattle.elf_view.specs.Field.{part}
use Rattle.elf_view.specs.Header.{SegmentView}
use Rattle.core_notes.specs.FileList.{FileView}
use Rattle.address_space.specs.Source.{ExecutableView, Place, Space, content_by, cut_off, decider, dumped, entry_at, executable_named, filed, from_file, in_file, nowhere, place_at, placed, spot_in, undumped, unwritten}
use Rattle.address_space.specs.Pieces.{content_from}

-- the executable has the byte
abbrev HasByte : ℕ → Place → Type 0
HasByte a nowhere = Unit {0}
HasByte a (dumped i s) = Unit {0}
HasByte a (cut_off i) = Unit {0}
HasByte a (unwritten i e) = Unit {0}
HasByte a (in_file i e x) = (spot_in a e.1).offset < length x

filed_has : (a i : ℕ) (e : ℕ × FileView) (o : Option ExecutableView) → HasByte a (filed a i e o)
filed_has a i e None = tt
filed_has a i e (Some x) = by (ltb (spot_in a e.1).offset (length x.image)) refl
  where
    by : (t : Bool) → ltb (spot_in a e.1).offset (length x.image) ≡ t → HasByte a (cond t (in_file i e x.image) (unwritten i (Some e)))
    by true is = ltb-true (spot_in a e.1).offset (length x.image) is
    by false is = tt

undumped_has : (space : Space) (a i : ℕ) (e : Option (ℕ × FileView)) → HasByte a (undumped space a i e)
undumped_has space a i None = tt
undumped_has space a i (Some e) = filed_has a i e (executable_named space e.1.name)

placed_has : (space : Space) (a : ℕ) (o : Option (ℕ × SegmentView)) → HasByte a (placed space a o)
placed_has space a None = tt
placed_has space a (Some d) =
    elim (leb d.1.filesz (a - d.1.vaddr)) as (λ t. HasByte a (cond t (undumped space a d.0 (entry_at space.files a)) (cond (leb (length d.1.bytes) (a - d.1.vaddr)) (cut_off d.0) (dumped d.0 d.1)))) [
      | true ↦ undumped_has space a d.0 (entry_at space.files a)
      | false ↦ elim (leb (length d.1.bytes) (a - d.1.vaddr)) as (λ t. HasByte a (cond t (cut_off d.0) (dumped d.0 d.1))) [ true ↦ tt | false ↦ tt ]
    ]

at_has : (space : Space) (a : ℕ) → HasByte a (place_at space a)
unfolding place_at
at_has space a = placed_has space a (decider space a)

some_by : (p : Place) (a : ℕ) (bytes : List ℕ) → HasByte a p → content_by (λ b k. part b k 1) a p ≡ from_file bytes → 0 < length bytes
some_by nowhere a bytes has is = cc
some_by (dumped i s) a bytes has is = cc
some_by (cut_off i) a bytes has is = cc
some_by (unwritten i e) a bytes has is = cc
some_by (in_file i e x) a bytes has is =
    let off = (spot_in a e.1).offset in
    let same : part x off 1 ≡ bytes = cc in
    let long = ap length same in
    omega (arith, long, length-take 1 (drop off x), length-drop off x, has)

pub some_bytes : (space : Space) (a : ℕ) (bytes : List ℕ) → content_from space a 1 ≡ from_file bytes → 0 < length bytes
some_bytes space a bytes is = some_by (place_at space a) a bytes (at_has space a) is

-- the first of some bytes
pub first_is : (bytes : List ℕ) → 0 < length bytes → slice_get bytes 0 ≡ Some (get_or bytes 0 0)
first_is [] h = absurd (omega (arith, h))
first_is (x ∷ xs) h = refl
