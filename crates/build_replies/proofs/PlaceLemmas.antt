-- The places of fronts.
use Rattle.std.proofs.Common.{Bor, ◌≡◌, ◌<◌, ℕ, zero, suc, ◌-◌, List, [], ◌∷◌, ◌++◌, get_or, length, map, find, None, Some, refl, sym, ap, subst, ◌∙◌, arith}
use Rattle.std.specs.Prelude.{slice_get}
use Rattle.std.specs.Option.{option_and_then, option_map}
use Rattle.std.proofs.lemmas.List.{length-map}
use Rattle.std.proofs.lemmas.Option.{slice_get-get_or, slice_get-map}
use Rattle.core_notes.specs.FileList.{FileView}
use Rattle.elf_view.specs.Header.{SegmentView}
use Rattle.address_space.specs.Pieces.{PieceView, pieces_of}
use Rattle.address_space.specs.Source.{ExecutableView, Space, is_named}
use Rattle.address_space.specs.StretchWords.{piece_in, shown_in}
use Rattle.address_space.specs.Whole.{AreHeldWithin, IsFrontOf}
use Rattle.address_space.specs.declared.source.Stretch.{Stretch}
use Rattle.build_ids.specs.BuildId.{build_id_of}
use Rattle.elf_view.specs.Sound.{first_fault}
use Rattle.build_replies.specs.Builds.{bytes_of, first_bytes, front_of, id_named}
use Rattle.build_replies.specs.TableWords.{path_of}
use Rattle.build_replies.specs.PlaceWords.{front_by, front_in}
use Rattle.build_replies.specs.declared.places.FrontPlace.{FrontPlace}
use Rattle.elf_view.specs.Field.{part}

-- an image that begins with the bytes at hand begins with those of the stretches
pub begins_too : (core first : List ℕ) (size count : ℕ) (b : List ℕ) → first ≡ core → count ≡ size → IsFrontOf core size b → IsFrontOf first count b
begins_too core first size count b is same begins = subst (λ n. IsFrontOf first n b) (sym same) (subst (λ f. IsFrontOf f size b) (sym is) begins)

-- all of an image is within it
pub all_within : (size first n : ℕ) (ss : List SegmentView) → AreHeldWithin size first n 0 size ss
all_within size first n [] = tt
all_within size first n (s ∷ ss) = ((λ a after before covers file image. (omega arith, image)), all_within size first n ss)

module _ (space : Space) (f : FileView) (left : List PieceView) (are : left ≡ pieces_of space f.start (f.past - f.start)) where
  -- the bytes of the first piece
  pub piece_is : (b : List ℕ) (s : Stretch) (others : List PieceView) → left ≡ piece_in b s ∷ others → front_by f.name (bytes_of (shown_in b s.length s.kind)) ≡ front_of space f
  unfolding front_of
  piece_is b s others first = ap (λ (ps : List PieceView). front_by f.name (first_bytes ps)) (sym first ∙ are)

  -- no piece has none
  pub none_is : left ≡ [] → front_by f.name [] ≡ front_of space f
  unfolding front_of
  none_is none = ap (λ (ps : List PieceView). front_by f.name (first_bytes ps)) (sym none ∙ are)

-- no bytes have no build ID
pub no_id : build_id_of [] ≡ None
unfolding build_id_of first_fault
no_id = refl

-- a place of nothing
pub no_bytes : (p : FrontPlace) (path : Bor (List ℕ)) (b : List ℕ) → p.path ≡ path → part b p.start p.count ≡ [] → front_in b p ≡ front_by path.now []
no_bytes p path b is none = ap (front_by p.path.now) none ∙ ap (λ (x : Bor (List ℕ)). front_by x.now []) is

-- each of the places, and of one place more
pub each_more : (P : FrontPlace → Type 0) (xs more : List FrontPlace) (x : FrontPlace) → more ≡ xs ++ x ∷ [] → ((k : ℕ) (p : FrontPlace) → slice_get xs k ≡ Some p → P p) → P x → (k : ℕ) (p : FrontPlace) → slice_get more k ≡ Some p → P p
each_more P xs more x after all one k p at = by xs all k (subst (λ ys. slice_get ys k ≡ Some p) after at)
  where
    by : (ys : List FrontPlace) → ((j : ℕ) (q : FrontPlace) → slice_get ys j ≡ Some q → P q) → (j : ℕ) → slice_get (ys ++ x ∷ []) j ≡ Some p → P p
    by [] each zero is = let same : x ≡ p = cc in subst P same one
    by [] each (suc j) is = cc
    by (y ∷ ys) each zero is = each zero p is
    by (y ∷ ys) each (suc j) is = by ys (λ i q. each (suc i) q) j is

-- a row of a table, by its number among the names
pub row_at : (rows : List ExecutableView) (i : ℕ) → i < length (map path_of rows) → slice_get rows i ≡ Some (get_or rows i (front_by [] []))
row_at rows i h = let long = length-map rows path_of in slice_get-get_or rows i (front_by [] []) (omega (arith, h, long))

pub name_at : (rows : List ExecutableView) (i : ℕ) (x : ExecutableView) → Some x ≡ slice_get rows i → slice_get (map path_of rows) i ≡ Some x.path
name_at rows i x is = slice_get-map path_of rows i ∙ ap (option_map path_of) (sym is)

-- no front of that name
pub none_named : (xs : List ExecutableView) (name bytes : List ℕ) → bytes ≡ [] → None ≡ find (is_named name) xs → build_id_of bytes ≡ id_named xs name
none_named xs name bytes none missing = ap build_id_of none ∙ no_id ∙ ap (option_and_then (λ (x : ExecutableView). build_id_of x.image)) missing
