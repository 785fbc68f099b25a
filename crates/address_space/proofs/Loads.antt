-- The PT_LOADs among program headers, with their numbers and without.
use Rattle.std.proofs.Common.{◌≡◌, ℕ, ◌+◌, Bool, true, false, cond, List, [], ◌∷◌, map, filter, refl, ap, ◌∙◌}
use Rattle.elf_view.specs.Header.{SegmentView, LoadView, is_load, loads_from}
use Rattle.address_space.specs.Source.{Space, mapping_in, mappings_of}

either : {A : Type 0} → (f : SegmentView → A) (t : Bool) (l : LoadView) (xs : List LoadView) (ys : List SegmentView) → map (λ (x : LoadView). f x.segment) xs ≡ map f ys → map (λ (x : LoadView). f x.segment) (cond t (l ∷ xs) xs) ≡ map f (cond t (l.segment ∷ ys) ys)
either f true l xs ys same = ap (λ others. f l.segment ∷ others) same
either f false l xs ys same = same

loads_are : {A : Type 0} → (f : SegmentView → A) (i : ℕ) (segments : List SegmentView) → map (λ (x : LoadView). f x.segment) (loads_from i segments) ≡ map f (filter is_load segments)
unfolding loads_from
loads_are f i [] = refl
loads_are f i (s ∷ segments) = either f (is_load s) (record { number = i; segment = s }) (loads_from (i + 1) segments) (filter is_load segments) (loads_are f (i + 1) segments)

-- the mappings of the PT_LOADs that are told one by one are those of the program headers
pub mappings_are : (space : Space) (loads : List LoadView) → loads ≡ loads_from 0 space.segments → map (λ (l : LoadView). mapping_in space l.segment) loads ≡ mappings_of space
unfolding mappings_of
mappings_are space loads are = ap (map (λ (l : LoadView). mapping_in space l.segment)) are ∙ loads_are (mapping_in space) 0 space.segments
