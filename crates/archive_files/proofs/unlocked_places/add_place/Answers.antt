use Rattle.std.proofs.Common.{◌++◌, ◌∷◌, [], ℕ, List, ap, subst, sym, ◌∙◌}
use Rattle.intake.specs.declared.ranges.ByteRange.{ByteRange}
use Rattle.archive_files.specs.UnlockedPlaces.{CoversCases}
use Rattle.archive_files.proofs.UnlockedPlaceLemmas.{covers_more}
use Rattle.archive_files.proofs.unlocked_places.add_place.Goals as goal

pub returns-in-Ok-clause-covers : goal.returns-in-Ok-clause-covers
returns-in-Ok-clause-covers g c =
    let D = g.D.Disk in
    let a = c.args.archive.now in
    let old = c.args.places.now in
    let numbers = c.in-Ok.ensures.items in
    let ranges = c.in_ok-extend_from_slice.ensures.items ∙ ap (λ (l : List ByteRange). old.ranges.items ++ l) c.deref.ensures.value in
    subst (λ (ns : List ℕ). CoversCases D a ns c.extend_from_slice.new.self.items) (sym numbers)
    (subst (λ (rs : List ByteRange). CoversCases D a (old.numbers.items ++ c.args.seq ∷ []) rs) (sym ranges)
    (covers_more D a old.numbers.items old.ranges.items c.args.seq c.in_ok-ranges.ranges.items c.requires.covers c.in_ok-ranges.ensures))
