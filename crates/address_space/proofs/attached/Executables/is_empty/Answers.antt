use Rattle.std.proofs.Common.{map, length, ap, sym, ◌∙◌}
use Rattle.std.proofs.lemmas.List.{nil_from_length}
use Rattle.std.proofs.lemmas.Bool.{eqb-true}
use Rattle.address_space.specs.AttachedWords.{attached_view}
use Rattle.address_space.proofs.attached.Executables.is_empty.Goals as goal

pub returns : goal.returns
returns c empty =
    ap (map attached_view) (sym c.as_slice.ensures.value ∙ nil_from_length c.as_slice.result.now (eqb-true (length c.as_slice.result.now) 0 (sym c.is_empty.ensures ∙ empty)))
