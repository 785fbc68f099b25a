use Rattle.std.proofs.Common.{sym, subst}
use Rattle.elf_view.specs.declared.faults.Want.TheVariants.{Core}
use Rattle.case_info.specs.Fronts.{IsFront}
use Rattle.case_info.proofs.addresses.core_address.Goals as goal

pub returns : goal.returns
returns g c =
    let seen = c.in_ok-front.ensures in
    (seen.0, c.front_of.new.archive, seen.1, c.address_by_front.ensures seen.0 (subst (λ b. IsFront Core b seen.0) (sym c.deref.ensures.value) seen.2))
