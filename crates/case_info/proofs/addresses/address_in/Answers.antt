use Rattle.std.proofs.Common.{sym, subst, ◌∙◌}
use Rattle.journal_layout.specs.declared.entry.Kind.{Kind}
use Rattle.case_screens.specs.RegisterPlaceWords.{place_said}
use Rattle.case_info.specs.Addresses.{SeesAddressOf, said}
use Rattle.case_info.proofs.addresses.address_in.Goals as goal

pub returns-in_ok-core_address-in-Core : goal.returns-in_ok-core_address-in-Core
returns-in_ok-core_address-in-Core g c =
    let found = c.in_ok-kind_of.ensures in
    let address = said c.in_ok-core_address-in-Core.field-0 in
    (found.0, found.1, subst (λ (kind : Kind). SeesAddressOf g.D.Disk c.args.archive.now c.args.seq (place_said c.args.at) address kind) (sym (found.2 ∙ c.in-Core.is)) c.in_ok-core_address-in-Core.ensures)
