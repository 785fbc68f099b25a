use Rattle.std.proofs.Common.{◌-◌, ◌^◌, refl, sym, ap, subst, ◌∙◌}
use Rattle.std.proofs.lemmas.Result.{err_from_is_err_and}
use Rattle.address_space.specs.Whole.{space_in}
use Rattle.case_queries.specs.Finding.{IsAllFound}
use Rattle.case_queries.specs.Walking.{LeadsOn, address_after}
use Rattle.case_queries.proofs.FindLemmas.{at_start, finds_all, finds_no_memory, finds_none, leads_address, some_seen, walk_begins}
use Rattle.address_space.specs.Source.{Space}
use Rattle.windowed_search.specs.Rising.{IsRising}
use Rattle.windowed_search.specs.ScanWords.{Aim, for_bytes, for_texts, IsAim, IsFound, aim_of}
use Rattle.windowed_search.specs.declared.memory_scan.Found.{Found}
use Rattle.windowed_search.specs.declared.memory_scan.Found.TheVariants as found
use Rattle.windowed_search.proofs.RisingLemmas.{last_value, occurs_by_address, texts_by_address}
use Rattle.case_queries.proofs.find.search_windows.Goals as goal

pub returns-in_default : goal.returns-in_default
returns-in_default g c before space reads leads rises =
    let image = c.args.image in
    let now = c.args.archive.now in
    let x = some_seen g.D.Disk before image now now image.front.now 0 image.front.now c.requires.has reads (at_start g.D.Disk before image now reads c.requires.short) in
    (x.0, x.1, x.2)

pub returns-in_err-walk : goal.returns-in_err-walk
returns-in_err-walk g c before space reads leads rises =
    let p = err_from_is_err_and c.from_residual.result c.from_residual.ensures.1 in
    let image = c.args.image in
    let aim = (aim_of c.args.sought) in
    let now = c.args.archive.now in
    let start = walk_begins g.D.Disk before image space aim now _ reads c.requires.short refl c.in-Ok.ensures.items c.new.ensures.aim c.new.ensures.scanned in
    let on = subst (λ a. LeadsOn space image 0 a c.args.steps.now (2 ^ 64 - 1)) (sym c.new.ensures.address) leads in
    rw (p.1, p.2) (finds_none g.D.Disk before image space aim now c.walk.new.archive c.walk.new.self c.in_err-walk.field-0.0 c.requires.has reads (c.in_err-walk.ensures.walks before space aim (2 ^ 64 - 1) start on))

all_before : (sp : Space) (aim : Aim) (f : Found) → IsAim aim → IsRising 0 sp.segments → IsFound sp aim (2 ^ 64 - 1) f → IsAllFound sp aim f
all_before sp (for_bytes needle) (found.Addresses v) some rises is = is ∙ sym (occurs_by_address sp needle some rises)
all_before sp (for_texts least) (found.Texts t) some rises is = (is.told ∙ sym (texts_by_address sp least rises), is.lent)
all_before sp (for_bytes needle) (found.Texts t) some rises is = is
all_before sp (for_texts least) (found.Addresses v) some rises is = is

pub returns : goal.returns
returns g c before space reads leads rises =
    let image = c.args.image in
    let now = c.args.archive.now in
    let start = walk_begins g.D.Disk before image space (aim_of c.args.sought) now _ reads c.requires.short refl c.in-Ok.ensures.items c.new.ensures.aim c.new.ensures.scanned in
    let on = subst (λ a. LeadsOn space image 0 a c.args.steps.now (2 ^ 64 - 1)) (sym c.new.ensures.address) leads in
    finds_no_memory g.D.Disk before image space (aim_of c.args.sought) now c.walk.new.archive c.walk.new.self c.requires.has reads (c.in_ok-walk.ensures.walks before space (aim_of c.args.sought) (2 ^ 64 - 1) start on)

pub returns-in-Ok-end : goal.returns-in-Ok-end
returns-in-Ok-end g c before space reads leads rises =
    let image = c.args.image in
    let aim = (aim_of c.args.sought) in
    let now = c.args.archive.now in
    let start = walk_begins g.D.Disk before image space aim now _ reads c.requires.short refl c.in-Ok.ensures.items c.new.ensures.aim c.new.ensures.scanned in
    let on = subst (λ a. LeadsOn space image 0 a c.args.steps.now (2 ^ 64 - 1)) (sym c.new.ensures.address) leads in
    finds_all g.D.Disk before image space aim now c.walk.new.archive c.walk.new.self c.in-Ok-end.found (2 ^ 64 - 1) c.requires.has reads (c.in_ok-walk.ensures.walks before space aim (2 ^ 64 - 1) start on)
    (λ b front. c.in_ok-walk.ensures.address ∙ ap (λ a. address_after a c.args.steps.now) c.new.ensures.address ∙ leads_address b (space_in b space) c.args.steps.now 0 0 (leads b front).0 (2 ^ 64 - 1) (leads b front).1)
    (λ b front. (last_value (space_in b space) (rises b front), all_before (space_in b space) aim c.in-Ok-end.found c.requires.some (rises b front)))
    c.in-Ok-end.ensures
