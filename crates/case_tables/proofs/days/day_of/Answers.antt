use Rattle.std.proofs.Common.{◌≡◌, pos, unsigned_abs, ap, ◌∙◌, w8, w16, refl}
use Rattle.std.proofs.lemmas.Bool.{le-leb}
use Rattle.jiff_core.proofs.SignedLemmas.{back_small}
use Rattle.case_tables.specs.Days.{day_after}
use Rattle.case_tables.proofs.DayLemmas.{date_is}
use Rattle.case_tables.proofs.days.day_of.Goals as goal

pub returns : goal.returns
returns c =
    let n = c.args.number in
    let le = c.if-number-gt-LAST_DAY.false in
    let is = date_is c.days_after-found.result n le c.days_after-found.ensures in
    let y : c.year.result ≡ pos (day_after n).year = c.year.ensures ∙ is.0 in
    let m : c.month.result ≡ pos (day_after n).month = c.month.ensures ∙ ap pos is.1 in
    let d : c.day.result ≡ pos (day_after n).day = c.day.ensures ∙ ap pos is.2 in
    let year = (rw y at c.unsigned_abs.ensures.value) ∙ ap unsigned_abs (back_small w16 (pos (day_after n).year) (rw y at c.year.type_inv)) in
    let month = (rw m at c.unsigned_abs-2.ensures.value) ∙ ap unsigned_abs (back_small w8 (pos (day_after n).month) (rw m at c.month.type_inv)) in
    let day = (rw d at c.unsigned_abs-3.ensures.value) ∙ ap unsigned_abs (back_small w8 (pos (day_after n).day) (rw d at c.day.type_inv)) in
    rw (year, month, day, le-leb n 2_932_896 le) refl
