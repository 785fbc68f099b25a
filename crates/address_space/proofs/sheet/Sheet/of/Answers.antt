use Rattle.std.proofs.Common.{map, sym, ap, subst, ◌∙◌}
use Rattle.std.specs.List.Sorted.{IsPermutation}
use Rattle.std.proofs.Math.Logic.{∥∥₁_elim}
use Rattle.std.proofs.Props.{props}
use Rattle.elf_view.specs.Header.{segments_of}
use Rattle.elf_view.specs.ViewWords.{image_of}
use Rattle.address_space.specs.Disjoint.{segment_extent, taking_from}
use Rattle.address_space.specs.Layers.{IsNumbered, holder}
use Rattle.address_space.proofs.Leaping.{sheet_order}
use Rattle.address_space.proofs.Sheets.{rows_number, rows_numbered, segments_fit}
use Rattle.address_space.proofs.sheet.Sheet.of.Goals as goal

pub layered-requires : goal.layered-requires
layered-requires c =
    let segments = segments_of (image_of c.args.elf.now) in
    let all = c.accepted_segments_fit.ensures.loads c.args.elf.now.want (image_of c.args.elf.now) c.args.elf.now.sound in
    let whole = c.in_ok-rows.ensures ∙ ap (λ l. taking_from 0 (map segment_extent l)) c.segments.ensures.headers in
    subst (IsNumbered 0) (sym c.deref.ensures.value) (rows_numbered (map segment_extent segments) c.in_ok-rows.rows.items (segments_fit segments all) whole)

pub returns-clause-deciding : goal.returns-clause-deciding
returns-clause-deciding c a =
    let segments = segments_of (image_of c.args.elf.now) in
    let whole = c.in_ok-rows.ensures ∙ ap (λ l. taking_from 0 (map segment_extent l)) c.segments.ensures.headers in
    c.in_ok-table.ensures.same a ∙ ap (λ rows. holder rows a) c.deref.ensures.value ∙ rows_number segment_extent segments c.in_ok-rows.rows.items whole a

pub returns-clause-ordered : goal.returns-clause-ordered
returns-clause-ordered c =
    let rows = c.in_ok-table.table.rows.items in
    let order = c.in_ok-order.order.rows.items in
    let moved : IsPermutation rows order = subst (λ l. IsPermutation l order) c.deref-2.ensures.value c.in_ok-order.ensures in
    ∥∥₁_elim c.in_ok-table.ensures.sheet (hlevel props) (λ sheet. sheet_order _ rows order sheet moved (returns-clause-deciding c))
