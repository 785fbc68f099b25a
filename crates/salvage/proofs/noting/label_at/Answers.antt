use Rattle.std.proofs.Common.{◌≡◌, ◌∙◌, ◌+◌, ◌-◌, ℕ, List, Option, Some, ap, drop, sym, take, arith}
use Rattle.std.specs.List.{slice_range}
use Rattle.disk_model.specs.PartLaws.{part_is}
use Rattle.salvage.specs.Noting.{label_by}
use Rattle.salvage.specs.Records.{number_of}
use Rattle.salvage.specs.declared.records.Span.{Span}
use Rattle.salvage.proofs.noting.label_at.Goals as goal

-- the text from a place on, of the bytes that the record says
one_text : (front text : List ℕ) (label : Option Span) (place : Span) (size : ℕ) → label ≡ Some place → size ≡ number_of front (place.start + 12)
    → text ≡ slice_range front (place.start + 16) (place.start + 16 + size) → text ≡ label_by front label
one_text front text label place size is says there =
    let at = place.start + 16 in
    let count : at + size - at ≡ size = omega arith in
    there
    ∙ ap (λ (n : ℕ). take n (drop at front)) (count ∙ says)
    ∙ sym (part_is front at (number_of front (place.start + 12)))
    ∙ ap (label_by front) (sym is)

pub returns-in-Some-get : goal.returns-in-Some-get
returns-in-Some-get c =
    one_text c.args.front.now c.in-Some-get.text.now c.args.label c.in-Some.place c.number_at-size.result c.in-Some.is c.number_at-size.ensures
    c.in-Some-get.ensures.lookup.0.2
