use Rattle.std.proofs.Common.{◌≡◌, ℕ, ◌<◌, Bool, false, IsTrue, List, refl, sym, ◌∙◌, subst, arith, Option, Ok}
use Rattle.disk_model.specs.Places.{part}
use Rattle.std.proofs.lemmas.Bool.{false≢true}
use Rattle.std.specs.List.{slice_range}
use Rattle.salvage.specs.Alone.{IsOther, between}
use Rattle.salvage.specs.Records.{number_of}
use Rattle.salvage.proofs.ReadsLemmas.{no_other, none_of_kind, none_short, nothing_there, other_there, range_is, stored_there}
use Rattle.salvage.proofs.records.reads_alone.Goals as goal

pub returns-then-is_other-clause-reads : goal.returns-then-is_other-clause-reads
returns-then-is_other-clause-reads c = λ order within.
    let rest = c.in-Some.rest.now in
    let there = between c.args.front.now c.args.place.start c.args.place.end in
    let same : there ≡ rest = range_is c.args.front.now c.args.place.start c.args.place.end ∙ sym c.in-Some.ensures.lookup.0.2 in
    (λ yes. other_there c.args.blocks there rest same (number_of rest 4) (c.is_other.ensures.has c.if-is_other.true), λ some. refl)

pub returns-then-length-eq0-clause-reads : goal.returns-then-length-eq0-clause-reads
returns-then-length-eq0-clause-reads c = λ order within.
    let rest = c.in-Some.rest.now in
    let n = c.head_length-length.result in
    let there = between c.args.front.now c.args.place.start c.args.place.end in
    let same : there ≡ rest = range_is c.args.front.now c.args.place.start c.args.place.end ∙ sym c.in-Some.ensures.lookup.0.2 in
    let each = c.head_length-length.ensures.each in (
      λ yes. absurd (false≢true yes),
      λ some. absurd (nothing_there c.args.blocks n there rest same each (no_other rest c.is_other.result c.if-is_other.false c.is_other.ensures.each)
          (none_short c.args.blocks n there rest same each (λ d. ⊥) c.if-length-eq0.true) some),
    )

pub returns-then-byte_at-ne-STORE-clause-reads : goal.returns-then-byte_at-ne-STORE-clause-reads
returns-then-byte_at-ne-STORE-clause-reads c = λ order within.
    let rest = c.in-Some.rest.now in
    let n = c.head_length-length.result in
    let there = between c.args.front.now c.args.place.start c.args.place.end in
    let same : there ≡ rest = range_is c.args.front.now c.args.place.start c.args.place.end ∙ sym c.in-Some.ensures.lookup.0.2 in
    let each = c.head_length-length.ensures.each in (
      λ yes. absurd (false≢true yes),
      λ some. absurd (nothing_there c.args.blocks n there rest same each (no_other rest c.is_other.result c.if-is_other.false c.is_other.ensures.each)
          (none_of_kind c.args.blocks n there rest same each (λ d. ⊥) (λ kind. c.if-byte_at-ne-STORE.true (c.byte_at.ensures ∙ kind))) some),
    )

pub returns-clause-reads : goal.returns-clause-reads
returns-clause-reads c = λ order within.
    let rest = c.in-Some.rest.now in
    let n = c.head_length-length.result in
    let there = between c.args.front.now c.args.place.start c.args.place.end in
    let same : there ≡ rest = range_is c.args.front.now c.args.place.start c.args.place.end ∙ sym c.in-Some.ensures.lookup.0.2 in
    let some : 0 < n = omega (arith, c.if-length-eq0.false) in
    stored_there c.args.blocks n there rest same c.head_length-length.ensures.each (no_other rest c.is_other.result c.if-is_other.false c.is_other.ensures.each)
    (c.head_length-length.ensures.has some) (sym c.byte_at.ensures ∙ c.if-byte_at-ne-STORE.false) c.in_ok-stored.stored c.in_ok-stored.ensures.stored c.is_some.result c.is_some.ensures
