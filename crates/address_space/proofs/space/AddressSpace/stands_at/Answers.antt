use Rattle.std.proofs.Common.{◌+◌, sym, ap, ◌∙◌, arith, refl, get_or, ◌≤◌, ◌^◌, inl, inr}
use Rattle.std.proofs.lemmas.Bool.{cases_lt}
use Rattle.address_space.specs.Source.{value_at}
use Rattle.address_space.specs.Occurrence.{is_value}
use Rattle.address_space.specs.SpaceWords.{space_of}
use Rattle.address_space.proofs.Finding.{occurs_fails, occurs_goes_on, occurs_all}
use Rattle.address_space.proofs.space.AddressSpace.stands_at.Goals as goal

pub returns-in_default : goal.returns-in_default
returns-in_default c =
    let x = get_or c.args.needle.now c.loop-i.i 0 in
    let high : 2 ^ 64 ≤ c.args.at + c.loop-i.i = elim (cases_lt (c.args.at + c.loop-i.i) (2 ^ 64)) as (λ _. 2 ^ 64 ≤ c.args.at + c.loop-i.i) [ inl low ↦ absurd (c.in_default.ensures low) | inr high ↦ high ] in
    let none = c.nothing_past_the_end.ensures (c.args.at + c.loop-i.i) high in
    sym (c.loop-i.invariant ∙ occurs_fails (space_of c.args.self.now) c.args.needle.now c.args.at c.loop-i.i x (omega arith) refl (ap (is_value x) none))

pub returns-then-not-is_value : goal.returns-then-not-is_value
returns-then-not-is_value c =
    let x = get_or c.args.needle.now c.loop-i.i 0 in
    sym (c.loop-i.invariant ∙ occurs_fails (space_of c.args.self.now) c.args.needle.now c.args.at c.loop-i.i x (omega arith) refl (ap (λ b. is_value x (value_at (space_of c.args.self.now) b)) (sym c.in-Some.ensures.1) ∙ ap (is_value x) (sym c.value.ensures) ∙ sym c.is_value.ensures ∙ c.if-not-is_value.true))

pub loop-i-preserved : goal.loop-i-preserved
loop-i-preserved c =
    let x = get_or c.args.needle.now c.loop-i.i 0 in
    c.loop-i.invariant ∙ occurs_goes_on (space_of c.args.self.now) c.args.needle.now c.args.at c.loop-i.i x (omega arith) refl (ap (λ b. is_value x (value_at (space_of c.args.self.now) b)) (sym c.in-Some.ensures.1) ∙ ap (is_value x) (sym c.value.ensures) ∙ sym c.is_value.ensures ∙ c.if-not-is_value.false)

pub returns : goal.returns
returns c = sym (c.loop-i.invariant ∙ occurs_all (space_of c.args.self.now) c.args.needle.now (c.args.at + c.loop-i.i) c.loop-i.i (omega arith))
