use Rattle.std.proofs.Common.{◌≡◌, ◌<◌, ◌+◌, ◌-◌, ◌^◌, length, sym, ap, subst, ◌∙◌, None, true, arith}
use Rattle.std.specs.Option.{option_map, IfSome}
use Rattle.address_space.specs.Occurrence.{text_len, is_text_value}
use Rattle.address_space.specs.Source.{value_at}
use Rattle.address_space.specs.CursorWords.{value_in}
use Rattle.address_space.specs.SpaceWords.{space_of}
use Rattle.address_space.proofs.Texts.{no_more, some_more, all_more, text_len_ends}
use Rattle.address_space.proofs.space.AddressSpace.text_len.Goals as goal

pub returns-in_default : goal.returns-in_default
returns-in_default c =
    let space = space_of c.args.self.now in
    let at = c.loop-at.at in
    let here : at + 0 ≡ at = omega arith in
    let value = c.run-run.ensures.run.values 0 c.run-run.ensures.run.some ∙ ap (λ o. value_in (option_map (λ bytes. bytes.now) o) 0) c.in_default.is in
    sym (no_more space c.args.address (text_len space c.args.address (2 ^ 64 - c.args.address)) at 0 0 None c.loop-at.length c.loop-at.invariant.rest (omega arith) (ap (λ b. is_text_value (value_at space b)) (sym here) ∙ ap is_text_value value))

pub returns-then-front-bytes : goal.returns-then-front-bytes
returns-then-front-bytes c =
    let space = space_of c.args.self.now in
    let n = c.run-run.result.length in
    let b = c.in-Some.bytes.now in
    let within = c.run-run.ensures.run.within in
    let full : length b ≡ n = subst (λ o. IfSome o (λ bytes. length bytes.now ≡ n)) c.in-Some.is c.run-run.ensures.full in
    let less : c.text_front-front.result < length b = omega arith in
    sym (some_more space c.args.address (text_len space c.args.address (2 ^ 64 - c.args.address)) c.loop-at.at n n None c.loop-at.length c.loop-at.invariant.rest (omega arith) b full
    (λ k h. c.run-run.ensures.run.values k h ∙ ap (λ o. value_in (option_map (λ bytes. bytes.now) o) k) c.in-Some.is)
    c.text_front-front.result (omega arith) c.text_front-front.ensures.text (c.text_front-front.ensures.ends less) (omega arith))

pub loop-at-preserved : goal.loop-at-preserved
loop-at-preserved c =
    let space = space_of c.args.self.now in
    let n = c.run-run.result.length in
    let b = c.in-Some.bytes.now in
    let total = text_len space c.args.address (2 ^ 64 - c.args.address) in
    let within = c.run-run.ensures.run.within in
    let full : length b ≡ n = subst (λ o. IfSome o (λ bytes. length bytes.now ≡ n)) c.in-Some.is c.run-run.ensures.full in
    let front = c.text_front-front.ensures.within in
    let all : c.text_front-front.result ≡ n = omega arith in
    let far = c.loop-at.invariant.far in
    record {
      far = omega arith;
      rest = all_more space c.args.address total c.loop-at.at n n None c.loop-at.length c.loop-at.invariant.rest (omega arith) b
          (λ k h. c.run-run.ensures.run.values k h ∙ ap (λ o. value_in (option_map (λ bytes. bytes.now) o) k) c.in-Some.is)
          (λ k h. c.text_front-front.ensures.text k (omega arith))
          ∙ ap (λ q. c.loop-at.length + q + text_len space (c.loop-at.at + n) (2 ^ 64 - (c.loop-at.at + n))) (sym all);
    }

pub returns-then-is_text_at : goal.returns-then-is_text_at
returns-then-is_text_at c =
    let space = space_of c.args.self.now in
    let at = c.loop-at.at in
    let zeros : at ≡ at + 0 = omega arith in
    let text = sym c.is_text_at.ensures ∙ c.if-is_text_at.true in
    sym (c.loop-at.invariant.rest ∙ ap (λ q. c.loop-at.length + q) (text_len_ends space at (2 ^ 64 - at) 1 (omega arith) (λ k h. let e : at ≡ at + k = omega arith in subst (λ b. is_text_value (value_at space b) ≡ true) e text) (λ h. absurd (omega arith))))

pub returns : goal.returns
returns c =
    let space = space_of c.args.self.now in
    sym (no_more space c.args.address (text_len space c.args.address (2 ^ 64 - c.args.address)) c.loop-at.at 0 0 None c.loop-at.length c.loop-at.invariant.rest (omega arith) (sym c.is_text_at.ensures ∙ c.if-is_text_at.false))
