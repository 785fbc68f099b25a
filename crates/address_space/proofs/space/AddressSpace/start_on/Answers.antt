use Rattle.std.proofs.Common.{◌≡◌, ◌<◌, ◌+◌, ◌-◌, ◌||◌, not, eqb, ◌∷◌, length, length-drop, sym, ap, subst, ◌∙◌, true, arith}
use Rattle.std.proofs.lemmas.Bool.{and_parts}
use Rattle.address_space.specs.Occurrence.{begins_text, is_text_at}
use Rattle.address_space.specs.SpaceWords.{space_of}
use Rattle.address_space.proofs.Finding.{come_passed, come_found}
use Rattle.address_space.proofs.Texts.{none_other, none_within, text_here, text_begins, first_of_all, first_after, above_zero, ends_here}
use Rattle.address_space.proofs.space.AddressSpace.start_on.Goals as goal
use Rattle.address_space.proofs.space.AddressSpace.start_on.Goals.{else-others-eq0-via-then-others-eq0+else-is_text_before, else-others-eq0-via-else-others-eq0}

pub returns-then-others-cursor-clause-same : goal.returns-then-others-cursor-clause-same
returns-then-others-cursor-clause-same c =
    let space = space_of c.args.self.now in
    come_passed space (begins_text space) c.args.cursor c.passed.result c.requires.placed c.passed.ensures.number c.other_front-others.result c.other_front-others.ensures.within c.passed.ensures.left c.passed.ensures.at
    (none_other space c.args.cursor c.requires.placed c.other_front-others.result c.other_front-others.ensures.within c.other_front-others.ensures.others)

pub returns-then-is_text_before-clause-same : goal.returns-then-is_text_before-clause-same
returns-then-is_text_before-clause-same c =
    let space = space_of c.args.self.now in
    let before = and_parts (not (eqb c.args.cursor.at 0)) (is_text_at space (c.args.cursor.at - 1)) (sym c.is_text_before.ensures ∙ c.if-is_text_before.true) in
    come_passed space (begins_text space) c.args.cursor c.passed-then-is_text_before.result c.requires.placed c.passed-then-is_text_before.ensures.number c.text_front-front.result c.text_front-front.ensures.within c.passed-then-is_text_before.ensures.left c.passed-then-is_text_before.ensures.at
    (none_within space c.args.cursor c.requires.placed c.text_front-front.result c.text_front-front.ensures.within c.text_front-front.ensures.text (above_zero c.args.cursor.at before.0) before.1)

pub returns-clause-same : goal.returns-clause-same
returns-clause-same c =
    let space = space_of c.args.self.now in
    let cursor = c.args.cursor in
    let m = c.other_front-others.result in
    let within = c.other_front-others.ensures.within in
    let less : m < length cursor.here.now = omega arith in
    let text : is_text_at space (cursor.at + m) ≡ true = text_here space cursor c.requires.placed true m less (c.other_front-others.ensures.ends less) in
    let first : (eqb (cursor.at + m) 0 || not (is_text_at space (cursor.at + m - 1))) ≡ true = elim c.else-others-eq0.branch as (λ _. (eqb (cursor.at + m) 0 || not (is_text_at space (cursor.at + m - 1))) ≡ true) [
      | else-others-eq0-via-then-others-eq0+else-is_text_before w ↦
          let e : cursor.at ≡ cursor.at + m = omega (arith, w.if-others-eq0.true) in
          subst (λ b. (eqb b 0 || not (is_text_at space (b - 1))) ≡ true) e (first_of_all space cursor.at (sym w.is_text_before.ensures ∙ w.if-is_text_before.false))
      | else-others-eq0-via-else-others-eq0 w ↦ first_after space cursor c.requires.placed m (omega (arith, w.if-others-eq0.false)) within c.other_front-others.ensures.others
    ] in
    let behind = c.passed-behind.result in
    let n = c.text_front-front-2.result in
    let bound = behind.within in
    let front = c.text_front-front-2.ensures.within in
    come_found space (begins_text space) cursor behind c.requires.placed c.passed-behind.ensures.number m (omega arith) c.passed-behind.ensures.left c.passed-behind.ensures.at
    (none_other space cursor c.requires.placed m within c.other_front-others.ensures.others)
    (text_begins space (cursor.at + m) text first)
    ∙ ap (λ xs. (cursor.at + m) ∷ xs) (come_passed space (begins_text space) behind c.passed-2.result (c.passed-behind.ensures.placed space c.requires.placed) c.passed-2.ensures.number n front c.passed-2.ensures.left c.passed-2.ensures.at
    (λ k h.
    let at : behind.at ≡ cursor.at + (m + 1) = c.passed-behind.ensures.at (omega arith) in
    let e : cursor.at + m ≡ behind.at - 1 = omega (arith, at) in
    none_within space behind (c.passed-behind.ensures.placed space c.requires.placed) n front c.text_front-front-2.ensures.text (omega (arith, at)) (subst (λ b. is_text_at space b ≡ true) e text) k h))

pub returns-clause-ended : goal.returns-clause-ended
returns-clause-ended c some =
    let space = space_of c.args.self.now in
    let cursor = c.args.cursor in
    let m = c.other_front-others.result in
    let within = c.other_front-others.ensures.within in
    let less : m < length cursor.here.now = omega arith in
    let text : is_text_at space (cursor.at + m) ≡ true = text_here space cursor c.requires.placed true m less (c.other_front-others.ensures.ends less) in
    let behind = c.passed-behind.result in
    let rest = c.passed-2.result in
    let n = c.text_front-front-2.result in
    let left : length rest.here.now ≡ length behind.here.now - n = ap length c.passed-2.ensures.here ∙ length-drop n behind.here.now in
    let short : n < length behind.here.now = omega arith in
    let bound = behind.within in
    let room = rest.within in
    let at : behind.at ≡ cursor.at + (m + 1) = c.passed-behind.ensures.at (omega arith) in
    let far : rest.at ≡ behind.at + n = c.passed-2.ensures.at (omega arith) in
    let next : cursor.at + m + 1 ≡ behind.at = omega arith in
    let sum : n + 1 ≡ rest.at - (cursor.at + m) = omega arith in
    (omega arith, ends_here space behind (c.passed-behind.ensures.placed space c.requires.placed) n short c.text_front-front-2.ensures.text (c.text_front-front-2.ensures.ends short) (cursor.at + m) next text ∙ sum)
