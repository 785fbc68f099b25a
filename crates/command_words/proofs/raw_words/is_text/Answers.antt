use Rattle.std.proofs.Common.{rules, ◌≡◌, false, true}
use Rattle.std.proofs.lemmas.Str.{IsUtf8-past_char, chars_past_char}
use Rattle.std.proofs.StrCases.{chars_of_empty}
use Rattle.command_words.specs.RawWords.{is_own}
use Rattle.command_words.proofs.raw_words.is_text.Goals as goal

pub returns-then-from-ge-FIRST_STAND_IN : goal.returns-then-from-ge-FIRST_STAND_IN
returns-then-from-ge-FIRST_STAND_IN c =
    let held = c.loop-character.invariant in
    let step = chars_past_char _ _ c.in-Some.character held.0 c.in-Some.ensures.steps.0 in
    let stands : is_own c.in-Some.character ≡ false = search rules in
    rw (step, stands) at held.1

pub loop-character-preserved : goal.loop-character-preserved
loop-character-preserved c =
    let held = c.loop-character.invariant in
    let parts = c.in-Some.ensures.steps.0 in
    let own : is_own c.in-Some.character ≡ true = search rules in
    (IsUtf8-past_char _ _ c.in-Some.character held.0 parts, rw (chars_past_char _ _ c.in-Some.character held.0 parts, own) at held.1)

pub returns : goal.returns
returns c = rw (chars_of_empty _ c.in-None.ensures.steps.0.0) at c.loop-character.invariant.1
