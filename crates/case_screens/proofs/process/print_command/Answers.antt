use Rattle.std.proofs.Common.{◌≡◌, ◌==◌, ℕ, List, [], ◌∷◌, true, false, length, refl, sym, ◌∙◌, arith}
use Rattle.std.proofs.lemmas.Bool.{eqb-false, eqb-true}
use Rattle.script_streams.specs.PrintLaws.{prints_as}
use Rattle.case_screens.specs.Process.{command_text}
use Rattle.case_screens.specs.Texts.{plain_text}
use Rattle.case_screens.proofs.process.print_command.Goals as goal

by_name : (words name : List ℕ) → (length words == 0) ≡ true → plain_text name ≡ command_text words name
by_name [] name none = refl
by_name (c ∷ cs) name none =
    let empty : length (c ∷ cs) ≡ 0 = eqb-true (length (c ∷ cs)) 0 none in
    absurd (omega arith)

by_words : (words name : List ℕ) → (length words == 0) ≡ false → plain_text words ≡ command_text words name
by_words [] name some = absurd (eqb-false 0 0 some refl)
by_words (c ∷ cs) name some = refl

pub returns-then-is_empty : goal.returns-then-is_empty
returns-then-is_empty g c = prints_as (by_name c.args.words.now c.args.name.now (sym c.is_empty.ensures ∙ c.if-is_empty.true)) c.print_plain.ensures

pub returns-else-is_empty : goal.returns-else-is_empty
returns-else-is_empty g c = prints_as (by_words c.args.words.now c.args.name.now (sym c.is_empty.ensures ∙ c.if-is_empty.false)) c.print_plain-else-is_empty.ensures
