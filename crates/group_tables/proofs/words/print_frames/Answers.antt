use Rattle.std.proofs.Common.{[], ◌++◌, ap, cond, map, sym}
use Rattle.std.specs.Prelude.{codes}
use Rattle.crash_signatures.specs.WordViews.{said}
use Rattle.script_streams.specs.PrintLaws.{prints_as, prints_nothing, prints_then}
use Rattle.group_tables.specs.Words.{words_text}
use Rattle.group_tables.proofs.words.print_frames.Goals as goal

pub returns-then-signature : goal.returns-then-signature
returns-then-signature g c =
    prints_as (ap (λ t. words_text (map said c.args.signature.now.words.items) ++ cond t (codes " ..") []) (sym c.if-signature.true))
    (prints_then (prints_as (ap (λ ws. words_text (map said ws)) c.as_slice.ensures.value) c.print_words.ensures) c.print.ensures)

pub returns-else-signature : goal.returns-else-signature
returns-else-signature g c =
    prints_as (ap (λ t. words_text (map said c.args.signature.now.words.items) ++ cond t (codes " ..") []) (sym c.if-signature.false))
    (prints_then (prints_as (ap (λ ws. words_text (map said ws)) c.as_slice.ensures.value) c.print_words.ensures) prints_nothing)
