use Rattle.std.proofs.Common.{◌≡◌, ℕ, ◌-◌, ◌^◌, length, sym, subst, arith}
use Rattle.address_space.specs.SpaceWords.{space_of}
use Rattle.memory_replies.specs.Texts.{values_between}
use Rattle.script_streams.specs.PrintLaws.{prints_then}
use Rattle.memory_replies.proofs.TextLemmas.{text_len_within, text_values}
use Rattle.memory_replies.proofs.texts.print_line.Goals as goal

pub print_shown-requires : goal.print_shown-requires
print_shown-requires g c = record {
  within =
      let short = text_len_within (space_of c.args.space.now) (2 ^ 64 - c.args.start) c.args.start in
      omega (arith, c.requires, short);
  whole = subst (λ (n : ℕ). length (values_between (space_of c.args.space.now) c.args.start n) ≡ n) (sym c.requires) (text_values (space_of c.args.space.now) (2 ^ 64 - c.args.start) c.args.start);
}

pub returns : goal.returns
returns g c =
    prints_then c.print_hex_word.ensures
    (prints_then c.print_decimal.ensures
    (prints_then c.print.ensures
    (prints_then c.print_shown.ensures c.print-2.ensures)))
