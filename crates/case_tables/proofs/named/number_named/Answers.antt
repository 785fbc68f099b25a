use Rattle.std.proofs.Common.{map, find, reverse, option_map, ap, sym, ◌∙◌}
use Rattle.std.specs.Str.{bytes_eq}
use Rattle.journal_layout.specs.Case.{Case, case_of}
use Rattle.case_tables.specs.Named.{has_name, is_core}
use Rattle.case_tables.proofs.NamedLemmas.{by_name, found_is, found_same, is_last, is_latest, map_reverse}
use Rattle.case_tables.proofs.named.number_named.Goals as goal

pub returns-then-eq : goal.returns-then-eq
returns-then-eq c =
    let cases = map case_of c.args.cases.now in
    let found = found_is is_core (reverse c.args.cases.now) c.last_core.result c.last_core.ensures in
    let last = ap (bytes_eq c.args.word.now) (sym c.as_slice.ensures) ∙ sym c.eq.ensures ∙ c.if-eq.true in
    record {
      is_named =
          c.number_of.ensures ∙ found ∙ ap (λ es. option_map (λ (k : Case). k.seq) (find is_core es)) (map_reverse case_of c.args.cases.now)
          ∙ sym (is_last c.args.until c.args.word.now cases last);
    }

pub returns-then-eq-2 : goal.returns-then-eq-2
returns-then-eq-2 c =
    let cases = map case_of c.args.cases.now in
    let last = ap (bytes_eq c.args.word.now) (sym c.as_slice.ensures) ∙ sym c.eq.ensures ∙ c.if-eq.false in
    let latest = ap (bytes_eq c.args.word.now) (sym c.as_slice-2.ensures) ∙ sym c.eq-2.ensures ∙ c.if-eq-2.true in
    record {
      is_named = c.number_of-then-eq-2.ensures ∙ found_same c.latest_core.result _ c.latest_core.ensures ∙ sym (is_latest c.args.until c.args.word.now cases last latest);
    }

pub returns : goal.returns
returns c =
    let cases = map case_of c.args.cases.now in
    let found = found_is (has_name c.args.word.now) c.args.cases.now c.case_of_name.result c.case_of_name.ensures in
    let last = ap (bytes_eq c.args.word.now) (sym c.as_slice.ensures) ∙ sym c.eq.ensures ∙ c.if-eq.false in
    let latest = ap (bytes_eq c.args.word.now) (sym c.as_slice-2.ensures) ∙ sym c.eq-2.ensures ∙ c.if-eq-2.false in
    record {
      is_named = c.number_of-2.ensures ∙ found ∙ sym (by_name c.args.until c.args.word.now cases last latest);
    }
