use Rattle.std.proofs.Common.{not, ap, sym, ◌∙◌}
use Rattle.std.proofs.lemmas.Bool.{false≢true, true≢false}
use Rattle.std.proofs.lemmas.Option.{none-some}
use Rattle.std.proofs.lemmas.Slice.Eq.{bytes_eq-Decides}
use Rattle.build_ids.specs.BuildName as spec
use Rattle.build_ids.proofs.NameLaws.{no_places, read_again, some_same}
use Rattle.build_ids.proofs.build_names.id_of_stem.Goals as goal

pub returns-in_default : goal.returns-in_default
returns-in_default c id each h is = no_places c.args.stem.now id h is c.in_default.ensures

pub returns-in_default-decode_hex : goal.returns-in_default-decode_hex
returns-in_default-decode_hex c id each h is =
    none-some id (sym c.in_default-decode_hex.ensures ∙ read_again c.printed_bytes_are_read_again.ensures c.args.stem.now c.deref.result.now id each h is (c.deref.ensures.0 ∙ c.in-Some.ensures))

pub returns-then-not-has_name : goal.returns-then-not-has_name
returns-then-not-has_name c id each h is =
    let same = some_same (sym c.in-Some-decode_hex.ensures ∙ read_again c.printed_bytes_are_read_again.ensures c.args.stem.now c.deref.result.now id each h is (c.deref.ensures.0 ∙ c.in-Some.ensures)) in
    false≢true (c.if-not-has_name.ensures ∙ ap spec.has_name (c.deref-2.ensures.0 ∙ same) ∙ h)

pub returns-then-ne : goal.returns-then-ne
returns-then-ne c id each h is =
    let same = some_same (sym c.in-Some-decode_hex.ensures ∙ read_again c.printed_bytes_are_read_again.ensures c.args.stem.now c.deref.result.now id each h is (c.deref.ensures.0 ∙ c.in-Some.ensures)) in
    let name = c.as_slice.ensures.value ∙ c.build_name.ensures.name ∙ ap spec.build_name (c.deref-3.ensures.0 ∙ same) ∙ sym is in
    true≢false (c.if-ne.ensures ∙ ap not ((bytes_eq-Decides c.as_slice.result.now c.args.stem.now).1 name))
