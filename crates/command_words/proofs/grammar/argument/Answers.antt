use Rattle.std.proofs.Common.{rules, ◌≡◌, pos, nat_lt, Option, Some, ap, sym, true, false, ◌∙◌}
use Rattle.clap.specs.Walk.{Rule, rule_of}
use Rattle.clap.specs.Lexer.{usize_max}
use Rattle.clap.specs.declared.builder.range.ValueRange.{ValueRange}
use Rattle.clap.specs.declared.builder.value_parser.ValueParser.{ValueParser}
use Rattle.clap.specs.declared.builder.value_parser.ValueParser.TheVariants.{Signed, Unsigned}
use Rattle.command_words.specs.Grammar.{flagged, named, named_by, placed, rule_by}
use Rattle.command_words.proofs.RuleLemmas.{conflicting, requiring}
use Rattle.command_words.proofs.grammar.argument.Goals as goal

pub returns-in-Flag : goal.returns-in-Flag
returns-in-Flag c =
    ap rule_of c.long.ensures
    ∙ (ap (λ (r : Rule). record r { long = Some c.args.word.now.id.now }) c.begun-argument.ensures
    ∙ ap (rule_by c.args.word.now) (sym c.in-Flag.is))

pub returns-in_ok-conflicts_with-in-FlagWithoutJson : goal.returns-in_ok-conflicts_with-in-FlagWithoutJson
returns-in_ok-conflicts_with-in-FlagWithoutJson c =
    let added = c.in_ok-conflicts_with-in-FlagWithoutJson.ensures in
    let long : rule_of c.long-in-FlagWithoutJson.result ≡ flagged c.args.word.now =
    ap rule_of c.long-in-FlagWithoutJson.ensures ∙ ap (λ (r : Rule). record r { long = Some c.args.word.now.id.now }) c.begun-argument.ensures in
    conflicting c.long-in-FlagWithoutJson.result _ _ added.0 added.1
    ∙ (ap (λ (r : Rule). record r { is_free = false }) long
    ∙ ap (rule_by c.args.word.now) (sym c.in-FlagWithoutJson.is))

pub returns-in_ok-requires_arg-in-FlagWithBuild : goal.returns-in_ok-requires_arg-in-FlagWithBuild
returns-in_ok-requires_arg-in-FlagWithBuild c =
    let added = c.in_ok-requires_arg-in-FlagWithBuild.ensures in
    let long : rule_of c.long-in-FlagWithBuild.result ≡ flagged c.args.word.now =
    ap rule_of c.long-in-FlagWithBuild.ensures ∙ ap (λ (r : Rule). record r { long = Some c.args.word.now.id.now }) c.begun-argument.ensures in
    requiring c.long-in-FlagWithBuild.result _ _ added.0 added.1
    ∙ (ap (λ (r : Rule). record r { is_free = false }) long
    ∙ ap (rule_by c.args.word.now) (sym c.in-FlagWithBuild.is))

pub returns-in_ok-requires_arg-in-TextWithBuild : goal.returns-in_ok-requires_arg-in-TextWithBuild
returns-in_ok-requires_arg-in-TextWithBuild c =
    let added = c.in_ok-requires_arg-in-TextWithBuild.ensures in
    let before : rule_of c.named-in-TextWithBuild.result ≡ named c.args.word.now =
    c.named-in-TextWithBuild.ensures ∙ ap (λ (r : Rule). named_by r c.args.word.now) c.begun-argument.ensures in
    requiring c.named-in-TextWithBuild.result _ _ added.0 added.1
    ∙ (ap (λ (r : Rule). record r { is_free = false }) before
    ∙ ap (rule_by c.args.word.now) (sym c.in-TextWithBuild.is))

pub returns-in-Place : goal.returns-in-Place
returns-in-Place c =
    ap rule_of c.required.ensures
    ∙ (ap (λ (r : Rule). record r { required = true }) (ap rule_of c.value_name.ensures ∙ ap (λ (r : Rule). record r { value_names = 1 }) c.begun-argument.ensures)
    ∙ ap (rule_by c.args.word.now) (sym c.in-Place.is))

pub returns-in-NewPlace : goal.returns-in-NewPlace
returns-in-NewPlace c =
    ap rule_of c.value_name-in-NewPlace.ensures
    ∙ (ap (λ (r : Rule). record r { value_names = 1 }) c.begun-argument.ensures
    ∙ ap (rule_by c.args.word.now) (sym c.in-NewPlace.is))

pub returns-in-Text : goal.returns-in-Text
returns-in-Text c =
    c.named.ensures
    ∙ (ap (λ (r : Rule). named_by r c.args.word.now) c.begun-argument.ensures
    ∙ ap (rule_by c.args.word.now) (sym c.in-Text.is))

pub returns-in-Words : goal.returns-in-Words
returns-in-Words c =
    let range : c.num_args.result.num_vals ≡ Some (record { start_inclusive = c.in-Words.least; end_inclusive = usize_max }) = search rules in
    let before : rule_of c.value_name-in-Words.result ≡ placed c.args.word.now =
    ap rule_of c.value_name-in-Words.ensures ∙ ap (λ (r : Rule). record r { value_names = 1 }) c.begun-argument.ensures in
    ap rule_of c.required-in-Words.ensures
    ∙ (ap (λ (r : Rule). record r { required = nat_lt 0 c.in-Words.least }) (ap rule_of c.num_args.ensures.0
    ∙ (ap (λ (range : Option ValueRange). record (rule_of c.value_name-in-Words.result) { range = range }) range
    ∙ ap (λ (r : Rule). record r { range = Some (record { start_inclusive = c.in-Words.least; end_inclusive = usize_max }) }) before))
    ∙ ap (rule_by c.args.word.now) (sym c.in-Words.is))

pub returns-in-Blocks : goal.returns-in-Blocks
returns-in-Blocks c =
    let parser : c.value_parser.result.value_parser ≡ Some (Signed (pos 0) (pos 4294967295)) = search rules in
    let before : rule_of c.named-in-Blocks.result ≡ named c.args.word.now =
    c.named-in-Blocks.ensures ∙ ap (λ (r : Rule). named_by r c.args.word.now) c.begun-argument.ensures in
    ap rule_of c.required-in-Blocks.ensures
    ∙ (ap (λ (r : Rule). record r { required = true }) (ap rule_of c.value_parser.ensures.others
    ∙ (ap (λ (parser : Option ValueParser). record (rule_of c.named-in-Blocks.result) { parser = parser }) parser
    ∙ ap (λ (r : Rule). record r { parser = Some (Signed (pos 0) (pos 4294967295)) }) before))
    ∙ ap (rule_by c.args.word.now) (sym c.in-Blocks.is))

pub returns-in-Within : goal.returns-in-Within
returns-in-Within c =
    let parser : c.value_parser-in-Within.result.value_parser ≡ Some (Signed c.in-Within.least c.in-Within.most) = search rules in
    let before : rule_of c.named-in-Within.result ≡ named c.args.word.now =
    c.named-in-Within.ensures ∙ ap (λ (r : Rule). named_by r c.args.word.now) c.begun-argument.ensures in
    ap rule_of c.value_parser-in-Within.ensures.others
    ∙ (ap (λ (parser : Option ValueParser). record (rule_of c.named-in-Within.result) { parser = parser }) parser
    ∙ (ap (λ (r : Rule). record r { parser = Some (Signed c.in-Within.least c.in-Within.most) }) before
    ∙ ap (rule_by c.args.word.now) (sym c.in-Within.is)))

pub returns-in-Bytes : goal.returns-in-Bytes
returns-in-Bytes c =
    let parser : c.value_parser-in-Bytes.result.value_parser ≡ Some (Unsigned 0 18446744073709551615) = search rules in
    let before : rule_of c.named-in-Bytes.result ≡ named c.args.word.now =
    c.named-in-Bytes.ensures ∙ ap (λ (r : Rule). named_by r c.args.word.now) c.begun-argument.ensures in
    ap rule_of c.value_parser-in-Bytes.ensures.others
    ∙ (ap (λ (parser : Option ValueParser). record (rule_of c.named-in-Bytes.result) { parser = parser }) parser
    ∙ (ap (λ (r : Rule). record r { parser = Some (Unsigned 0 18446744073709551615) }) before
    ∙ ap (rule_by c.args.word.now) (sym c.in-Bytes.is)))
