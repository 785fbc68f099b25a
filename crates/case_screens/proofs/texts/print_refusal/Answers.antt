use Rattle.std.proofs.Common.{◌≡◌, Bool, List, ◌++◌, ℕ, ap, refl, sym, if◌then◌else◌, ◌∙◌}
use Rattle.std.specs.Prelude.{codes}
use Rattle.std.specs.Str.{bytes_eq}
use Rattle.script_streams.specs.PrintLaws.{prints_as, prints_then}
use Rattle.case_screens.specs.ReasonWords.{reason_view}
use Rattle.case_screens.specs.Reasons.{Reason, named}
use Rattle.case_screens.specs.Texts.{is_of_another_machine, refusal_text}
use Rattle.case_screens.proofs.texts.print_refusal.Goals as goal

abbrev by_tests : Reason → Bool → Bool → Bool → Bool → List ℕ
by_tests r missing thread magic machine =
    if missing then codes "not in the core"
    else (if thread then codes "the core has no thread"
    else (if magic then codes "no ELF file"
    else (if machine then codes "of another machine: " ++ named r.name r.index
    else codes "damaged: " ++ named r.name r.index)))

by_names : (r : Reason) {missing thread magic machine : Bool} → missing ≡ bytes_eq r.name (codes "Missing") → thread ≡ bytes_eq r.name (codes "NoThread")
    → magic ≡ bytes_eq r.name (codes "Magic") → machine ≡ is_of_another_machine r.name → by_tests r missing thread magic machine ≡ refusal_text r
by_names r {missing} {thread} {magic} {machine} a b m o =
    ap (λ t. by_tests r t thread magic machine) a
    ∙ ap (λ t. by_tests r (bytes_eq r.name (codes "Missing")) t magic machine) b
    ∙ ap (λ t. by_tests r (bytes_eq r.name (codes "Missing")) (bytes_eq r.name (codes "NoThread")) t machine) m
    ∙ ap (λ t. by_tests r (bytes_eq r.name (codes "Missing")) (bytes_eq r.name (codes "NoThread")) (bytes_eq r.name (codes "Magic")) t) o

pub returns-then-eq : goal.returns-then-eq
returns-then-eq g c =
    let r = reason_view c.args.reason.now in
    let missing = sym c.if-eq.true ∙ c.eq.ensures ∙ ap (bytes_eq r.name) c.as_slice.ensures in
    prints_as (by_names r missing refl refl refl) c.print.ensures

pub returns-then-eq-2 : goal.returns-then-eq-2
returns-then-eq-2 g c =
    let r = reason_view c.args.reason.now in
    let missing = sym c.if-eq.false ∙ c.eq.ensures ∙ ap (bytes_eq r.name) c.as_slice.ensures in
    let thread = sym c.if-eq-2.true ∙ c.eq-else-eq.ensures ∙ ap (bytes_eq r.name) c.as_slice-else-eq.ensures in
    prints_as (by_names r missing thread refl refl) c.print-then-eq-2.ensures

pub returns-then-eq-3 : goal.returns-then-eq-3
returns-then-eq-3 g c =
    let r = reason_view c.args.reason.now in
    let missing = sym c.if-eq.false ∙ c.eq.ensures ∙ ap (bytes_eq r.name) c.as_slice.ensures in
    let thread = sym c.if-eq-2.false ∙ c.eq-else-eq.ensures ∙ ap (bytes_eq r.name) c.as_slice-else-eq.ensures in
    let magic = sym c.if-eq-3.true ∙ c.eq-else-eq-2.ensures ∙ ap (bytes_eq r.name) c.as_slice-else-eq-2.ensures in
    prints_as (by_names r missing thread magic refl) c.print-then-eq-3.ensures

pub returns-then-is_of_another_machine : goal.returns-then-is_of_another_machine
returns-then-is_of_another_machine g c =
    let r = reason_view c.args.reason.now in
    let missing = sym c.if-eq.false ∙ c.eq.ensures ∙ ap (bytes_eq r.name) c.as_slice.ensures in
    let thread = sym c.if-eq-2.false ∙ c.eq-else-eq.ensures ∙ ap (bytes_eq r.name) c.as_slice-else-eq.ensures in
    let magic = sym c.if-eq-3.false ∙ c.eq-else-eq-2.ensures ∙ ap (bytes_eq r.name) c.as_slice-else-eq-2.ensures in
    prints_as (by_names r missing thread magic (sym c.if-is_of_another_machine.true ∙ c.is_of_another_machine.ensures))
    (prints_then c.print-then-is_of_another_machine.ensures c.print_named.ensures)

pub returns-else-is_of_another_machine : goal.returns-else-is_of_another_machine
returns-else-is_of_another_machine g c =
    let r = reason_view c.args.reason.now in
    let missing = sym c.if-eq.false ∙ c.eq.ensures ∙ ap (bytes_eq r.name) c.as_slice.ensures in
    let thread = sym c.if-eq-2.false ∙ c.eq-else-eq.ensures ∙ ap (bytes_eq r.name) c.as_slice-else-eq.ensures in
    let magic = sym c.if-eq-3.false ∙ c.eq-else-eq-2.ensures ∙ ap (bytes_eq r.name) c.as_slice-else-eq-2.ensures in
    prints_as (by_names r missing thread magic (sym c.if-is_of_another_machine.false ∙ c.is_of_another_machine.ensures))
    (prints_then c.print-else-is_of_another_machine.ensures c.print_named-else-is_of_another_machine.ensures)
