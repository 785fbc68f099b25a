use Rattle.std.proofs.Common.{◌≡◌, ℕ, refl, length, map, sym, ap, ◌∙◌, subst}
use Rattle.std.proofs.Common.{List}
use Rattle.journal_layout.specs.Case.{Case, case_of}
use Rattle.journal_layout.specs.Folding.{Folded, nothing_yet, used_blocks}
use Rattle.journal_layout.specs.Stands.{AreRead}
use Rattle.journal_records.specs.Kept.{said_by, AreNames}
use Rattle.journal_records.proofs.LiveLemmas.{cases_values}
use Rattle.journal_records.proofs.SaysLemmas.{folded_same}
use Rattle.journal_records.specs.Live.{cases_of}
use Rattle.journal_records.specs.Said.{EndsIn}
use Rattle.journal_records.specs.Taken.{Accounts}
use Rattle.journal_records.proofs.AlongLemmas.{read_all}
use Rattle.journal_records.proofs.reading.replay.Goals as goal

pub returns-clause-read : goal.returns-clause-read
returns-clause-read c =
    let cases = c.read_records.new.cases in
    let v = c.args.version in
    let said : Folded = record { version = v; cases = map case_of c.into_entries.result.items; next = cases.next } in
    let through = c.in_ok-last.ensures in
    let made : c.in_ok-cases.cases.version ≡ v = ap (λ (f : Folded). f.version) c.in_ok-cases.ensures.says.says in
    let same : said_by cases ≡ said =
    folded_same cases.version v (cases_of cases.live.entries) (map case_of c.into_entries.result.items) cases.next cases.next (through.version_is ∙ made)
    (cases_values cases.live.entries ∙ ap (map case_of) (sym c.into_entries.ensures)) refl in
    subst (λ (n : ℕ). AreRead n c.args.bytes.now (nothing_yet v) said c.in_ok-last.size) c.in_ok-cases.ensures.says.size
    (subst (λ (w : ℕ). AreRead (length c.in_ok-cases.cases.free) c.args.bytes.now (nothing_yet w) said c.in_ok-last.size) made
    (read_all (length c.in_ok-cases.cases.free) c.in_ok-cases.cases.version c.args.bytes.now (said_by cases) said c.in_ok-last.last c.in_ok-last.size through.along through.closed same))

pub returns-clause-names : goal.returns-clause-names
returns-clause-names c = subst (λ (cs : List Case). AreNames cs c.read_records.new.cases.names) (cases_values c.read_records.new.cases.live.entries ∙ ap (map case_of) (sym c.into_entries.ensures)) c.in_ok-last.ensures.kept.names

pub returns-clause-free : goal.returns-clause-free
returns-clause-free c =
    let cases = c.read_records.new.cases in
    record {
      size = c.in_ok-last.ensures.free ∙ c.in_ok-cases.ensures.says.size;
      accounts = subst (λ (cs : List Case). Accounts (used_blocks cs) cases.free) (cases_values cases.live.entries ∙ ap (map case_of) (sym c.into_entries.ensures)) c.in_ok-last.ensures.kept.accounts;
    }

pub returns-clause-last : goal.returns-clause-last
returns-clause-last c =
    let through = c.in_ok-last.ensures in
    let made : c.in_ok-cases.cases.version ≡ c.args.version = ap (λ (f : Folded). f.version) c.in_ok-cases.ensures.says.says in
    subst (λ (n : ℕ). EndsIn n c.args.version c.args.bytes.now c.in_ok-last.last c.in_ok-last.size) c.in_ok-cases.ensures.says.size
    (subst (λ (w : ℕ). EndsIn (length c.in_ok-cases.cases.free) w c.args.bytes.now c.in_ok-last.last c.in_ok-last.size) made
    (record { records = through.along.records; row = through.along.row; ends = through.along.ends; size = through.along.size }))
