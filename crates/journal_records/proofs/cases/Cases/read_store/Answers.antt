use Rattle.std.proofs.Common.{◌≡◌, ℕ, ◌++◌, Bool, true, not, cond, nat_eq, List, Some, length, sym, ap, ◌∙◌, subst}
use Rattle.std.specs.BTreeSet.{BTreeSet}
use Rattle.std.specs.Str.{bytes_eq}
use Rattle.arrayvec.specs.ArrayVec.{ArrayVec}
use Rattle.journal_layout.specs.Case.{Case, case_of}
use Rattle.journal_layout.specs.Layout.{field}
use Rattle.journal_layout.specs.Record.{Store}
use Rattle.journal_layout.specs.Reading.{origin_at, case_at, store_runs, name_at}
use Rattle.journal_layout.specs.Folding.{after, used_blocks, is_name_of}
use Rattle.journal_layout.specs.Soundness.{blocks_for}
use Rattle.journal_layout.specs.Checks.{store_fault, store_checks, padding_fault, block_count}
use Rattle.journal_records.specs.Head.{SaysFault}
use Rattle.journal_records.specs.Taken.{Accounts}
use Rattle.journal_records.specs.Named.{has_name}
use Rattle.journal_records.specs.Kept.{said_by, Says}
use Rattle.journal_records.proofs.FaultLemmas.{handed_on, states, checks_only, image_only, padding_only, OnlyDamaged}
use Rattle.journal_records.proofs.StoreLemmas.{facts_part, image_part, end_part, facts_told, runs_told, image_told, name_told, end_told, store_passes, name_part_is, fresh_name}
use Rattle.journal_records.proofs.KeptLemmas.{any_bearer}
use Rattle.journal_records.proofs.SaysLemmas.{store_says}
use Rattle.journal_records.proofs.cases.Cases.read_store.Goals as goal

pub returns-in_err-check_facts : goal.returns-in_err-check_facts
returns-in_err-check_facts c =
    let old = c.args.self.now in
    let rest = c.args.rest.now in
    let limit = length old.free in
    let f = said_by old in
    let e = c.in_err-check_facts.field-0.0 in
    handed_on (store_fault limit c.args.at rest f) (after (Store (case_at rest)) f) limit c.from_residual.result old e c.from_residual.ensures.1
    (facts_told limit c.args.at rest f e
    (states (facts_part c.args.at rest f) e (checks_only c.args.at (store_checks rest f)) (c.in_err-check_facts.ensures.fault f)))

pub returns-in_err-runs : goal.returns-in_err-runs
returns-in_err-runs c =
    let old = c.args.self.now in
    let rest = c.args.rest.now in
    let limit = length old.free in
    let f = said_by old in
    let e = c.in_err-runs.field-0.0 in
    handed_on (store_fault limit c.args.at rest f) (after (Store (case_at rest)) f) limit c.from_residual-in_err-runs.result (record old { free = c.read_runs.new.free }) e c.from_residual-in_err-runs.ensures.1
    (runs_told limit c.args.at rest f e
    (sym (c.in_ok-check_facts.ensures.fault f))
    (c.in_err-runs.ensures.taken (used_blocks f.cases) c.requires.kept.accounts))

pub returns-in_err-check_image : goal.returns-in_err-check_image
returns-in_err-check_image c =
    let old = c.args.self.now in
    let rest = c.args.rest.now in
    let limit = length old.free in
    let f = said_by old in
    let e = c.in_err-check_image.field-0.0 in
    let taken = c.in_ok-runs.ensures.taken (used_blocks f.cases) c.requires.kept.accounts in
    let count = block_count (store_runs rest) in
    let is : Some e ≡ image_part c.args.at rest count = c.in_err-check_image.ensures ∙ ap (image_part c.args.at rest) taken.1.number in
    handed_on (store_fault limit c.args.at rest f) (after (Store (case_at rest)) f) limit c.from_residual-in_err-check_image.result (record old { free = c.read_runs.new.free }) e c.from_residual-in_err-check_image.ensures.1
    (image_told limit c.args.at rest f e
    (sym (c.in_ok-check_facts.ensures.fault f)) taken.0
    (states (image_part c.args.at rest count) e (image_only c.args.at rest (not (nat_eq count (blocks_for (field rest 32 8))))) is))

pub returns-in_err-name : goal.returns-in_err-name
returns-in_err-name c =
    let old = c.args.self.now in
    let rest = c.args.rest.now in
    let limit = length old.free in
    let f = said_by old in
    let e = c.in_err-name.field-0.0 in
    let taken = c.in_ok-runs.ensures.taken (used_blocks f.cases) c.requires.kept.accounts in
    let named : is_name_of f.cases (name_at rest) ≡ has_name old.names (name_at rest) =
    any_bearer (name_at rest) (has_name old.names (name_at rest)) f.cases (c.requires.kept.names (name_at rest)) in
    handed_on (store_fault limit c.args.at rest f) (after (Store (case_at rest)) f) limit c.from_residual-in_err-name.result (record old { free = c.read_runs.new.free; names = c.take_name.new.names }) e c.from_residual-in_err-name.ensures.1
    (name_told limit c.args.at rest f e
    (sym (c.in_ok-check_facts.ensures.fault f)) taken.0
    (sym (c.in_ok-check_image.ensures ∙ ap (image_part c.args.at rest) taken.1.number))
    (subst (λ x. SaysFault x e) (sym (name_part_is c.args.at rest f old.names named)) c.in_err-name.ensures))

pub returns-in_err-check_padding : goal.returns-in_err-check_padding
returns-in_err-check_padding c =
    let old = c.args.self.now in
    let rest = c.args.rest.now in
    let limit = length old.free in
    let f = said_by old in
    let e = c.in_err-check_padding.field-0.0 in
    let taken = c.in_ok-runs.ensures.taken (used_blocks f.cases) c.requires.kept.accounts in
    let named : is_name_of f.cases (name_at rest) ≡ has_name old.names (name_at rest) =
    any_bearer (name_at rest) (has_name old.names (name_at rest)) f.cases (c.requires.kept.names (name_at rest)) in
    let is : Some e ≡ end_part c.args.at rest = c.in_err-check_padding.ensures ∙ ap (padding_fault c.args.at rest) c.name_end.ensures in
    handed_on (store_fault limit c.args.at rest f) (after (Store (case_at rest)) f) limit c.from_residual-in_err-check_padding.result (record old { free = c.read_runs.new.free; names = c.take_name.new.names }) e c.from_residual-in_err-check_padding.ensures.1
    (end_told limit c.args.at rest f e
    (sym (c.in_ok-check_facts.ensures.fault f)) taken.0
    (sym (c.in_ok-check_image.ensures ∙ ap (image_part c.args.at rest) taken.1.number))
    (name_part_is c.args.at rest f old.names named ∙ c.in_ok-name.ensures.0)
    (states (end_part c.args.at rest) e (subst (λ (n : ℕ). OnlyDamaged (padding_fault c.args.at rest n)) c.name_end.ensures (padding_only c.args.at rest c.name_end.result)) is))

pub returns : goal.returns
returns c =
    let old = c.args.self.now in
    let new = c.push.new.self in
    let rest = c.args.rest.now in
    let limit = length old.free in
    let f = said_by old in
    let taken = c.in_ok-runs.ensures.taken (used_blocks f.cases) c.requires.kept.accounts in
    let named : is_name_of f.cases (name_at rest) ≡ has_name old.names (name_at rest) =
    any_bearer (name_at rest) (has_name old.names (name_at rest)) f.cases (c.requires.kept.names (name_at rest)) in
    let entry = c.entry_at.result in
    let name_is = c.in_ok-name.ensures.1 in
    let e : case_of entry ≡ case_at rest =
    c.entry_at.ensures
    ∙ ap (λ (n : List ℕ). let k : Case = record (case_at rest) { origin = record (origin_at rest) { name = n }; blocks = c.in_ok-runs.runs } in k) name_is
    ∙ ap (λ (b : List ℕ). let k : Case = record (case_at rest) { blocks = b } in k) taken.1.all in
    let push = c.in_ok-push.ensures in
    let same_name : (case_of entry).origin.name ≡ name_at rest = ap (λ (k : Case). k.origin.name) e in
    let blocks : (case_of entry).blocks ≡ c.in_ok-runs.runs = ap (λ (k : Case). k.blocks) c.entry_at.ensures in (
      store_passes limit c.args.at rest f
          (sym (c.in_ok-check_facts.ensures.fault f)) taken.0
          (sym (c.in_ok-check_image.ensures ∙ ap (image_part c.args.at rest) taken.1.number))
          (name_part_is c.args.at rest f old.names named ∙ c.in_ok-name.ensures.0)
          (sym (c.in_ok-check_padding.ensures ∙ ap (padding_fault c.args.at rest) c.name_end.ensures)),
      subst (λ (k : Case). Says (after (Store k) f) limit new) e
          (store_says old new (case_of entry) c.requires.kept push.version
          push.cases push.numbered push.end push.next push.bound
          (λ q. ap (λ (names : BTreeSet (ℕ × ArrayVec ℕ)). has_name names q) push.names ∙ c.in_ok-name.ensures.2 q
          ∙ ap (λ (n : List ℕ). cond (bytes_eq n q) true (has_name old.names q)) (sym same_name))
          (ap (has_name old.names) same_name ∙ fresh_name c.args.at rest old.names c.in_ok-name.ensures.0)
          (subst (λ (flags : List Bool). Accounts (used_blocks f.cases ++ (case_of entry).blocks) flags) (sym push.free)
          (subst (λ (l : List ℕ). Accounts (used_blocks f.cases ++ l) c.read_runs.new.free) (sym blocks) taken.1.accounts))
          (ap length push.free ∙ c.in_ok-runs.ensures.size)),
    )
