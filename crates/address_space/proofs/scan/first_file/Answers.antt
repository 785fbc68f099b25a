use Rattle.std.proofs.Common.{◌+◌, ◌-◌, sym, ap, ◌∙◌, arith, ℕ}
use Rattle.std.specs.Option.{option_map}
use Rattle.core_notes.specs.FileList.{FileView}
use Rattle.core_notes.specs.FileWords.{file_view, files_left}
use Rattle.address_space.proofs.Scanning.{found_next, passed_next, ended_next}
use Rattle.address_space.proofs.scan.first_file.Goals as goal

pub returns-then-is_within-clause-alike : goal.returns-then-is_within-clause-alike
returns-then-is_within-clause-alike c =
    (found_next (λ (f : FileView). f.start) (λ (f : FileView). f.past) (files_left c.args.files) c.args.at c.args.limit c.loop-file.invariant.0 (file_view c.in-Some.file) (files_left c.next.new.self) (files_left c.loop-file.files) c.loop-file.length c.loop-file.invariant.1 c.in-Some.ensures.steps (c.in-Some.file.past - c.in-Some.file.start) (omega arith) (omega arith) (sym c.is_within.ensures ∙ c.if-is_within.true) c.min.result c.min.ensures).1

pub returns-then-is_within-clause-first : goal.returns-then-is_within-clause-first
returns-then-is_within-clause-first c =
    sym (ap (option_map (λ (e : ℕ × FileView). e.1)) (found_next (λ (f : FileView). f.start) (λ (f : FileView). f.past) (files_left c.args.files) c.args.at c.args.limit c.loop-file.invariant.0 (file_view c.in-Some.file) (files_left c.next.new.self) (files_left c.loop-file.files) c.loop-file.length c.loop-file.invariant.1 c.in-Some.ensures.steps (c.in-Some.file.past - c.in-Some.file.start) (omega arith) (omega arith) (sym c.is_within.ensures ∙ c.if-is_within.true) c.min.result c.min.ensures).0)

pub loop-file-preserved : goal.loop-file-preserved
loop-file-preserved c = (
  c.loop-file.invariant.0 + 1,
  passed_next (λ (f : FileView). f.start) (λ (f : FileView). f.past) (files_left c.args.files) c.args.at c.args.limit c.loop-file.invariant.0 (file_view c.in-Some.file) (files_left c.next.new.self) (files_left c.loop-file.files) c.loop-file.length c.loop-file.invariant.1 c.in-Some.ensures.steps (c.in-Some.file.past - c.in-Some.file.start) (omega arith) (omega arith) (sym c.is_within.ensures ∙ c.if-is_within.false) c.narrowed-length.result c.narrowed-length.ensures,
)

pub returns-clause-alike : goal.returns-clause-alike
returns-clause-alike c =
    (ended_next (λ (f : FileView). f.start) (λ (f : FileView). f.past) (files_left c.args.files) c.args.at c.args.limit c.loop-file.invariant.0 (files_left c.loop-file.files) c.loop-file.length c.loop-file.invariant.1 c.in_default.ensures.steps.0).1

pub returns-clause-first : goal.returns-clause-first
returns-clause-first c =
    sym (ap (option_map (λ (e : ℕ × FileView). e.1)) (ended_next (λ (f : FileView). f.start) (λ (f : FileView). f.past) (files_left c.args.files) c.args.at c.args.limit c.loop-file.invariant.0 (files_left c.loop-file.files) c.loop-file.length c.loop-file.invariant.1 c.in_default.ensures.steps.0).0)
