use Rattle.std.proofs.Common.{◌∙◌, ap, sym, ℕ}
use Rattle.journal_layout.specs.Front.{is_shape_of}
use Rattle.case_journal.proofs.FormatLemmas.{opened_front, front_stands, written_length, shape_tells}
use Rattle.case_journal.proofs.formatting.format.Goals as goal

pub returns-clause-written : goal.returns-clause-written
returns-clause-written g c honest =
    let told = shape_tells c.args.shape (g.D.Disk.size c.args.disk.now) (ap (λ (n : ℕ). is_shape_of n c.args.shape) (sym c.length.ensures) ∙ sym c.is_shape_of.ensures ∙ c.if-not-is_shape_of.false) in
    let still = c.write_headers.ensures.honesty ∙ honest in
    opened_front c.args.shape _ _ told.0
    (g.met.D.Disk.whole c.write_headers.new.disk still ∙ c.write_headers.ensures.size ∙ sym told.1)
    (c.in_ok-write_headers.ensures.headers honest) (c.in_ok-write_stable.ensures.stable still).1

pub returns-clause-made : goal.returns-clause-made
returns-clause-made g c honest =
    let told = shape_tells c.args.shape (g.D.Disk.size c.args.disk.now) (ap (λ (n : ℕ). is_shape_of n c.args.shape) (sym c.length.ensures) ∙ sym c.is_shape_of.ensures ∙ c.if-not-is_shape_of.false) in
    let still = c.write_headers.ensures.honesty ∙ honest in
    let long = g.met.D.Disk.whole c.write_headers.new.disk still ∙ c.write_headers.ensures.size ∙ sym told.1 in
    let is = (c.in_ok-write_stable.ensures.stable still).1 in
    front_stands c.args.shape _ told.0 (written_length c.args.shape _ _ told.0 long is)
    (opened_front c.args.shape _ _ told.0 long (c.in_ok-write_headers.ensures.headers honest) is)
