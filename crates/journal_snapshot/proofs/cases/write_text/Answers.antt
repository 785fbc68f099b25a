use Rattle.std.proofs.Common.{◌≡◌, ◌∙◌, length, sym, ap, arith}
use Rattle.journal_layout.specs.Record.{Label, spelling}
use Rattle.journal_layout.specs.SpellLaws.{length-spelling}
use Rattle.journal_snapshot.specs.WriteLaws.{writes_once, writes_err}
use Rattle.journal_snapshot.proofs.cases.write_text.Goals as goal

pub unwrap-requires : goal.unwrap-requires
unwrap-requires g c = c.spell_label.ensures.succeeds (omega (arith, c.requires.capacity, length-spelling (Label c.args.seq c.args.label.now)))

pub fill-requires : goal.fill-requires
fill-requires g c =
    let same = c.deref.ensures.value ∙ rw c.unwrap.ensures at c.spell_label.ensures.record in
    rw same c.requires.in_half

pub overflow_add-result : goal.overflow_add-result
overflow_add-result g c =
    let same = c.deref.ensures.value ∙ rw c.unwrap.ensures at c.spell_label.ensures.record in
    let long : c.len.result ≡ length (spelling (Label c.args.seq c.args.label.now)) = c.len.ensures ∙ sym c.deref.ensures.len ∙ ap length same in
    let in_half = c.requires.in_half in
    let addressed = g.met.D.Disk.addressed c.args.disk.now in
    omega arith

pub returns-in_err-fill-clause-writes : goal.returns-in_err-fill-clause-writes
returns-in_err-fill-clause-writes g c =
    let same = c.deref.ensures.value ∙ rw c.unwrap.ensures at c.spell_label.ensures.record in
    writes_err g.D.Disk c.args.disk.now c.fill.new.disk c.args.at c.deref.result.now (spelling (Label c.args.seq c.args.label.now)) c.from_residual.result c.from_residual.ensures.0 same c.fill.ensures.fills

pub returns-clause-writes : goal.returns-clause-writes
returns-clause-writes g c =
    let same = c.deref.ensures.value ∙ rw c.unwrap.ensures at c.spell_label.ensures.record in
    writes_once g.D.Disk c.args.disk.now c.fill.new.disk c.args.at c.len.result c.deref.result.now (spelling (Label c.args.seq c.args.label.now)) same (c.len.ensures ∙ sym c.deref.ensures.len)
    c.fill.ensures.fills (λ honest. c.in_ok-fill.ensures.there honest)
