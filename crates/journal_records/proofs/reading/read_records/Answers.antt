use Rattle.std.proofs.Common.{ℕ, ◌+◌, List, Ok, length, drop, sym, ap, ◌∙◌, subst, arith}
use Rattle.std.proofs.lemmas.List.{length-drop}
use Rattle.journal_layout.specs.Folding.{Folded}
use Rattle.journal_layout.specs.Checks.{record_fault}
use Rattle.journal_records.specs.Kept.{said_by, ReadsRecord}
use Rattle.journal_records.proofs.AlongLemmas.{along_more, rest_of}
use Rattle.journal_records.proofs.reading.read_records.Goals as goal

pub loop-size-preserved : goal.loop-size-preserved
loop-size-preserved c =
    let l = c.loop-size in
    let bytes = c.args.bytes.now in
    let old = l.cases in
    let new = c.read_record.new.self in
    let ok = c.in_ok-more in
    let read : ReadsRecord (c.args.at + l.size) (drop l.size bytes) old (Ok ok.more) new =
    subst (λ (rest : List ℕ). ReadsRecord (c.args.at + l.size) rest old (Ok ok.more) new) (rest_of l.size bytes) ok.ensures in
    let long = length-drop l.size bytes in
    let in_half = read.3.in_half in
    let is = read.2 in
    let some = read.3.least in
    record {
      along = along_more (length c.args.cases.now.free) c.args.cases.now.version (c.args.at + l.size) bytes (said_by old) (said_by new) l.last l.size ok.more (λ k. (let f = c.type_inv.bytes k in omega arith)) l.invariant.along c.loop-size-test.true
          (ap (λ n. record_fault n (c.args.at + l.size) (drop l.size bytes) (said_by old)) (sym l.invariant.free) ∙ read.0)
          read.1.says read.2;
      low = omega (arith, is, some);
      version = ap (λ (f : Folded). f.version) read.1.says ∙ l.invariant.version;
      kept = read.1.kept;
      in_half = omega (arith, long, in_half, is, l.invariant.in_half);
      free = read.1.size ∙ l.invariant.free;
    }
