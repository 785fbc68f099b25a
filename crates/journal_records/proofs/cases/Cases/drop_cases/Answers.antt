use Rattle.std.proofs.Common.{◌≡◌, refl, ℕ, ◌+◌, ◌-◌, ◌*◌, List, ◌∷◌, drop, sym, ap, ◌∙◌}
use Rattle.journal_layout.specs.Reading.{seqs_at, drop_seqs}
use Rattle.journal_layout.specs.Folding.{Folded, dropped}
use Rattle.journal_records.specs.Live.{cases_of}
use Rattle.journal_records.proofs.LiveLemmas.{dropped_more, dropped_empty}
use Rattle.journal_records.proofs.DropLemmas.{seqs_here, seqs_none}
use Rattle.journal_records.proofs.SaysLemmas.{folded_same}
use Rattle.journal_records.proofs.cases.Cases.drop_cases.Goals as goal

pub loop-index-preserved : goal.loop-index-preserved
loop-index-preserved c =
    let l = c.loop-index in
    let rest = c.args.rest.now in
    let count = c.u32_at-index-end.result in
    let more = seqs_at (drop (12 + 4 * (l.index + 1)) rest) (count - (l.index + 1)) in
    let cs = cases_of l.self.live.entries in
    let says = c.in_ok-drop_case.ensures.1.says in
    record {
      kept = c.in_ok-drop_case.ensures.1.kept;
      left =
          ap (λ (f : Folded). dropped more f.cases) says
          ∙ sym (dropped_more c.u32_at.result more cs)
          ∙ ap (λ k. dropped (k ∷ more) cs) c.u32_at.ensures
          ∙ ap (λ (seqs : List ℕ). dropped seqs cs) (sym (seqs_here l.index count rest c.loop-index-test.true))
          ∙ l.invariant.left;
      next = ap (λ (f : Folded). f.next) says ∙ l.invariant.next;
      version = ap (λ (f : Folded). f.version) says ∙ l.invariant.version;
      size = c.in_ok-drop_case.ensures.1.size ∙ l.invariant.size;
    }

pub returns : goal.returns
returns c =
    let l = c.loop-index in
    let rest = c.args.rest.now in
    let cs = cases_of l.self.live.entries in
    let all : cs ≡ dropped (drop_seqs rest) (cases_of c.args.self.now.live.entries) =
    sym (dropped_empty cs)
    ∙ ap (λ (seqs : List ℕ). dropped seqs cs) (sym (seqs_none (12 + 4 * l.index) c.u32_at-index-end.result l.index rest c.loop-index-test.false))
    ∙ l.invariant.left in (
      refl,
      record {
        kept = l.invariant.kept;
        says = folded_same l.self.version c.args.self.now.version cs (dropped (drop_seqs rest) (cases_of c.args.self.now.live.entries)) l.self.next c.args.self.now.next l.invariant.version all l.invariant.next;
        size = l.invariant.size;
      },
    )
