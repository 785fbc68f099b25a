use Rattle.std.proofs.Common.{◌∙◌, arith, drop, List, subst, sym, take, ℕ}
use Rattle.std.proofs.KnownBytes.{Appends-trans}
use Rattle.std.proofs.lemmas.List.{length-drop}
use Rattle.std.specs.Io.KnownBytes.{Appends}
use Rattle.archive_files.proofs.HeldLemmas.{take_both}
use Rattle.archive_files.proofs.held.send.Goals as goal

pub loop-sent-preserved : goal.loop-sent-preserved
loop-sent-preserved g c =
    let so_far = c.loop-sent.invariant in
    let text = c.args.text.now in
    let sent = c.loop-sent.sent in
    let count = c.in-Ok.count in
    record {
      within = (let n = c.in-Ok.ensures.count.1 in let l = length-drop sent text in let w = so_far.within in omega (arith, n, l, w));
      taken =
          subst (λ (l : List ℕ). Appends (g.O.Output.taken c.args.output.now) (g.O.Output.taken c.write.new.self) l) (sym (take_both sent count text))
          (Appends-trans _ _ _ (take sent text) (take count (drop sent text)) so_far.taken (let b = c.in-Ok.ensures.bytes in subst (λ (l : List ℕ). Appends (g.O.Output.taken c.loop-sent.output) (g.O.Output.taken c.write.new.self) (take count l)) (c.split_at.ensures.back) b));
      failures = c.in-Ok.ensures.ok ∙ so_far.failures;
    }
