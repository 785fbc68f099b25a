use Rattle.std.proofs.Common.{arith, drop, List, subst, sym, take, ℕ}
use Rattle.std.proofs.KnownBytes.{Appends-trans}
use Rattle.std.specs.Io.KnownBytes.{Appends}
use Rattle.handler_files.proofs.StreamLemmas.{take_both}
use Rattle.handler_files.proofs.stream.send.Goals as goal

pub loop-sent-preserved : goal.loop-sent-preserved
loop-sent-preserved g c =
    let so_far = c.loop-sent.invariant in
    let bytes = c.args.bytes.now in
    let sent = c.loop-sent.sent in
    let count = c.in-Ok.count in
    record {
      within = (let n = c.in-Ok.ensures.bound in let b = c.split_at.ensures.back_len in let w = so_far.within in omega (arith, n, b, w));
      taken =
          subst (λ (l : List ℕ). Appends (g.W.Write.contents c.args.writer.now) (g.W.Write.contents c.write.new.self) l) (sym (take_both sent count bytes))
          (Appends-trans _ _ _ (take sent bytes) (take count (drop sent bytes)) so_far.taken (let b = c.in-Ok.ensures.bytes in subst (λ (l : List ℕ). Appends (g.W.Write.contents c.loop-sent.writer) (g.W.Write.contents c.write.new.self) (take count l)) (c.split_at.ensures.back) b));
    }
