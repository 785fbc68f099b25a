use Rattle.std.proofs.Common.{ℕ, List, ◌+◌, ◌<◌, ◌≤◌, length, IsTrue, sym, ◌∙◌, subst, arith}
use Rattle.std.proofs.lemmas.List.{with_items_is}
use Rattle.journal_layout.specs.Layout.{half_start}
use Rattle.shared_disk.specs.declared.chain.Chain.{Chain}
use Rattle.shared_disk.specs.Heads.{HasHeads, IsLater}
use Rattle.shared_disk.specs.JournalLooks.{IsChain, OpensInTurn}
use Rattle.shared_disk.specs.Outcome.{IsSeen}
use Rattle.shared_disk.proofs.ReadLemmas.{if_some, turn_in, seen_in, gates_in, generations_in}
use Rattle.shared_disk.proofs.SeenLemmas.{is_seen}
use Rattle.shared_disk.proofs.look.look_once.Goals as goal

pub returns-clause-seen : goal.returns-clause-seen
returns-clause-seen g c honest =
    let w = g.D.WatchedDisk in
    let d0 = c.args.disk.now in
    let d1 = c.read_heads.new.disk in
    let d2 = c.read_chain.new.disk in
    let d3 = c.read_front.new.disk in
    let d4 = c.read_heads_again.new.disk in
    let r1 = c.read_heads.ensures.runs in
    let r2 = c.read_chain.ensures.runs in
    let r3 = c.read_front.ensures.runs in
    let r4 = c.read_heads_again.ensures.runs in
    let h1 = subst IsTrue (sym r1.honesty) honest in
    let h2 = subst IsTrue (sym r2.honesty) h1 in
    let h3 = subst IsTrue (sym r3.honesty) h2 in
    let h4 = subst IsTrue (sym r4.honesty) h3 in
    let m2 = r2.moments ∙ r1.moments in
    let m3 = r3.moments ∙ m2 in
    let m4 = r4.moments ∙ m3 in
    let t1 = r1.later honest in
    let t2 = r2.later h1 in
    let t3 = r3.later h2 in
    let t4 = r4.later h3 in
    let chain = c.in-Some-2.chain in
    let b = c.read_front.new.front in
    let long = c.in-Ok-read_front.ensures.front ∙ c.deref_mut.ensures.len ∙ c.in-Ok-vec.ensures.len in
    let same = with_items_is c.in-Ok-vec.front b (c.read_front.auto.front ∙ c.deref_mut.ensures.len) in
    let passed = c.deref.ensures.value ∙ same in
    let yes = c.if-not-agree.false in
    let start_is = c.half_start-start.ensures in
    let length_is = c.half_length.ensures in
    let first = c.in-Ok.ensures.read honest in
    let last = c.in-Ok-read_heads_again.ensures.read h3 in
    let opened = if_some (λ (x : Chain). IsTrue (w.is_honest d1) → OpensInTurn (w.moments d1) (w.reached d1) (w.reached d2) x.places.items) c.in_ok-chain.field-0 chain c.in-Some-2.is c.in_ok-chain.ensures.opened in
    let from = if_some (λ (x : Chain). c.half_start-start.result + 32 ≤ x.behind) c.in_ok-chain.field-0 chain c.in-Some-2.is c.in_ok-chain.ensures.from in
    let within = if_some (λ (x : Chain). x.behind < c.half_start-start.result + c.half_length.result) c.in_ok-chain.field-0 chain c.in-Some-2.is c.in_ok-chain.ensures.within in
    let latest = subst (λ (l : List (List ℕ)). w.reached d4 < length l) m4 (g.met.D.WatchedDisk.within d4 h4) in
    subst (IsSeen (w.moments d0) (w.reached d0) (w.reached d4) c.args.shape c.in-Some.half) (sym same)
    (is_seen (w.moments d0) c.args.shape c.in-Some.half b c.in-Ok.heads c.in-Ok-read_heads_again.again chain.places.items chain.behind
    (w.reached d0) first.0 (w.reached d1) (w.reached d2) (w.reached d3) last.0 (w.reached d4)
    c.requires.limits
    (g.met.D.WatchedDisk.whole d0 (w.reached d2) honest (omega (arith, t3, t4, latest)) ∙ c.requires.size)
    long
    (omega (arith, from, start_is))
    (omega (arith, within, start_is, length_is))
    latest
    first.3 first.4
    (turn_in _ _ _ _ _ r1.moments (opened h1))
    (seen_in _ _ _ _ _ _ m2 (c.in-Ok-read_front.ensures.read h2))
    (gates_in _ _ _ _ c.args.shape c.in-Ok-read_heads_again.again m3 last.3)
    (generations_in _ _ _ _ c.args.shape c.in-Ok-read_heads_again.again m3 last.4)
    (subst (λ (l : List ℕ). HasHeads l c.args.shape c.in-Ok.heads) passed (c.agree.ensures.first yes))
    (subst (λ (l : List ℕ). HasHeads l c.args.shape c.in-Ok-read_heads_again.again) passed (c.agree.ensures.second yes))
    (subst (λ (l : List ℕ). IsChain l (half_start c.args.shape c.in-Some.half + 32) chain.places.items chain.behind) passed (c.agree.ensures.chain yes))
    (if_some (IsLater c.in-Ok.heads) c.taken.result c.in-Some.half c.in-Some.is c.taken.ensures)
    (omega (arith, t1, t2)) (omega (arith, t3, t4)))
