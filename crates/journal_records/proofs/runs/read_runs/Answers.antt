use Rattle.std.proofs.Common.{◌≡◌, ◌+◌, ◌*◌, ◌++◌, true, length, sym, ap, ◌∙◌, subst, arith}
use Rattle.std.specs.Option.{option_map}
use Rattle.journal_layout.specs.declared.faults.Field.TheVariants as named
use Rattle.journal_layout.specs.Checks.{damaged, is_bad_run}
use Rattle.journal_records.specs.Head.{SaysFault}
use Rattle.journal_records.specs.Taken.{fault_of_runs}
use Rattle.journal_records.proofs.ByteLemmas.{run_at}
use Rattle.journal_records.proofs.RunLemmas.{so_far_bad, so_far_step, so_far_end}
use Rattle.journal_records.proofs.runs.read_runs.Goals as goal

pub returns-then-not-take_run-clause-taken : goal.returns-then-not-take_run-clause-taken
returns-then-not-take_run-clause-taken c = λ used accounts.
    let rest = c.args.rest.now in
    let l = c.loop-index in
    let limit = length c.args.free.now in
    let so = l.invariant.so_far used accounts in
    let bad : is_bad_run limit (used ++ l.list) l.end (run_at rest (48 + 8 * l.index)) ≡ true =
    ap (λ n. is_bad_run n (used ++ l.list) l.end (run_at rest (48 + 8 * l.index))) (sym l.invariant.size)
    ∙ ap (is_bad_run (length l.free) (used ++ l.list) l.end) (sym c.run_at-run.ensures)
    ∙ c.if-not-take_run.ensures.taken (used ++ l.list) so.accounts in
    subst (SaysFault (fault_of_runs limit c.args.at rest used)) (sym c.damaged.ensures)
    (ap (option_map (damaged c.args.at named.Run)) (so_far_bad limit used rest c.u32_at-index-end.result l.index l.end l.list l.blocks l.free so c.loop-index-test.true bad))

pub loop-index-preserved : goal.loop-index-preserved
loop-index-preserved c =
    let rest = c.args.rest.now in
    let l = c.loop-index in
    let limit = length c.args.free.now in
    let within = c.if-not-take_run.ensures.within in
    let size = c.take_run.ensures.size in
    record {
      size = size ∙ l.invariant.size;
      bound = omega (arith, c.from-blocks.ensures, l.invariant.bound, l.invariant.size, c.requires.limit, within.1);
      so_far = λ used accounts.
          let so = l.invariant.so_far used accounts in
          let taken = c.if-not-take_run.ensures.taken (used ++ l.list) so.accounts in
          so_far_step limit used rest c.u32_at-index-end.result l.index l.end l.list l.blocks l.free c.take_run.new.free c.run_at-run.result c.append.new.self (l.blocks + c.from-blocks.result)
          so c.loop-index-test.true c.run_at-run.ensures c.in-Ok.ensures.ok (ap (λ n. l.blocks + n) c.from-blocks.ensures)
          (ap (λ n. is_bad_run n (used ++ l.list) l.end c.run_at-run.result) (sym l.invariant.size) ∙ taken.0)
          taken.1;
    }

pub returns-clause-taken : goal.returns-clause-taken
returns-clause-taken c = λ used accounts.
    let l = c.loop-index in
    let end = so_far_end (length c.args.free.now) used c.args.rest.now c.u32_at-index-end.result l.index l.end l.list l.blocks l.free (l.invariant.so_far used accounts) c.loop-index-test.false in
    (ap (option_map (damaged c.args.at named.Run)) end.0, end.1)
