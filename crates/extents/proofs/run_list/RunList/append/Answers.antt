use Rattle.std.proofs.Common.{◌≡◌, refl, ◌++◌, arith, ap, ◌∙◌, subst, sym, List, [], ◌∷◌}
use Rattle.extents.specs.declared.run_list.Run.{Run}
use Rattle.extents.specs.Runs.{IsRun, run_blocks, blocks_of, AreApart}
use Rattle.extents.proofs.BlockLemmas.{last_run, apart_grown, blocks_grown, apart_pushed, apart_alone, blocks_push, set_same}
use Rattle.extents.proofs.run_list.RunList.append.Goals as goal
use Rattle.extents.proofs.run_list.RunList.append.Goals.{in-Some+else-last-run, in_default}

pub overflow_add-last : goal.overflow_add-last
overflow_add-last c =
    let v = c.self.inside.runs in
    let item = c.in-Some.ensures.item in
    let r : IsRun c.in-Some.last.now = last_run v.items v.len v.ok.0 c.in-Some.last.now c.self.invariant (c.in-Some.ensures.variant.0 refl) item.1 in
    let w = r.within in
    omega arith

pub invariant_of-self : goal.invariant_of-self
invariant_of-self c =
    let v = c.self.inside.runs in
    apart_grown v.items v.len v.ok.0 c.in-Some.last.now c.self.invariant (c.in-Some.ensures.variant.0 refl) c.in-Some.ensures.item.1 c.args.run c.requires c.if-last-run.true

pub returns-then-last-run-clause-ok : goal.returns-then-last-run-clause-ok
returns-then-last-run-clause-ok c =
    let v = c.self.inside.runs in
    blocks_grown v.items v.len v.ok.0 c.in-Some.last.now (c.in-Some.ensures.variant.0 refl) c.in-Some.ensures.item.1 c.args.run c.if-last-run.true
    ∙ ap (λ xs. xs ++ run_blocks c.args.run) c.self.view_is

-- the items that the new run is put after
items_stay : (c : goal.In_ok-push) → c.match-last_mut.self-inside.runs.items ≡ c.self.inside.runs.items
items_stay c = elim c.match-last_mut.branch [
  | in-Some+else-last-run w ↦ ap (λ f. f.runs.items) w.self-inside-is ∙ set_same c.self.inside.runs.items c.self.inside.runs.len w.in-Some.last.now w.in-Some.ensures.value
  | in_default w ↦ ap (λ f. f.runs.items) w.self-inside-is
]

pub invariant_of-self-2 : goal.invariant_of-self-2
invariant_of-self-2 c =
    let P : List Run → Type 0 = AreApart in
    let v = c.self.inside.runs in
    subst P (ap (λ rs. rs ++ c.args.run ∷ []) (sym (items_stay c)) ∙ sym c.in_ok-push.ensures.items)
    (elim c.match-last_mut.branch [
      | in-Some+else-last-run w ↦ apart_pushed v.items v.len v.ok.0 w.in-Some.last.now c.self.invariant (w.in-Some.ensures.variant.0 refl) w.in-Some.ensures.value c.args.run c.requires w.if-last-run.false
      | in_default w ↦ (let h = w.in_default.ensures.item in apart_alone v.items c.args.run (omega arith) c.requires)
    ])

pub returns-clause-ok : goal.returns-clause-ok
returns-clause-ok c =
    ap blocks_of c.in_ok-push.ensures.items ∙ blocks_push c.match-last_mut.self-inside.runs.items c.args.run
    ∙ ap (λ rs. blocks_of rs ++ run_blocks c.args.run) (items_stay c) ∙ ap (λ xs. xs ++ run_blocks c.args.run) c.self.view_is
