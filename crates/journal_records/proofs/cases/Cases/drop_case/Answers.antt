use Rattle.std.proofs.Common.{◌≡◌, ℕ, List, [], ◌∷◌, Bool, Some, length, sym, ap, ◌∙◌, subst, refl, arith, cond, false}
use Rattle.std.specs.BTreeMap.{is_at}
use Rattle.std.specs.Ordering.{nat_cmp, is_eq}
use Rattle.arrayvec.specs.ArrayVec.{ArrayVec}
use Rattle.std.specs.Map.{lookup, remove_entry}
use Rattle.std.specs.Str.{bytes_eq}
use Rattle.extents.specs.Runs.{runs_of, blocks_of}
use Rattle.extents.specs.FreeSet.{AreUsed, one_if, with_runs}
use Rattle.extents.specs.FreeLaws.{length_with}
use Rattle.journal_layout.specs.declared.entry.Entry.{Entry}
use Rattle.journal_layout.specs.Folding.{Folded, used_blocks, after}
use Rattle.journal_layout.specs.Record.{Drop}
use Rattle.journal_layout.specs.Case.{Case}
use Rattle.journal_records.specs.Live.{cases_of, AreNumbered}
use Rattle.journal_records.specs.Taken.{Accounts}
use Rattle.journal_records.specs.Named.{has_name, key_of, key_cmp}
use Rattle.journal_records.specs.NamedLaws.{same_key}
use Rattle.journal_records.specs.Kept.{bearers, said_by}
use Rattle.journal_records.specs.declared.cases.Cases.{Cases}
use Rattle.journal_records.proofs.FaultLemmas.{reads_none}
use Rattle.journal_records.proofs.LiveLemmas.{numbered_removed, dropped_removed, remove_none}
use Rattle.journal_records.proofs.KeptLemmas.{used_removed, bearers_removed, names_removed, runs_used, accounts_less}
use Rattle.journal_records.proofs.cases.Cases.drop_case.Goals as goal

pub give_back-requires : goal.give_back-requires
give_back-requires c =
    let es = c.args.self.now.live.entries in
    let v = c.in-Some.entry.now in
    subst (AreUsed c.args.self.now.free) (sym c.runs.ensures.shortest)
    (runs_used (used_blocks (cases_of es)) v.runs c.args.self.now.free c.requires.accounts
    (λ k. (let s = used_removed k (is_at (nat_cmp c.args.seq)) v es c.in-Some.ensures.value in omega (arith, s))))

pub returns : goal.returns
returns c =
    let old = c.args.self.now in
    let es = old.live.entries in
    let test = is_at (nat_cmp c.args.seq) in
    let v = c.in-Some.entry.now in
    let found : Some v ≡ lookup test es = c.in-Some.ensures.value in
    let new : Cases = record old { live = c.end_case.new.self; names = c.remove.new.self; free = c.give_back.new.self } in
    let freed : c.give_back.new.self ≡ with_runs old.free (runs_of v.runs) = c.give_back.ensures ∙ ap (with_runs old.free) c.runs.ensures.shortest in
    reads_none (after (Drop (c.args.seq ∷ [])) (said_by old)) (length old.free) c.end_case.result new (new.live.entries ≡ remove_entry test es) c.end_case.ensures.only c.end_case.ensures.entries (λ less. record {
      kept = record {
        numbered = subst (AreNumbered 0 old.next) (sym less) (numbered_removed 0 old.next c.args.seq es c.requires.numbered);
        end = (let e = c.end_case.ensures.end in let k = c.requires.end in omega (arith, e, k));
        some = c.requires.some;
        bound = c.requires.bound;
        names = λ name.
            ap (λ (l : List (ℕ × Entry)). bearers (cases_of l) name) less
            ∙ names_removed (bytes_eq v.name.items name) (has_name old.names name) (bearers (cases_of (remove_entry test es)) name) (bearers (cases_of es) name)
            (bearers_removed name test v es found) (c.requires.names name)
            ∙ ap (λ t. one_if (cond t false (has_name old.names name))) (sym (same_key v.name.items name))
            ∙ ap (λ (k : ℕ × ArrayVec ℕ). one_if (cond (is_eq (key_cmp k (key_of name))) false (has_name old.names name))) (sym c.name_key.ensures)
            ∙ ap one_if (sym (c.remove.ensures.updates.0 (key_of name)));
        accounts = subst (λ (flags : List Bool). Accounts (used_blocks (cases_of new.live.entries)) flags) (sym freed)
            (subst (λ (l : List (ℕ × Entry)). Accounts (used_blocks (cases_of l)) (with_runs old.free (runs_of v.runs))) (sym less)
            (accounts_less (used_blocks (cases_of es)) (used_blocks (cases_of (remove_entry test es))) v.runs old.free c.requires.accounts
            (λ k. used_removed k test v es found)));
      };
      says = ap (λ (l : List (ℕ × Entry)). let f : Folded = record { version = old.version; cases = cases_of l; next = old.next } in f) less
          ∙ ap (λ (cs : List Case). let f : Folded = record { version = old.version; cases = cs; next = old.next } in f) (dropped_removed 0 old.next c.args.seq es c.requires.numbered);
      size = ap length freed ∙ length_with old.free (blocks_of (runs_of v.runs));
    })

pub returns-in_default : goal.returns-in_default
returns-in_default c =
    let old = c.args.self.now in
    let es = old.live.entries in
    let test = is_at (nat_cmp c.args.seq) in
    let all : remove_entry test es ≡ es = remove_none test es (sym c.in_default.ensures.value) in (
      refl,
      record {
        kept = c.requires;
        says = ap (λ (l : List (ℕ × Entry)). let f : Folded = record { version = old.version; cases = cases_of l; next = old.next } in f) (sym all)
            ∙ ap (λ (cs : List Case). let f : Folded = record { version = old.version; cases = cs; next = old.next } in f) (dropped_removed 0 old.next c.args.seq es c.requires.numbered);
        size = refl;
      },
    )
