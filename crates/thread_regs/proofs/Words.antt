-- The word that a register is.
use Rattle.std.proofs.Common.{◌≡◌, ◌≢◌, ◌*◌, ◌+◌, ◌≤◌, ◌<◌, ℕ, List, cond, eqb, None, Some, ap, ◌∙◌, sym, arith}
use Rattle.std.proofs.lemmas.Bool.{ne_eqb}
use Rattle.std.specs.Option.{option_map_or}
use Rattle.core_notes.specs.Descriptor.{pr_reg}
use Rattle.thread_regs.specs.Register.{register_in}

own : (desc : List ℕ) (x : ℕ) → 1 ≤ x → x < 32 → register_in desc x ≡ pr_reg desc x
own desc x some few =
    ap (λ t. option_map_or (pr_reg desc) (cond t None (cond (eqb x 32) (Some 0) (Some x))) 0) (ne_eqb x 0 (λ e. omega arith))
    ∙ ap (λ t. option_map_or (pr_reg desc) (cond t (Some 0) (Some x)) 0) (ne_eqb x 32 (λ e. omega arith))

pub own_word : (desc : List ℕ) (x word : ℕ) → 1 ≤ x → x < 32 → pr_reg desc word ≢ pr_reg desc x → register_in desc x ≢ pr_reg desc word
own_word desc x word some few differ same = differ (sym same ∙ own desc x some few)
