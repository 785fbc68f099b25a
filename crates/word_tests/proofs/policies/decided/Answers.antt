use Rattle.std.proofs.Common.{ℕ, zero, suc, ◌+◌, ◌<◌, [], ◌∷◌, get_or, arith}
use Rattle.word_tests.proofs.policies.decided.Goals as goal

three : (x y z : ℕ) → x < y → y < z → (k : ℕ) → k + 1 < 3 → get_or (x ∷ y ∷ z ∷ []) k 0 < get_or (x ∷ y ∷ z ∷ []) (k + 1) 0
three x y z first second zero lt = first
three x y z first second (suc zero) lt = second
three x y z first second (suc (suc k)) lt = absurd (omega arith)

pub decide-requires : goal.decide-requires
decide-requires c = three c.args.cases.0.seq c.args.cases.1.seq c.args.cases.2.seq c.requires.second c.requires.third
