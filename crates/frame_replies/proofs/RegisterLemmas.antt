-- The registers of a frame, one by one.
use Rattle.std.proofs.Common.{◌≡◌, ◌<◌, ◌≤◌, ◌+◌, ◌-◌, ℕ, suc, [], ◌++◌, refl, ap, ◌∙◌, arith}
use Rattle.unwind.specs.declared.frame.Frame.{Frame}
use Rattle.frame_replies.specs.FrameRegisters.{register_line, register_lines_from}

none : (f : Frame) (word : ℕ) → register_lines_from f word 0 ≡ []
unfolding register_lines_from
none f word = refl

pub no_registers : (f : Frame) (word : ℕ) → 32 ≤ word → register_lines_from f word (32 - word) ≡ []
no_registers f word h =
    let e : 32 - word ≡ 0 = omega arith in ap (register_lines_from f word) e ∙ none f word

one_register : (f : Frame) (word n : ℕ) → register_lines_from f word (suc n) ≡ register_line f word ++ register_lines_from f (word + 1) n
unfolding register_lines_from
one_register f word n = refl

pub first_register : (f : Frame) (word : ℕ) → word < 32 → register_lines_from f word (32 - word) ≡ register_line f word ++ register_lines_from f (word + 1) (32 - (word + 1))
first_register f word h =
    let e : 32 - word ≡ suc (32 - (word + 1)) = omega arith in
    ap (register_lines_from f word) e ∙ one_register f word (32 - (word + 1))
