use Rattle.std.proofs.Common.{◌≡◌, ◌+◌, ◌≤◌, ◌^◌, sym, ap, subst, ◌∙◌, Some, arith}
use Rattle.elf_view.specs.ViewWords.{image_of}
use Rattle.address_space.specs.Source.{value_at}
use Rattle.address_space.specs.SpaceWords.{space_of}
use Rattle.address_space.specs.Whole.{IsFrontOf}
use Rattle.address_space.specs.WordLaws.{word_none}
use Rattle.address_space.proofs.Numbers.{word_front}
use Rattle.seen_memory.specs.Seen.{space_by}
use Rattle.seen_memory.proofs.Bytes.{past_the_end}
use Rattle.seen_memory.proofs.memory.SeenMemory.word.Goals as goal

pub returns-in_default : goal.returns-in_default
returns-in_default c image is =
    let m = c.args.self.now in
    let elf = m.space.now.elf in
    let front = subst (λ f. IsFrontOf f m.size image) m.own is.begins in
    let high : 2 ^ 64 ≤ c.args.address + c.loop-i.i = omega (arith, c.in_default.ensures) in
    sym (word_none (space_by m image) 8 c.args.address c.loop-i.i (omega arith)
    (past_the_end (image_of elf) image elf.want (space_of m.space.now) (c.args.address + c.loop-i.i) front.1 elf.whole elf.sound c.a_sound_front_is_enough.ensures.sound c.accepted_segments_fit.ensures.loads high))

pub returns-in_default-2 : goal.returns-in_default-2
returns-in_default-2 c image is =
    let place : c.args.address + c.loop-i.i ≡ c.in-Some.at = omega (arith, c.in-Some.ensures) in
    sym (word_none (space_by c.args.self.now image) 8 c.args.address c.loop-i.i (omega arith)
    (ap (value_at (space_by c.args.self.now image)) place ∙ sym (c.in_ok-byte.ensures image is) ∙ c.in_default-2.is))

pub returns : goal.returns
returns c image is =
    ap Some c.u64_at.ensures ∙ sym (word_front (space_by c.args.self.now image) 8 c.args.address c.loop-i.bytes (λ k h. c.loop-i.invariant.values image is k (omega (arith, h))))
