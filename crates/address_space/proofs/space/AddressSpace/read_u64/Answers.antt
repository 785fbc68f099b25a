use Rattle.std.proofs.Common.{sym, ap, ◌∙◌, Some, arith, lit<}
use Rattle.std.specs.Option.{option_map}
use Rattle.address_space.specs.CursorWords.{value_in}
use Rattle.address_space.specs.SpaceWords.{space_of}
use Rattle.address_space.specs.WordLaws.{word_none}
use Rattle.address_space.proofs.Numbers.{word_front}
use Rattle.address_space.proofs.space.AddressSpace.read_u64.Goals as goal

pub returns-in_err-bytes : goal.returns-in_err-bytes
returns-in_err-bytes c =
    c.from_residual.ensures ∙ sym (word_none (space_of c.args.self.now) 8 c.args.address 0 (lit< tt) (c.run-run.ensures.run.values 0 c.run-run.ensures.run.some ∙ ap (λ o. value_in (option_map (λ bytes. bytes.now) o) 0) c.in_err-bytes.was))

pub returns-then-run-eq8 : goal.returns-then-run-eq8
returns-then-run-eq8 c =
    ap Some c.u64_at.ensures ∙ sym (word_front (space_of c.args.self.now) 8 c.args.address c.in_ok-bytes.bytes.now (λ k h. c.run-run.ensures.run.values k (omega arith) ∙ ap (λ o. value_in (option_map (λ bytes. bytes.now) o) k) c.in_ok-bytes.was))

pub returns-in_err-bytes-2 : goal.returns-in_err-bytes-2
returns-in_err-bytes-2 c =
    let none = c.in_err-bytes-2.ensures in
    c.from_residual-in_err-bytes-2.ensures ∙ sym (word_none (space_of c.args.self.now) 8 c.args.address none.0 none.1 none.2)

pub returns : goal.returns
returns c = ap Some c.u64_at-2.ensures ∙ sym (word_front (space_of c.args.self.now) 8 c.args.address c.in_ok-bytes-2.bytes c.in_ok-bytes-2.ensures)
