-- Programs as the program has them.
use Rattle.std.specs.Prelude.{ℕ, List, option_map}
use Rattle.std.specs.Borrow.{Bor}
use Rattle.crash_signatures.specs.Program.{ProgramSaid}
use Rattle.crash_signatures.specs.declared.program.Program.{Program}
use Rattle.crash_signatures.specs.declared.program.Program.TheVariants.{ByCase, Known}
use Rattle.crash_signatures.specs.declared.program.ProgramFacts.{ProgramFacts}

abbrev pub facts_said : ProgramFacts → ProgramSaid
facts_said f = record {
  entry = option_map (λ (name : Bor (List ℕ)). name.now) f.entry;
  process = option_map (λ (name : Bor (List ℕ)). name.now) f.process;
  template = option_map (λ (name : Bor (List ℕ)). name.now) f.template;
  case_name = f.case_name.now;
}

abbrev pub program_said : Program → List ℕ
program_said (Known name) = name.now
program_said (ByCase text) = text.items
