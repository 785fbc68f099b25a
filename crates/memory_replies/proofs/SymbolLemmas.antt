-- What is answered of an executable's symbols.
use Rattle.std.proofs.Common.{◌≡◌, ℕ, Bool, true, false, List, Option, None, Some, Result, Err, refl, sym, ap, ◌∙◌}
use Rattle.std.specs.Prelude.{is_ok}
use Rattle.memory_replies.specs.Answers.{AnswersWith, outcome_by}
use Rattle.std.specs.Borrow.{Bor}
use Rattle.std.specs.Option.{option_and_then, option_map, option_or}
use Rattle.script_streams.specs.Replies.{reply_of}
use Rattle.elf_view.specs.Sound.{first_fault}
use Rattle.elf_view.specs.declared.faults.ElfFault.{ElfFault}
use Rattle.elf_view.specs.declared.faults.Want.TheVariants.{Exec}
use Rattle.symbols.specs.Entry.{functions_of}
use Rattle.symbols.specs.Names.{SymbolView, symbol_in, symbol_named}
use Rattle.symbols.specs.SymbolTable as table
use Rattle.symbols.specs.declared.faults.SymbolFault.{SymbolFault}
use Rattle.symbols.specs.declared.functions.Function.{Function}
use Rattle.image_replies.specs.Reasons.{elf_reason}
use Rattle.memory_replies.specs.Naming.{debug_symbol}
use Rattle.memory_replies.specs.SymbolDebug.{symbol_with_debug}
use Rattle.memory_replies.specs.Symbol.{answer_unless, executable_fault, found_answer, symbol_answer, symbol_reason}

-- the function of the debug file
of_debug : Option (List ℕ) → ℕ → Option SymbolView
of_debug debug v = option_and_then (debug_symbol v) debug

pub elf_told : (b : List ℕ) (debug : Option (List ℕ)) (v : ℕ) (f : ElfFault) → Some f ≡ first_fault Exec b → Err (elf_reason f) ≡ symbol_with_debug b debug v
unfolding symbol_with_debug executable_fault of_debug
elf_told b debug v f is = ap (λ o. answer_unless (option_or (option_map elf_reason o) (option_map symbol_reason (table.first_fault b))) (found_answer (option_or (symbol_in b v) (of_debug debug v)))) is

-- the faults are those of the headers, and then those of the symbol table
pub fault_is : (b a : List ℕ) (o : Option SymbolFault) → None ≡ first_fault Exec b → a ≡ b → o ≡ table.first_fault a → option_map symbol_reason o ≡ executable_fault b
unfolding executable_fault
fault_is b a o sound same is =
    ap (option_map symbol_reason) (is ∙ ap table.first_fault same)
    ∙ ap (λ (f : Option ElfFault). option_or (option_map elf_reason f) (option_map symbol_reason (table.first_fault b))) sound

pub table_told : (b : List ℕ) (debug : Option (List ℕ)) (v : ℕ) (f : SymbolFault) → Some (symbol_reason f) ≡ executable_fault b → Err (symbol_reason f) ≡ symbol_with_debug b debug v
unfolding symbol_with_debug of_debug
table_told b debug v f is = ap (λ o. answer_unless o (found_answer (option_or (symbol_in b v) (of_debug debug v)))) is

pub named_is : (b a : List ℕ) (v : ℕ) (strings : List ℕ) (functions : List Function) → a ≡ b → strings ≡ table.strings_of a → functions ≡ functions_of (table.entries_of a)
    → symbol_named strings functions v ≡ symbol_in b v
named_is b a v strings functions same strings_are functions_are =
    ap (λ t. symbol_named t functions v) strings_are ∙ ap (λ fs. symbol_named (table.strings_of a) fs v) functions_are
    ∙ ap (λ t. symbol_in t v) same

-- the bytes of the debug file
debug_is : (v : ℕ) (debug : Option (Bor (List ℕ))) → option_and_then (λ (d : Bor (List ℕ)). debug_symbol v d.now) debug ≡ option_and_then (debug_symbol v) (option_map (λ (d : Bor (List ℕ)). d.now) debug)
debug_is v None = refl
debug_is v (Some d) = refl

pub found_told : (b : List ℕ) (debug : Option (Bor (List ℕ))) (v : ℕ) (own s : Option SymbolView) → None ≡ executable_fault b → own ≡ symbol_in b v
    → s ≡ option_or own (option_and_then (λ (d : Bor (List ℕ)). debug_symbol v d.now) debug) → found_answer s ≡ symbol_with_debug b (option_map (λ (d : Bor (List ℕ)). d.now) debug) v
unfolding symbol_with_debug
found_told b debug v own s sound own_is is =
    ap found_answer (is ∙ ap (λ o. option_or o (option_and_then (λ (d : Bor (List ℕ)). debug_symbol v d.now) debug)) own_is ∙ ap (option_or (symbol_in b v)) (debug_is v debug))
    ∙ ap (λ o. answer_unless o (found_answer (option_or (symbol_in b v) (option_and_then (debug_symbol v) (option_map (λ (d : Bor (List ℕ)). d.now) debug))))) sound

-- without a debug file
or_none : (o : Option SymbolView) → option_or o None ≡ o
or_none None = refl
or_none (Some s) = refl

pub without_debug : (b : List ℕ) (v : ℕ) → symbol_with_debug b None v ≡ symbol_answer b v
unfolding symbol_with_debug symbol_answer
without_debug b v = ap (λ s. answer_unless (executable_fault b) (found_answer s)) (or_none (symbol_in b v))

-- what became of it where there was memory
pub told_by : (done : Bool) (answer found : Result (List ℕ) (List ℕ)) → done ≡ is_ok found → found ≡ answer → AnswersWith (outcome_by done) answer (reply_of found)
told_by true answer found says is = (sym (says ∙ ap is_ok is), ap reply_of is)
told_by false answer found says is = (sym (says ∙ ap is_ok is), ap reply_of is)
