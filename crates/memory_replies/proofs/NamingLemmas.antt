-- The functions of executables and of their debug files.
use Rattle.std.proofs.Common.{◌≡◌, ◌<◌, ℕ, ◌+◌, ◌-◌, ◌||◌, zero, suc, Bool, true, false, cond, List, [], ◌∷◌, find, map, Option, None, Some, refl, ap, ◌∙◌, arith}
use Rattle.std.specs.Prelude.{is_none}
use Rattle.std.specs.List.{filter, list_any, range_with_len}
use Rattle.std.specs.Option.{option_and_then, option_map, option_or}
use Rattle.core_notes.specs.FileList.{FileView}
use Rattle.address_space.specs.Source.{ExecutableView, SpotView, entry_at, is_named, spot_of}
use Rattle.symbols.specs.Entry.{functions_of}
use Rattle.symbols.specs.Names.{SymbolView, symbol_in, symbol_named}
use Rattle.symbols.specs.Offsets.{address_of}
use Rattle.symbols.specs.SymbolTable.{entries_of, strings_of}
use Rattle.symbols.specs.declared.functions.Function.{Function}
use Rattle.memory_replies.specs.Memory.{is_attached}
use Rattle.memory_replies.specs.Naming.{function_at_spot, function_in, function_of, has_path, named_files, own_symbol, symbol_at, symbol_of_debug, with_debug}
use Rattle.memory_replies.specs.OwnSymbols.{own_functions, own_strings}
use Rattle.memory_replies.specs.Places.{PlaceView, place_by}
use Rattle.memory_replies.specs.Symbol.{executable_fault}

-- numbers from one on
range_step : (i n : ℕ) → 0 < n → range_with_len i n ≡ i ∷ range_with_len (i + 1) (n - 1)
range_step i zero h = absurd (omega arith)
range_step i (suc n) h = let less : n ≡ suc n - 1 = omega arith in ap (λ m. i ∷ range_with_len (i + 1) m) less

pub any_on : (p : ℕ → Bool) (i n : ℕ) → i < n → list_any p (range_with_len i (n - i)) ≡ (p i || list_any p (range_with_len (i + 1) (n - (i + 1))))
any_on p i n h =
    let less : n - i - 1 ≡ n - (i + 1) = omega arith in
    ap (list_any p) (range_step i (n - i) (omega arith)) ∙ ap (λ m. p i || list_any p (range_with_len (i + 1) m)) less

-- the functions of a file are those of its symbols, if these have no fault
named_by : (t : Bool) (fs gs : List Function) (ss hs : List ℕ) (v : ℕ) → Some fs ≡ cond t (Some gs) None → Some ss ≡ cond t (Some hs) None → symbol_named ss fs v ≡ cond t (symbol_named hs gs v) None
named_by true fs gs ss hs v functions strings =
    let first : fs ≡ gs = cc in let second : ss ≡ hs = cc in ap (λ f. symbol_named ss f v) first ∙ ap (λ s. symbol_named s gs v) second
named_by false fs gs ss hs v functions strings = cc

pub own_is : (image : List ℕ) (fs : List Function) (ss : List ℕ) (v : ℕ) → Some fs ≡ own_functions image → Some ss ≡ own_strings image → symbol_named ss fs v ≡ own_symbol image v
unfolding own_symbol
own_is image fs ss v functions strings = named_by (is_none (executable_fault image)) fs (functions_of (entries_of image)) ss (strings_of image) v functions strings

none_by : (t : Bool) (gs : List Function) (o : Option SymbolView) → None ≡ cond t (Some gs) None → None ≡ cond t o None
none_by true gs o none = cc
none_by false gs o none = refl

pub own_none : (image : List ℕ) (v : ℕ) → None ≡ own_functions image → None ≡ own_symbol image v
unfolding own_symbol
own_none image v none = none_by (is_none (executable_fault image)) (functions_of (entries_of image)) (symbol_in image v) none

-- those that are read
pub functions_read : (image : List ℕ) (fs : List Function) → None ≡ executable_fault image → fs ≡ functions_of (entries_of image) → Some fs ≡ own_functions image
functions_read image fs sound are = ap Some are ∙ ap (λ (o : Option (List ℕ)). cond (is_none o) (Some (functions_of (entries_of image))) None) sound

pub strings_read : (image ss : List ℕ) → None ≡ executable_fault image → ss ≡ strings_of image → Some ss ≡ own_strings image
strings_read image ss sound are = ap Some are ∙ ap (λ (o : Option (List ℕ)). cond (is_none o) (Some (strings_of image)) None) sound

pub no_functions : (image reason : List ℕ) → Some reason ≡ executable_fault image → None ≡ own_functions image
no_functions image reason fault = ap (λ (o : Option (List ℕ)). cond (is_none o) (Some (functions_of (entries_of image))) None) fault

pub no_strings : (image reason : List ℕ) → Some reason ≡ executable_fault image → None ≡ own_strings image
no_strings image reason fault = ap (λ (o : Option (List ℕ)). cond (is_none o) (Some (strings_of image)) None) fault

-- one that is named is the same with a debug file
own_first : (behind v : ℕ) (own debug : Option SymbolView) (place : PlaceView) → option_map (place_by behind v) (option_or own None) ≡ Some place → option_map (place_by behind v) (option_or own debug) ≡ Some place
own_first behind v None debug place is = cc
own_first behind v (Some s) debug place is = is

at_address : (behind : ℕ) (o : Option ℕ) (x : ExecutableView) (debugs : List ExecutableView) (place : PlaceView)
    → option_and_then (λ v. option_map (place_by behind v) (symbol_at (with_debug [] x) v)) o ≡ Some place
    → option_and_then (λ v. option_map (place_by behind v) (symbol_at (with_debug debugs x) v)) o ≡ Some place
at_address behind None x debugs place is = is
at_address behind (Some v) x debugs place is = own_first behind v (own_symbol x.image v) (symbol_of_debug v (find (is_named x.path) debugs)) place is

at_spot : (xs debugs : List ExecutableView) (behind : ℕ) (spot : SpotView) (place : PlaceView) → function_at_spot (map (with_debug []) xs) behind spot ≡ Some place → function_at_spot (map (with_debug debugs) xs) behind spot ≡ Some place
at_spot [] debugs behind spot place is = is
at_spot (x ∷ xs) debugs behind spot place is =
    (elim (is_named spot.name x) as (λ t. option_and_then (function_in behind spot.offset) (cond t (Some (with_debug [] x)) (find (has_path spot.name) (map (with_debug []) xs))) ≡ Some place
    → option_and_then (function_in behind spot.offset) (cond t (Some (with_debug debugs x)) (find (has_path spot.name) (map (with_debug debugs) xs))) ≡ Some place) [
      | true ↦ λ known. at_address behind (address_of x.image spot.offset) x debugs place known
      | false ↦ λ known. at_spot xs debugs behind spot place known
    ]) is

at_found : (o : Option SpotView) (xs debugs : List ExecutableView) (behind : ℕ) (place : PlaceView) → option_and_then (function_at_spot (map (with_debug []) xs) behind) o ≡ Some place → option_and_then (function_at_spot (map (with_debug debugs) xs) behind) o ≡ Some place
at_found None xs debugs behind place is = is
at_found (Some spot) xs debugs behind place is = at_spot xs debugs behind spot place is

pub known_still : (mapped : List FileView) (executables debugs : List ExecutableView) (pc : ℕ) (address : Option ℕ) (place : PlaceView)
    → function_of mapped (named_files executables []) pc address ≡ Some place → function_of mapped (named_files executables debugs) pc address ≡ Some place
unfolding function_of
known_still mapped executables debugs pc None place is = is
known_still mapped executables debugs pc (Some a) place is = at_found (spot_of a (entry_at mapped a)) (filter is_attached executables) debugs (pc - a) place is
