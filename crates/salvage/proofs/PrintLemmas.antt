-- The lines of cases, one after another.
use Rattle.std.proofs.Common.{◌≡◌, ℕ, ◌+◌, ◌<◌, ◌≤◌, List, [], ◌∷◌, ◌++◌, length, map, get_or, take, drop, refl, sym, ap, ◌∙◌, subst, arith, add-one, drop-cons}
use Rattle.std.proofs.lemmas.List.{append-nil, drop_all, map-append, take_all, take_more}
use Rattle.std.proofs.lemmas.Grind.{flat_map-append}
use Rattle.journal_layout.specs.Case.{Case, case_of}
use Rattle.journal_layout.specs.declared.entry.Entry.{Entry}
use Rattle.salvage.specs.Texts.{case_line}
use Rattle.salvage.specs.Told.{AreCopied, AreLost, IsLost, IsMarked, Line, PrintsLines, line_text, lines_text}
use Rattle.salvage.specs.declared.cases_found.Found.{Found}
use Rattle.salvage.specs.declared.records.Read.{Read}
use Rattle.salvage.specs.declared.printing.Mark.{Mark}
use Rattle.script_streams.specs.PrintLaws.{prints_as, prints_nothing, prints_then}
use Rattle.script_streams.specs.Printing.{Sink, Prints}

pub text_both : (xs ys : List Line) → lines_text (xs ++ ys) ≡ lines_text xs ++ lines_text ys
text_both xs ys = flat_map-append line_text xs ys

-- one line more
pub told_both : {a b c : Sink} (xs ys : List Line) → Prints a b (lines_text xs) → Prints b c (lines_text ys) → Prints a c (lines_text (xs ++ ys))
told_both xs ys one two = prints_as (sym (text_both xs ys)) (prints_then one two)

pub told_one : {a b : Sink} (l : Line) → Prints a b (line_text l) → Prints a b (lines_text (l ∷ []))
told_one l told = prints_as (sym (append-nil (line_text l))) told

copied_more : (f : Found) (cases : List Case) (lines : List Line) (c : Case) (mark : Mark) → AreCopied f cases lines → IsMarked f c mark
    → AreCopied f (cases ++ c ∷ []) (lines ++ record { case = c; mark = mark } ∷ [])
copied_more f [] lines c mark are marked = (mark, [], marked, refl, ap (λ (ls : List Line). ls ++ record { case = c; mark = mark } ∷ []) are)
copied_more f (x ∷ xs) lines c mark (m, rest, was, are, is) marked = (
  m,
  rest ++ record { case = c; mark = mark } ∷ [],
  was,
  copied_more f xs rest c mark are marked,
  ap (λ (ls : List Line). ls ++ record { case = c; mark = mark } ∷ []) is,
)

pub one_copied : {s a b : Sink} (f : Found) (es : List Entry) (i : ℕ) (e : Entry) (mark : Mark) → i < length es → e ≡ get_or es i e
    → PrintsLines (record { before = s; after = a }) (AreCopied f (map case_of (take i es))) → IsMarked f (case_of e) mark → Prints a b (case_line e.seq mark e.name.items)
    → PrintsLines (record { before = s; after = b }) (AreCopied f (map case_of (take (i + 1) es)))
one_copied f es i e mark within is told marked text =
    let l : Line = record { case = case_of e; mark = mark } in
    let more : map case_of (take (i + 1) es) ≡ map case_of (take i es) ++ case_of e ∷ [] =
    ap (map case_of) (take_more es i e within ∙ ap (λ (x : Entry). take i es ++ x ∷ []) (sym is)) ∙ map-append case_of (take i es) (e ∷ []) in (
      told.0 ++ l ∷ [],
      subst (λ (cs : List Case). AreCopied f cs (told.0 ++ l ∷ [])) (sym more) (copied_more f (map case_of (take i es)) told.0 (case_of e) mark told.1 marked),
      told_both told.0 (l ∷ []) told.2 (told_one l text),
    )

pub none_copied : {a : Sink} (f : Found) → PrintsLines (record { before = a; after = a }) (AreCopied f [])
none_copied f = ([], refl, prints_nothing)

pub all_copied : {s a : Sink} (f : Found) (es : List Entry) (i : ℕ) (cases : List Case) → length es ≤ i → map case_of es ≡ cases
    → PrintsLines (record { before = s; after = a }) (AreCopied f (map case_of (take i es))) → PrintsLines (record { before = s; after = a }) (AreCopied f cases)
all_copied f es i cases past are told =
    (told.0, subst (λ (cs : List Case). AreCopied f cs told.0) (ap (map case_of) (take_all i es past) ∙ are) told.1, told.2)

-- no read is told of yet
pub none_lost : {a : Sink} (f : Found) (reads : List Read) (left : ℕ) → left ≡ length reads → PrintsLines (record { before = a; after = a }) (AreLost f (take left reads) (drop left reads))
none_lost f reads left e = ([], subst (λ (rs : List Read). AreLost f (take left reads) rs []) (sym (drop_all left reads (omega (arith, e)))) refl, prints_nothing)

-- all are
pub all_lost : {s a : Sink} (f : Found) (reads : List Read) (left : ℕ) → left ≡ 0 → PrintsLines (record { before = s; after = a }) (AreLost f (take left reads) (drop left reads))
    → PrintsLines (record { before = s; after = a }) (AreLost f [] reads)
all_lost {s} {a} f reads left e told = subst (λ (n : ℕ). PrintsLines (record { before = s; after = a }) (AreLost f (take n reads) (drop n reads))) e told

-- one read more, the one before those that were told of
pub one_lost : {s a b : Sink} (f : Found) (reads : List Read) (left : ℕ) (r : Read) → left < length reads → r ≡ get_or reads left r
    → PrintsLines (record { before = s; after = a }) (AreLost f (take (left + 1) reads) (drop (left + 1) reads))
    → PrintsLines (record { before = a; after = b }) (IsLost f (take left reads) (case_of r.entry))
    → PrintsLines (record { before = s; after = b }) (AreLost f (take left reads) (drop left reads))
one_lost f reads left r within is told one =
    let more : take (left + 1) reads ≡ take left reads ++ r ∷ [] = take_more reads left r within ∙ ap (λ (x : Read). take left reads ++ x ∷ []) (sym is) in
    let rest : drop left reads ≡ r ∷ drop (left + 1) reads = drop_there ∙ ap (λ (x : Read). x ∷ drop (left + 1) reads) (sym is) in (
      told.0 ++ one.0,
      subst (λ (rs : List Read). AreLost f (take left reads) rs (told.0 ++ one.0)) (sym rest)
          (told.0, one.0, subst (λ (rs : List Read). AreLost f rs (drop (left + 1) reads) told.0) more told.1, one.1, refl),
      told_both told.0 one.0 told.2 one.2,
    )
  where
    drop_there : drop left reads ≡ get_or reads left r ∷ drop (left + 1) reads
    drop_there = rw add-one (drop-cons reads left r within)
