-- Descriptions and entries, one after another.
use Rattle.std.proofs.Common.{◌≡◌, ◌≢◌, ◌<◌, ◌≤◌, ◌+◌, ◌-◌, ℕ, suc, Bool, cond, List, [], ◌∷◌, Option, Some, None, get_or, ap, ◌∙◌, sym, arith}
use Rattle.std.proofs.lemmas.Bool.{eq-eqb, ne_eqb}
use Rattle.std.proofs.lemmas.Option.{same_Some}
use Rattle.std.specs.Option.{option_and_then}
use Rattle.line_tables.specs.Texts.{first_byte}
use Rattle.elf_view.specs.Field.{field}
use Rattle.line_tables.specs.Forms.{StringsView, kind_of}
use Rattle.call_frames.specs.Leb.{uleb}
use Rattle.line_tables.specs.Instructions.{behind_numbers}
use Rattle.line_tables.specs.Entries.{FormatView, EntryView, description, suits, behind_format, part, parts, entry, behind_entries, counted, no_strings}
use Rattle.line_tables.specs.declared.forms.Kind.{Kind}

-- a number of one byte is that byte
pub one_byte : (b : List ℕ) (p : ℕ) → get_or b p 0 ≡ field b p 1
unfolding field
one_byte b p = omega arith

next_left : (k i : ℕ) → i < k → k - i ≡ suc (k - (i + 1))
next_left k i h = omega arith

none_left : (k i : ℕ) → k ≤ i → k - i ≡ 0
none_left k i h = omega arith

format_step : (k i : ℕ) (bytes : List ℕ) (o : Option (ℕ × ℕ × List ℕ)) → i < k → o ≡ description bytes → behind_format (k - i) bytes ≡ option_and_then (λ (d : ℕ × ℕ × List ℕ). cond (suits d.0 (kind_of d.1)) (behind_format (k - (i + 1)) d.2) None) o
unfolding behind_format
format_step k i bytes o h is =
    ap (λ n. behind_format n bytes) (next_left k i h)
    ∙ ap (option_and_then (λ (d : ℕ × ℕ × List ℕ). cond (suits d.0 (kind_of d.1)) (behind_format (k - (i + 1)) d.2) None)) (sym is)

pub format_missing : (k i : ℕ) (bytes : List ℕ) → i < k → None ≡ description bytes → behind_format (k - i) bytes ≡ None
format_missing k i bytes h is = format_step k i bytes None h is

pub format_by : (k i : ℕ) (bytes : List ℕ) (c f : ℕ) (rest : List ℕ) (o : Option Kind) (t : Bool) → i < k → Some (c, f, rest) ≡ description bytes → o ≡ kind_of f → t ≡ suits c o → behind_format (k - i) bytes ≡ cond t (behind_format (k - (i + 1)) rest) None
format_by k i bytes c f rest o t h is kind suit =
    format_step k i bytes (Some (c, f, rest)) h is
    ∙ ap (λ q. cond (suits c q) (behind_format (k - (i + 1)) rest) None) (sym kind)
    ∙ ap (λ u. cond u (behind_format (k - (i + 1)) rest) None) (sym suit)

pub format_end : (k i : ℕ) (bytes : List ℕ) → k ≤ i → behind_format (k - i) bytes ≡ Some bytes
unfolding behind_format
format_end k i bytes h = ap (λ n. behind_format n bytes) (none_left k i h)

parts_step : (s : StringsView) (k i : ℕ) (ds : List ℕ) (e : EntryView) (bytes : List ℕ) (o : Option (ℕ × ℕ × List ℕ)) → i < k → o ≡ description ds → parts s (k - i) ds e bytes ≡ option_and_then (λ (d : ℕ × ℕ × List ℕ). option_and_then (λ (v : EntryView × List ℕ). parts s (k - (i + 1)) d.2 v.0 v.1) (part s d.0 d.1 e bytes)) o
unfolding parts
parts_step s k i ds e bytes o h is =
    ap (λ n. parts s n ds e bytes) (next_left k i h)
    ∙ ap (option_and_then (λ (d : ℕ × ℕ × List ℕ). option_and_then (λ (v : EntryView × List ℕ). parts s (k - (i + 1)) d.2 v.0 v.1) (part s d.0 d.1 e bytes))) (sym is)

pub parts_missing : (s : StringsView) (k i : ℕ) (ds : List ℕ) (e : EntryView) (bytes : List ℕ) → i < k → None ≡ description ds → parts s (k - i) ds e bytes ≡ None
parts_missing s k i ds e bytes h is = parts_step s k i ds e bytes None h is

pub parts_by : (s : StringsView) (k i : ℕ) (ds : List ℕ) (e : EntryView) (bytes : List ℕ) (c f : ℕ) (rest : List ℕ) (o : Option (EntryView × List ℕ)) → i < k → Some (c, f, rest) ≡ description ds → o ≡ part s c f e bytes → parts s (k - i) ds e bytes ≡ option_and_then (λ (v : EntryView × List ℕ). parts s (k - (i + 1)) rest v.0 v.1) o
parts_by s k i ds e bytes c f rest o h is at =
    parts_step s k i ds e bytes (Some (c, f, rest)) h is
    ∙ ap (option_and_then (λ (v : EntryView × List ℕ). parts s (k - (i + 1)) rest v.0 v.1)) (sym at)

pub parts_end : (s : StringsView) (k i : ℕ) (ds : List ℕ) (e : EntryView) (bytes : List ℕ) → k ≤ i → parts s (k - i) ds e bytes ≡ Some (e, bytes)
unfolding parts
parts_end s k i ds e bytes h = ap (λ n. parts s n ds e bytes) (none_left k i h)

pub entries_by : (s : StringsView) (f : FormatView) (k i : ℕ) (bytes : List ℕ) (o : Option (EntryView × List ℕ)) → i < k → o ≡ entry s f bytes → behind_entries s f (k - i) bytes ≡ option_and_then (λ (e : EntryView × List ℕ). behind_entries s f (k - (i + 1)) e.1) o
unfolding behind_entries
entries_by s f k i bytes o h is =
    ap (λ n. behind_entries s f n bytes) (next_left k i h)
    ∙ ap (option_and_then (λ (e : EntryView × List ℕ). behind_entries s f (k - (i + 1)) e.1)) (sym is)

pub entries_end : (s : StringsView) (f : FormatView) (k i : ℕ) (bytes : List ℕ) → k ≤ i → behind_entries s f (k - i) bytes ≡ Some bytes
unfolding behind_entries
entries_end s f k i bytes h = ap (λ n. behind_entries s f n bytes) (none_left k i h)

-- entries before an empty text
pub counted_missing : (k i : ℕ) (f : FormatView) (bytes : List ℕ) → i < k → None ≡ first_byte bytes → counted (k - i) i f bytes ≡ None
unfolding counted
counted_missing k i f [] h is = ap (λ n. counted n i f []) (next_left k i h)
counted_missing k i f (x ∷ xs) h is = cc

pub counted_ends : (k i : ℕ) (f : FormatView) (bytes : List ℕ) (y : ℕ) (ys : List ℕ) → i < k → Some (y, ys) ≡ first_byte bytes → y ≡ 0 → counted (k - i) i f bytes ≡ Some (i, ys)
unfolding counted
counted_ends k i f [] y ys h is none = cc
counted_ends k i f (x ∷ xs) y ys h is none =
    let pair : (y, ys) ≡ (x, xs) = same_Some _ _ is in
    let first : x ≡ 0 = sym (ap (λ (p : ℕ × List ℕ). p.0) pair) ∙ none in
    ap (λ n. counted n i f (x ∷ xs)) (next_left k i h)
    ∙ ap (λ t. cond t (Some (i, xs)) (option_and_then (λ (e : EntryView × List ℕ). counted (k - (i + 1)) (i + 1) f e.1) (entry no_strings f (x ∷ xs)))) (eq-eqb x 0 first)
    ∙ ap (λ zs. Some (i, zs)) (sym (ap (λ (p : ℕ × List ℕ). p.1) pair))

pub counted_by : (k i : ℕ) (f : FormatView) (bytes : List ℕ) (y : ℕ) (ys : List ℕ) (o : Option (EntryView × List ℕ)) → i < k → Some (y, ys) ≡ first_byte bytes → y ≢ 0 → o ≡ entry no_strings f bytes → counted (k - i) i f bytes ≡ option_and_then (λ (e : EntryView × List ℕ). counted (k - (i + 1)) (i + 1) f e.1) o
unfolding counted
counted_by k i f [] y ys o h is some at = cc
counted_by k i f (x ∷ xs) y ys o h is some at =
    let pair : (y, ys) ≡ (x, xs) = same_Some _ _ is in
    let first : x ≢ 0 = λ z. some (ap (λ (p : ℕ × List ℕ). p.0) pair ∙ z) in
    ap (λ n. counted n i f (x ∷ xs)) (next_left k i h)
    ∙ ap (λ t. cond t (Some (i, xs)) (option_and_then (λ (e : EntryView × List ℕ). counted (k - (i + 1)) (i + 1) f e.1) (entry no_strings f (x ∷ xs)))) (ne_eqb x 0 first)
    ∙ ap (option_and_then (λ (e : EntryView × List ℕ). counted (k - (i + 1)) (i + 1) f e.1)) (sym at)

pub counted_none : (k i : ℕ) (f : FormatView) (bytes : List ℕ) → k ≤ i → counted (k - i) i f bytes ≡ None
unfolding counted
counted_none k i f bytes h = ap (λ n. counted n i f bytes) (none_left k i h)

-- ULEB128 numbers, one after another
pub numbers_by : (k i : ℕ) (bytes : List ℕ) (o : Option (ℕ × List ℕ)) → i < k → o ≡ uleb bytes → behind_numbers (k - i) bytes ≡ option_and_then (λ (v : ℕ × List ℕ). behind_numbers (k - (i + 1)) v.1) o
unfolding behind_numbers
numbers_by k i bytes o h is =
    ap (λ n. behind_numbers n bytes) (next_left k i h)
    ∙ ap (option_and_then (λ (v : ℕ × List ℕ). behind_numbers (k - (i + 1)) v.1)) (sym is)

pub numbers_end : (k i : ℕ) (bytes : List ℕ) → k ≤ i → behind_numbers (k - i) bytes ≡ Some bytes
unfolding behind_numbers
numbers_end k i bytes h = ap (λ n. behind_numbers n bytes) (none_left k i h)
