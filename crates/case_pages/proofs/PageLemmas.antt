-- Pages that go on.
use Rattle.std.proofs.Common.{◌≡◌, ℕ, ◌==◌, Bool, true, false, not, cond, List, [], ◌∷◌, ◌++◌, drop, map, Option, Some, Result, Ok, Err, OnOk, refl, sym, ap, subst, ◌∙◌}
use Rattle.std.proofs.lemmas.Bool.{and_parts, not-true}
use Rattle.std.proofs.lemmas.List.{reverse-append}
use Rattle.std.specs.List.{list_all}
use Rattle.case_pages.specs.Escaping.{escape, plain}
use Rattle.case_pages.specs.Html.{Place, Step, Token, char, chars, in_attributes, in_name, in_reference, in_text, is_void, nest, nested, nowhere, read, tag, tags}
use Rattle.case_pages.specs.Names.{tag_name}
use Rattle.case_pages.specs.Pages.{GoesOn, IsFront, end_of_first, end_tokens, is_in_text, is_style_byte, names, style}
use Rattle.case_pages.specs.Pieces.{attributes_text, end_text, start_text}
use Rattle.case_pages.specs.declared.attributes.Attribute.{Attribute}
use Rattle.case_pages.specs.declared.tags.Tag.{Tag}
use Rattle.case_pages.proofs.EscapeLemmas.{escape_read}
use Rattle.case_pages.proofs.PieceLemmas.{chars_nest, end_nests, end_read, nested_behind, start_nests, start_read}
use Rattle.case_pages.proofs.ReadingLemmas.{reads_then}

is_text : (p : Place) → is_in_text p ≡ true → p ≡ in_text
is_text in_text e = refl
is_text (in_reference r) e = absurd cc
is_text (in_name n) e = absurd cc
is_text (in_attributes n quoted a) e = absurd cc
is_text nowhere e = absurd cc

-- how a front is read
pub front_reads : (text : List ℕ) (outer : List Tag) → IsFront text outer → read in_text text ≡ (in_text, (read in_text text).1)
front_reads text outer is = ap (λ (p : Place). (p, (read in_text text).1)) (is_text (read in_text text).0 is.reads)

on_reads : (text : List ℕ) (outer : List Tag) (text' : List ℕ) (outer' : List Tag) (ts : List Token) → IsFront text outer → GoesOn text outer text' outer' ts → read in_text text' ≡ (in_text, (read in_text text).1 ++ ts)
on_reads text outer text' outer' ts is goes = ap (read in_text) goes.written ∙ reads_then in_text in_text in_text text goes.piece (read in_text text).1 ts (front_reads text outer is) goes.reads

-- A front goes on.
pub front_on : (text : List ℕ) (outer : List Tag) (text' : List ℕ) (outer' : List Tag) (ts : List Token) → IsFront text outer → GoesOn text outer text' outer' ts → IsFront text' outer'
front_on text outer text' outer' ts is goes =
    let e = on_reads text outer text' outer' ts is goes in
    record {
      reads = ap (λ (s : Step). is_in_text s.0) e;
      nests = ap (λ (s : Step). nested (Some []) s.1) e ∙ nested_behind (Some []) (read in_text text).1 ts ∙ ap (λ (o : Option (List (List ℕ))). nested o ts) is.nests ∙ goes.nests;
    }

-- and what is read of it is followed by the tokens
pub tokens_on : (text : List ℕ) (outer : List Tag) (text' : List ℕ) (outer' : List Tag) (ts : List Token) → IsFront text outer → GoesOn text outer text' outer' ts → (read in_text text').1 ≡ (read in_text text).1 ++ ts
tokens_on text outer text' outer' ts is goes = ap (λ (s : Step). s.1) (on_reads text outer text' outer' ts is goes)

pub names_more : (outer : List Tag) (t : Tag) → names (outer ++ t ∷ []) ≡ tag_name t ∷ names outer
names_more outer t = ap (map tag_name) (reverse-append outer (t ∷ []))

pub start_goes : (text : List ℕ) (outer : List Tag) (t : Tag) (xs : List Attribute) (text' : List ℕ) (outer' : List Tag)
    → text' ≡ text ++ start_text t xs → outer' ≡ cond (is_void (tag_name t)) outer (outer ++ t ∷ [])
    → GoesOn text outer text' outer' (tag (tag_name t) (drop 1 (attributes_text xs)) ∷ [])
start_goes text outer t xs text' outer' written opened = record {
  piece = start_text t xs;
  written = written;
  reads = start_read t xs;
  nests = start_nests t (names outer) (drop 1 (attributes_text xs)) ∙ sym (ap (λ (o : List Tag). Some (names o)) opened ∙ by (is_void (tag_name t)));
}
  where
    by : (b : Bool) → Some (names (cond b outer (outer ++ t ∷ []))) ≡ Some (cond b (names outer) (tag_name t ∷ names outer))
    by true = refl
    by false = ap (λ (l : List (List ℕ)). Some l) (names_more outer t)

pub end_goes : (text : List ℕ) (outer : List Tag) (t : Tag) (text' : List ℕ) (outer' : List Tag)
    → text' ≡ text ++ end_text t → outer ≡ outer' ++ t ∷ []
    → GoesOn text outer text' outer' (tag (47 ∷ tag_name t) [] ∷ [])
end_goes text outer t text' outer' written opened = record {
  piece = end_text t;
  written = written;
  reads = end_read t;
  nests = ap (λ (o : List (List ℕ)). nest (Some o) (tag (47 ∷ tag_name t) [])) (ap names opened ∙ names_more outer' t) ∙ end_nests t (names outer') [];
}

pub text_goes : (text : List ℕ) (outer : List Tag) (t text' : List ℕ) → text' ≡ text ++ escape t → GoesOn text outer text' outer (chars (plain t))
text_goes text outer t text' written = record {
  piece = escape t;
  written = written;
  reads = escape_read t;
  nests = chars_nest (names outer) (plain t);
}

-- a style
style_read : (t : List ℕ) → list_all is_style_byte t ≡ true → read in_text t ≡ (in_text, chars t)
style_read [] all = refl
style_read (c ∷ cs) all =
    let both = and_parts (is_style_byte c) (list_all is_style_byte cs) all in
    let byte = and_parts (not (c == 60)) (not (c == 38)) both.0 in
    reads_then in_text in_text in_text (c ∷ []) cs (char c ∷ []) (chars cs) (rw (not-true (c == 60) byte.0, not-true (c == 38) byte.1) refl) (style_read cs both.1)

pub style_goes : (text : List ℕ) (outer : List Tag) (t text' : List ℕ) → text' ≡ text ++ style t → GoesOn text outer text' outer (chars (style t))
style_goes text outer t text' written = record {
  piece = style t;
  written = written;
  reads = by (list_all is_style_byte t) refl;
  nests = chars_nest (names outer) (style t);
}
  where
    by : (b : Bool) → list_all is_style_byte t ≡ b → read in_text (cond b t []) ≡ (in_text, chars (cond b t []))
    by true e = style_read t e
    by false e = refl

-- The end of the innermost element, if one is open.
pub innermost_goes : (text : List ℕ) (outer : List Tag) (t : Tag) (text' : List ℕ) (outer' : List Tag)
    → text' ≡ text ++ end_text t → outer ≡ outer' ++ t ∷ [] → GoesOn text outer text' outer' (end_tokens outer)
innermost_goes text outer t text' outer' written opened =
    subst (GoesOn text outer text' outer') (sym (ap end_tokens opened ∙ ap end_of_first (names_more outer' t))) (end_goes text outer t text' outer' written opened)

pub opened_one : (t : Tag) (outer outer' : List Tag) (b : Bool) → b ≡ is_void (tag_name t) → b ≡ false → outer' ≡ outer ++ t ∷ [] → outer' ≡ cond (is_void (tag_name t)) outer (outer ++ t ∷ [])
opened_one t outer outer' b is isnt written = written ∙ sym (ap (λ (v : Bool). cond v outer (outer ++ t ∷ [])) (sym is ∙ isnt))

pub opened_void : (t : Tag) (outer : List Tag) (b : Bool) → b ≡ is_void (tag_name t) → b ≡ true → outer ≡ cond (is_void (tag_name t)) outer (outer ++ t ∷ [])
opened_void t outer b is so = sym (ap (λ (v : Bool). cond v outer (outer ++ t ∷ [])) (sym is ∙ so))

-- of a call that may have failed
pub innermost_ends : {E : Type 0} (r : Result (Unit {0}) E) (text : List ℕ) (outer : List Tag) (t : Tag) (text' : List ℕ) (outer' : List Tag)
    → OnOk r (text' ≡ text ++ end_text t) → outer ≡ outer' ++ t ∷ [] → OnOk r (GoesOn text outer text' outer' (end_tokens outer))
innermost_ends (Ok u) text outer t text' outer' written opened = innermost_goes text outer t text' outer' written opened
innermost_ends (Err e) text outer t text' outer' written opened = tt

-- the tags around a text
tags_behind : (text : List ℕ) (after : List Token) → tags (chars text ++ after) ≡ tags after
tags_behind [] after = refl
tags_behind (c ∷ cs) after = tags_behind cs after

pub tags_between : (before after : List Token) (text : List ℕ) → tags (before ++ (chars text ++ after)) ≡ tags (before ++ after)
tags_between [] after text = tags_behind text after
tags_between (tag name attributes ∷ ts) after text = ap (λ (others : List Token). tag name attributes ∷ others) (tags_between ts after text)
tags_between (char c ∷ ts) after text = tags_between ts after text
