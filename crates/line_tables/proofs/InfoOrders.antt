-- Declarations and attributes are those that the grammar says.
use Rattle.std.proofs.Common.{◌≡◌, ◌<◌, ◌≤◌, ◌+◌, ◌==◌, ℕ, zero, suc, Bool, true, false, cond, List, [], ◌∷◌, Option, Some, None, length, take, drop, refl, ap, ◌∙◌, subst, arith}
use Rattle.std.proofs.lemmas.Bool.{eqb-true, eq-eqb}
use Rattle.std.proofs.lemmas.List.{length-drop, length-take}
use Rattle.std.proofs.lemmas.List.Quantifiers.{position-Some}
use Rattle.std.proofs.lemmas.Option.{same_Some}
use Rattle.std.specs.List.{position}
use Rattle.std.specs.Option.{option_and_then, option_map}
use Rattle.call_frames.specs.Leb.{is_last, split_leb, unsigned, with_behind, uleb}
use Rattle.line_tables.specs.Texts.{first_byte}
use Rattle.line_tables.specs.Abbreviations.{specification, is_end, behind_specifications, behind_declaration, behind_tag, declaration, declared_among, declared_in}
use Rattle.line_tables.specs.InfoEntries.{AttributeView, EntryView, attribute_in, attributes_for, attributes}
use Rattle.line_tables.specs.InfoGrammar.{AreSpecified, IsDeclared, AreAttributes}

-- a number takes at least one byte
split_by : (bytes : List ℕ) (o : Option ℕ) (p : List ℕ × List ℕ) → position is_last (take 10 bytes) ≡ o → option_map (λ i. (take (i + 1) bytes, drop (i + 1) bytes)) o ≡ Some p → length p.1 < length bytes
split_by bytes None p is h = cc
split_by bytes (Some i) p is h =
    let within = (position-Some is_last (take 10 bytes) i 0 is).0 in
    let size = ap (λ (q : List ℕ × List ℕ). length q.1) (same_Some _ _ h) in
    omega (arith, within, size, length-take 10 bytes, length-drop (i + 1) bytes)

split_shorter : (bytes : List ℕ) (p : List ℕ × List ℕ) → split_leb bytes ≡ Some p → length p.1 < length bytes
unfolding split_leb
split_shorter bytes p h = split_by bytes (position is_last (take 10 bytes)) p refl h

behind_is : (parts : List ℕ × List ℕ) (o : Option ℕ) (p : ℕ × List ℕ) → option_map (λ n. (n, parts.1)) o ≡ Some p → parts.1 ≡ p.1
behind_is parts None p h = cc
behind_is parts (Some n) p h = ap (λ (q : ℕ × List ℕ). q.1) (same_Some _ _ h)

uleb_by : (bytes : List ℕ) (o : Option (List ℕ × List ℕ)) (p : ℕ × List ℕ) → split_leb bytes ≡ o → option_and_then (with_behind unsigned) o ≡ Some p → length p.1 < length bytes
uleb_by bytes None p is h = cc
uleb_by bytes (Some parts) p is h =
    let less = split_shorter bytes parts is in
    let size = ap length (behind_is parts (unsigned parts.0) p h) in omega (arith, less, size)

uleb_shorter : (bytes : List ℕ) (p : ℕ × List ℕ) → uleb bytes ≡ Some p → length p.1 < length bytes
unfolding uleb
uleb_shorter bytes p h = uleb_by bytes (split_leb bytes) p refl h

first_shorter : (bytes : List ℕ) (p : ℕ × List ℕ) → first_byte bytes ≡ Some p → length p.1 < length bytes
first_shorter [] p h = cc
first_shorter (x ∷ xs) p h =
    let size = ap (λ (q : ℕ × List ℕ). length q.1) (same_Some _ _ h) in omega (arith, size)

-- so do a specification and a declaration
form_by : (name : ℕ) (bytes : List ℕ) (o : Option (ℕ × List ℕ)) (s : ℕ × ℕ × List ℕ) → uleb bytes ≡ o → option_map (λ (f : ℕ × List ℕ). (name, f.0, f.1)) o ≡ Some s → length s.2 < length bytes
form_by name bytes None s is h = cc
form_by name bytes (Some f) s is h =
    let less = uleb_shorter bytes f is in
    let size = ap (λ (q : ℕ × ℕ × List ℕ). length q.2) (same_Some _ _ h) in omega (arith, less, size)

name_by : (bytes : List ℕ) (o : Option (ℕ × List ℕ)) (s : ℕ × ℕ × List ℕ) → uleb bytes ≡ o → option_and_then (λ (a : ℕ × List ℕ). option_map (λ (f : ℕ × List ℕ). (a.0, f.0, f.1)) (uleb a.1)) o ≡ Some s → length s.2 < length bytes
name_by bytes None s is h = cc
name_by bytes (Some a) s is h =
    let less = uleb_shorter bytes a is in
    let more = form_by a.0 a.1 (uleb a.1) s refl h in omega (arith, less, more)

specification_shorter : (bytes : List ℕ) (s : ℕ × ℕ × List ℕ) → specification bytes ≡ Some s → length s.2 < length bytes
unfolding specification
specification_shorter bytes s h = name_by bytes (uleb bytes) s refl h

children_by : (bytes : List ℕ) (o : Option (ℕ × List ℕ)) (rest : List ℕ) → first_byte bytes ≡ o → option_map (λ (b : ℕ × List ℕ). b.1) o ≡ Some rest → length rest < length bytes
children_by bytes None rest is h = cc
children_by bytes (Some b) rest is h =
    let less = first_shorter bytes b is in
    let size = ap length (same_Some _ _ h) in omega (arith, less, size)

tag_by : (bytes : List ℕ) (o : Option (ℕ × List ℕ)) (rest : List ℕ) → uleb bytes ≡ o → option_and_then (λ (t : ℕ × List ℕ). option_map (λ (b : ℕ × List ℕ). b.1) (first_byte t.1)) o ≡ Some rest → length rest < length bytes
tag_by bytes None rest is h = cc
tag_by bytes (Some t) rest is h =
    let less = uleb_shorter bytes t is in
    let more = children_by t.1 (first_byte t.1) rest refl h in omega (arith, less, more)

code_by : (code : ℕ) (bytes : List ℕ) (o : Option (List ℕ)) (d : ℕ × List ℕ) → behind_tag bytes ≡ o → option_map (λ specifications. (code, specifications)) o ≡ Some d → length d.1 < length bytes
code_by code bytes None d is h = cc
code_by code bytes (Some rest) d is h =
    let less = tag_by bytes (uleb bytes) rest refl is in
    let size = ap (λ (q : ℕ × List ℕ). length q.1) (same_Some _ _ h) in omega (arith, less, size)

some_code : (t : Bool) (code : ℕ) (bytes : List ℕ) (d : ℕ × List ℕ) → cond t None (option_map (λ specifications. (code, specifications)) (behind_tag bytes)) ≡ Some d → length d.1 < length bytes
some_code true code bytes d h = cc
some_code false code bytes d h = code_by code bytes (behind_tag bytes) d refl h

declaration_by : (bytes : List ℕ) (o : Option (ℕ × List ℕ)) (d : ℕ × List ℕ) → uleb bytes ≡ o → option_and_then (λ (c : ℕ × List ℕ). cond (c.0 == 0) None (option_map (λ specifications. (c.0, specifications)) (behind_tag c.1))) o ≡ Some d → length d.1 < length bytes
declaration_by bytes None d is h = cc
declaration_by bytes (Some c) d is h =
    let less = uleb_shorter bytes c is in
    let more = some_code (c.0 == 0) c.0 c.1 d h in omega (arith, less, more)

declaration_shorter : (bytes : List ℕ) (d : ℕ × List ℕ) → declaration bytes ≡ Some d → length d.1 < length bytes
unfolding declaration
declaration_shorter bytes d h = declaration_by bytes (uleb bytes) d refl h

-- the specifications of a declaration
specified_end : (n : ℕ) (bytes rest : List ℕ) (s : ℕ × ℕ × List ℕ) (t : Bool) → ((b : List ℕ) → behind_specifications n b ≡ Some rest → (k : ℕ) × AreSpecified k b rest) → specification bytes ≡ Some s → is_end s.0 s.1 ≡ t → cond t (Some s.2) (behind_specifications n s.2) ≡ Some rest → (k : ℕ) × AreSpecified k bytes rest
specified_end n bytes rest s true back is ends h = (zero, (s, is, ends, same_Some _ _ h))
specified_end n bytes rest s false back is ends h =
    let more = back s.2 h in (suc more.0, (s, is, ends, more.1))

specified_by : (n : ℕ) (bytes rest : List ℕ) (o : Option (ℕ × ℕ × List ℕ)) → ((b : List ℕ) → behind_specifications n b ≡ Some rest → (k : ℕ) × AreSpecified k b rest) → specification bytes ≡ o → option_and_then (λ (s : ℕ × ℕ × List ℕ). cond (is_end s.0 s.1) (Some s.2) (behind_specifications n s.2)) o ≡ Some rest → (k : ℕ) × AreSpecified k bytes rest
specified_by n bytes rest None back is h = cc
specified_by n bytes rest (Some s) back is h = specified_end n bytes rest s (is_end s.0 s.1) back is refl h

specified : (n : ℕ) (bytes rest : List ℕ) → behind_specifications n bytes ≡ Some rest → (k : ℕ) × AreSpecified k bytes rest
unfolding behind_specifications
specified zero bytes rest h = cc
specified (suc n) bytes rest h = specified_by n bytes rest (specification bytes) (λ b. specified n b rest) refl h

-- any number that is not less than there are bytes is enough
specified_only : (k n : ℕ) (bytes rest : List ℕ) → length bytes ≤ n → AreSpecified k bytes rest → behind_specifications n bytes ≡ Some rest
unfolding behind_specifications
specified_only zero zero bytes rest few h = let less = specification_shorter bytes h.0 h.1 in absurd (omega (arith, less))
specified_only (suc k) zero bytes rest few h = let less = specification_shorter bytes h.0 h.1 in absurd (omega (arith, less))
specified_only zero (suc n) bytes rest few h =
    ap (option_and_then (λ (s : ℕ × ℕ × List ℕ). cond (is_end s.0 s.1) (Some s.2) (behind_specifications n s.2))) h.1
    ∙ ap (λ t. cond t (Some h.0.2) (behind_specifications n h.0.2)) h.2
    ∙ ap (λ r. Some r) h.3
specified_only (suc k) (suc n) bytes rest few h =
    let less = specification_shorter bytes h.0 h.1 in
    ap (option_and_then (λ (s : ℕ × ℕ × List ℕ). cond (is_end s.0 s.1) (Some s.2) (behind_specifications n s.2))) h.1
    ∙ ap (λ t. cond t (Some h.0.2) (behind_specifications n h.0.2)) h.2
    ∙ specified_only k n h.0.2 rest (omega (arith, less)) h.3

specified_shorter : (k : ℕ) (bytes rest : List ℕ) → AreSpecified k bytes rest → length rest < length bytes
specified_shorter zero bytes rest h =
    let less = specification_shorter bytes h.0 h.1 in
    let size = ap length h.3 in omega (arith, less, size)
specified_shorter (suc k) bytes rest h =
    let less = specification_shorter bytes h.0 h.1 in
    let more = specified_shorter k h.0.2 rest h.3 in omega (arith, less, more)

-- the declarations of a table
declared_more : (n code : ℕ) (table found : List ℕ) (d : ℕ × List ℕ) (o : Option (List ℕ)) → ((b : List ℕ) → declared_among n code b ≡ Some found → (m : ℕ) × IsDeclared m code b found) → declaration table ≡ Some d → (d.0 == code) ≡ false → behind_declaration d.1 ≡ o → option_and_then (declared_among n code) o ≡ Some found → (m : ℕ) × IsDeclared m code table found
declared_more n code table found d None back is other at h = cc
declared_more n code table found d (Some rest) back is other at h =
    let all = specified (length d.1) d.1 rest at in
    let more = back rest h in (suc more.0, (d, all.0, rest, is, other, all.1, more.1))

declared_code : (n code : ℕ) (table found : List ℕ) (d : ℕ × List ℕ) (t : Bool) → ((b : List ℕ) → declared_among n code b ≡ Some found → (m : ℕ) × IsDeclared m code b found) → declaration table ≡ Some d → (d.0 == code) ≡ t → cond t (Some d.1) (option_and_then (declared_among n code) (behind_declaration d.1)) ≡ Some found → (m : ℕ) × IsDeclared m code table found
declared_code n code table found d true back is same h =
    let code_is : d.0 ≡ code = eqb-true d.0 code same in
    (zero, is ∙ ap (λ c. Some (c, d.1)) code_is ∙ ap (λ r. Some (code, r)) (same_Some _ _ h))
declared_code n code table found d false back is other h =
    declared_more n code table found d (behind_declaration d.1) back is other refl h

declared_by : (n code : ℕ) (table found : List ℕ) (o : Option (ℕ × List ℕ)) → ((b : List ℕ) → declared_among n code b ≡ Some found → (m : ℕ) × IsDeclared m code b found) → declaration table ≡ o → option_and_then (λ (d : ℕ × List ℕ). cond (d.0 == code) (Some d.1) (option_and_then (declared_among n code) (behind_declaration d.1))) o ≡ Some found → (m : ℕ) × IsDeclared m code table found
declared_by n code table found None back is h = cc
declared_by n code table found (Some d) back is h = declared_code n code table found d (d.0 == code) back is refl h

declared_of : (n code : ℕ) (table found : List ℕ) → declared_among n code table ≡ Some found → (m : ℕ) × IsDeclared m code table found
unfolding declared_among
declared_of zero code table found h = cc
declared_of (suc n) code table found h = declared_by n code table found (declaration table) (λ b. declared_of n code b found) refl h

pub declared : (table : List ℕ) (code : ℕ) (found : List ℕ) → declared_in table code ≡ Some found → (m : ℕ) × IsDeclared m code table found
declared table code found h = declared_of (length table) code table found h

declared_enough : (m n code : ℕ) (table found : List ℕ) → length table ≤ n → IsDeclared m code table found → declared_among n code table ≡ Some found
unfolding declared_among
declared_enough zero zero code table found few h = let less = declaration_shorter table (code, found) h in absurd (omega (arith, less))
declared_enough (suc m) zero code table found few h = let less = declaration_shorter table h.0 h.3 in absurd (omega (arith, less))
declared_enough zero (suc n) code table found few h =
    ap (option_and_then (λ (d : ℕ × List ℕ). cond (d.0 == code) (Some d.1) (option_and_then (declared_among n code) (behind_declaration d.1)))) h
    ∙ ap (λ t. cond t (Some found) (option_and_then (declared_among n code) (behind_declaration found))) (eq-eqb code code refl)
declared_enough (suc m) (suc n) code table found few h =
    let less = declaration_shorter table h.0 h.3 in
    let more = specified_shorter h.1 h.0.1 h.2 h.5 in
    ap (option_and_then (λ (d : ℕ × List ℕ). cond (d.0 == code) (Some d.1) (option_and_then (declared_among n code) (behind_declaration d.1)))) h.3
    ∙ ap (λ t. cond t (Some h.0.1) (option_and_then (declared_among n code) (behind_declaration h.0.1))) h.4
    ∙ ap (option_and_then (declared_among n code)) (specified_only h.1 (length h.0.1) h.0.1 h.2 (omega arith) h.5)
    ∙ declared_enough m n code h.2 found (omega (arith, less, more)) h.6

pub first : (m : ℕ) (table : List ℕ) (code : ℕ) (found : List ℕ) → IsDeclared m code table found → declared_in table code ≡ Some found
first m table code found h = declared_enough m (length table) code table found (omega arith) h

-- the attributes of an entry
abbrev Attributed : ℕ → ℕ → Type 0
Attributed n version =
    (b v : List ℕ) (found : List AttributeView) → attributes_for n version b v ≡ Some found → AreAttributes version b v found

attributed_more : (n version : ℕ) (specifications values : List ℕ) (found : List AttributeView) (s : ℕ × ℕ × List ℕ) (a : AttributeView × List ℕ) (o : Option (List AttributeView)) → Attributed n version → specification specifications ≡ Some s → is_end s.0 s.1 ≡ false → attribute_in version s.0 s.1 values ≡ Some a → attributes_for n version s.2 a.1 ≡ o → option_map (λ more. a.0 ∷ more) o ≡ Some found → AreAttributes version specifications values found
attributed_more n version specifications values found s a None back is ends at left h = cc
attributed_more n version specifications values found s a (Some more) back is ends at left h =
    subst (AreAttributes version specifications values) (same_Some _ _ h) (s, a.1, is, ends, at, back s.2 a.1 more left)

attributed_value : (n version : ℕ) (specifications values : List ℕ) (found : List AttributeView) (s : ℕ × ℕ × List ℕ) (o : Option (AttributeView × List ℕ)) → Attributed n version → specification specifications ≡ Some s → is_end s.0 s.1 ≡ false → attribute_in version s.0 s.1 values ≡ o → option_and_then (λ (a : AttributeView × List ℕ). option_map (λ more. a.0 ∷ more) (attributes_for n version s.2 a.1)) o ≡ Some found → AreAttributes version specifications values found
attributed_value n version specifications values found s None back is ends at h = cc
attributed_value n version specifications values found s (Some a) back is ends at h =
    attributed_more n version specifications values found s a (attributes_for n version s.2 a.1) back is ends at refl h

attributed_end : (n version : ℕ) (specifications values : List ℕ) (found : List AttributeView) (s : ℕ × ℕ × List ℕ) (t : Bool) → Attributed n version → specification specifications ≡ Some s → is_end s.0 s.1 ≡ t → cond t (Some []) (option_and_then (λ (a : AttributeView × List ℕ). option_map (λ more. a.0 ∷ more) (attributes_for n version s.2 a.1)) (attribute_in version s.0 s.1 values)) ≡ Some found → AreAttributes version specifications values found
attributed_end n version specifications values found s true back is ends h =
    subst (AreAttributes version specifications values) (same_Some _ _ h) (s, is, ends)
attributed_end n version specifications values found s false back is ends h =
    attributed_value n version specifications values found s (attribute_in version s.0 s.1 values) back is ends refl h

attributed_by : (n version : ℕ) (specifications values : List ℕ) (found : List AttributeView) (o : Option (ℕ × ℕ × List ℕ)) → Attributed n version → specification specifications ≡ o → option_and_then (λ (s : ℕ × ℕ × List ℕ). cond (is_end s.0 s.1) (Some []) (option_and_then (λ (a : AttributeView × List ℕ). option_map (λ more. a.0 ∷ more) (attributes_for n version s.2 a.1)) (attribute_in version s.0 s.1 values))) o ≡ Some found → AreAttributes version specifications values found
attributed_by n version specifications values found None back is h = cc
attributed_by n version specifications values found (Some s) back is h =
    attributed_end n version specifications values found s (is_end s.0 s.1) back is refl h

attributed_of : (n version : ℕ) → Attributed n version
unfolding attributes_for
attributed_of zero version specifications values found h = cc
attributed_of (suc n) version specifications values found h =
    attributed_by n version specifications values found (specification specifications) (attributed_of n version) refl h

pub attributed : (e : EntryView) (found : List AttributeView) → attributes e ≡ Some found → AreAttributes e.version e.specifications e.values found
attributed e found h = attributed_of (length e.specifications) e.version e.specifications e.values found h

attributed_enough : (n version : ℕ) (specifications values : List ℕ) (found : List AttributeView) → length specifications ≤ n → AreAttributes version specifications values found → attributes_for n version specifications values ≡ Some found
unfolding attributes_for
attributed_enough zero version specifications values [] few h = let less = specification_shorter specifications h.0 h.1 in absurd (omega (arith, less))
attributed_enough zero version specifications values (a ∷ more) few h = let less = specification_shorter specifications h.0 h.2 in absurd (omega (arith, less))
attributed_enough (suc n) version specifications values [] few h =
    ap (option_and_then (λ (s : ℕ × ℕ × List ℕ). cond (is_end s.0 s.1) (Some []) (option_and_then (λ (a : AttributeView × List ℕ). option_map (λ more. a.0 ∷ more) (attributes_for n version s.2 a.1)) (attribute_in version s.0 s.1 values)))) h.1
    ∙ ap (λ t. cond t (Some []) (option_and_then (λ (a : AttributeView × List ℕ). option_map (λ more. a.0 ∷ more) (attributes_for n version h.0.2 a.1)) (attribute_in version h.0.0 h.0.1 values))) h.2
attributed_enough (suc n) version specifications values (a ∷ more) few h =
    let less = specification_shorter specifications h.0 h.2 in
    ap (option_and_then (λ (s : ℕ × ℕ × List ℕ). cond (is_end s.0 s.1) (Some []) (option_and_then (λ (b : AttributeView × List ℕ). option_map (λ left. b.0 ∷ left) (attributes_for n version s.2 b.1)) (attribute_in version s.0 s.1 values)))) h.2
    ∙ ap (λ t. cond t (Some []) (option_and_then (λ (b : AttributeView × List ℕ). option_map (λ left. b.0 ∷ left) (attributes_for n version h.0.2 b.1)) (attribute_in version h.0.0 h.0.1 values))) h.3
    ∙ ap (option_and_then (λ (b : AttributeView × List ℕ). option_map (λ left. b.0 ∷ left) (attributes_for n version h.0.2 b.1))) h.4
    ∙ ap (option_map (λ left. a ∷ left)) (attributed_enough n version h.0.2 h.1 more (omega (arith, less)) h.5)

pub attributed_only : (e : EntryView) (found : List AttributeView) → AreAttributes e.version e.specifications e.values found → attributes e ≡ Some found
attributed_only e found h = attributed_enough (length e.specifications) e.version e.specifications e.values found (omega arith) h
