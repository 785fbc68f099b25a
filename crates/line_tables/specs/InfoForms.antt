-- The values of attributes by their forms (DWARF 4, 7.5.4, 7.6 and Figure 21). All numbers are little endian.
use Rattle.std.specs.Prelude.{ℕ, ◌==◌, ◌||◌, if◌then◌else◌, List, Option, None, Some}
use Rattle.std.specs.Option.{option_and_then, option_map}
use Rattle.call_frames.specs.Leb.{uleb, sleb, sized}
use Rattle.line_tables.specs.Texts.{text, number, split}
use Rattle.line_tables.specs.declared.info_forms.Shape.{Shape}
use Rattle.line_tables.specs.declared.info_forms.Shape.TheVariants.{Fixed, Block1, Block2, Block4, Block, Text, Signed, Unsigned}

-- a reference to another unit: version 2 has an address there (DWARF 2, 7.5.4), and later versions an offset
abbrev pub reference_size : ℕ → ℕ
reference_size version = if version == 2 then 8 else 4

-- flag_present (0x19) has no bytes; data1 (0x0b), flag (0x0c) and ref1 (0x11) have one; data2 (0x05) and ref2 (0x12) two; data4 (0x06),
-- strp (0x0e), ref4 (0x13) and sec_offset (0x17) four; addr (0x01), data8 (0x07), ref8 (0x14) and ref_sig8 (0x20) eight; ref_addr is
-- 0x10. Blocks are block1 (0x0a), block2 (0x03), block4 (0x04), block (0x09) and exprloc (0x18); string (0x08) is a text; sdata (0x0d)
-- is an SLEB128; udata (0x0f) and ref_udata (0x15) are ULEB128.
unfoldable pub shape_of : ℕ → ℕ → Option Shape
shape_of version form =
    if form == 0x19 then Some (Fixed 0)
    else (if form == 0x0b || form == 0x0c || form == 0x11 then Some (Fixed 1)
    else (if form == 0x05 || form == 0x12 then Some (Fixed 2)
    else (if form == 0x06 || form == 0x0e || form == 0x13 || form == 0x17 then Some (Fixed 4)
    else (if form == 0x01 || form == 0x07 || form == 0x14 || form == 0x20 then Some (Fixed 8)
    else (if form == 0x10 then Some (Fixed (reference_size version))
    else (if form == 0x0a then Some Block1
    else (if form == 0x03 then Some Block2
    else (if form == 0x04 then Some Block4
    else (if form == 0x09 || form == 0x18 then Some Block
    else (if form == 0x08 then Some Text
    else (if form == 0x0d then Some Signed
    else (if form == 0x0f || form == 0x15 then Some Unsigned
    else None))))))))))))

-- the bytes after a value at the front
abbrev pub behind : {A : Type 0} → Option (A × List ℕ) → Option (List ℕ)
behind o = option_map (λ p. p.1) o

-- a length in w bytes, and as many bytes
abbrev pub behind_block : ℕ → List ℕ → Option (List ℕ)
behind_block w bytes = option_and_then (λ (n : ℕ × List ℕ). behind (split n.0 n.1)) (number w bytes)

abbrev pub behind_shape : Shape → List ℕ → Option (List ℕ)
behind_shape (Fixed n) bytes = behind (split n bytes)
behind_shape Block1 bytes = behind_block 1 bytes
behind_shape Block2 bytes = behind_block 2 bytes
behind_shape Block4 bytes = behind_block 4 bytes
behind_shape Block bytes = behind (sized bytes)
behind_shape Text bytes = behind (text bytes)
behind_shape Signed bytes = behind (sleb bytes)
behind_shape Unsigned bytes = behind (uleb bytes)

-- the form of a value, and the bytes that begin with the value: after indirect (0x16), the form is a ULEB128 in front of the value
unfoldable pub resolved : ℕ → List ℕ → Option (ℕ × List ℕ)
resolved form bytes = if form == 0x16 then uleb bytes else Some (form, bytes)

-- the bytes after a value, if its form is known and all of it is there
unfoldable pub behind_value : ℕ → ℕ → List ℕ → Option (List ℕ)
behind_value version form bytes = option_and_then (λ s. behind_shape s bytes) (shape_of version form)
