-- Lines that are printed.
use Rattle.std.proofs.Common.{◌≡◌, ◌≢◌, ℕ, ◌+◌, ◌<◌, Bool, true, false, if◌then◌else◌, List, [], ◌∷◌, ◌++◌, length, take, get_or, slice_get, Some, codes, refl, sym, ap, ◌∙◌, append_assoc, append-nil, arith}
use Rattle.std.proofs.lemmas.List.{map_more}
use Rattle.std.proofs.lemmas.List.Concat.{flat_map-append}
use Rattle.std.proofs.lemmas.Option.{slice_get_within, slice_get-get_or}
use Rattle.asn1_values.specs.declared.bit_fields.field.Field.{Field}
use Rattle.asn1_values.specs.Plain.{plain_field, plain_fields}
use Rattle.hex.specs.Hex.{encode_with, encode_lower}
use Rattle.field_lines.specs.Output.{line, digits_of_bits, octets_text, field_text, field_lines}

-- ---- octets

pub no_octets_line : (label octets : List ℕ) → length octets ≡ 0
    → label ++ 32 ∷ 45 ∷ 10 ∷ [] ≡ line (label ++ codes " " ++ octets_text octets)
unfolding encode_with
no_octets_line label [] none = simp append_assoc
no_octets_line label (octet ∷ octets) none = absurd (omega arith)

pub octets_line : (label octets digits : List ℕ) → length octets ≢ 0 → digits ≡ encode_lower octets
    → label ++ 32 ∷ (digits ++ 10 ∷ []) ≡ line (label ++ codes " " ++ octets_text octets)
unfolding encode_with
octets_line label [] digits some e = absurd (some refl)
octets_line label (octet ∷ octets) digits some e = rw e (simp append_assoc)

-- ---- bits

pub below_128 : (bit : Bool) (n : ℕ) → n ≡ (if bit then 49 else 48) → n < 128
below_128 true n e = omega arith
below_128 false n e = omega arith

pub digits_of_more : (list : List Bool) (i : ℕ) (bit : Bool) (n : ℕ) → slice_get list i ≡ Some bit
    → n ≡ (if bit then 49 else 48) → digits_of_bits (take (i + 1) list) ≡ digits_of_bits (take i list) ++ n ∷ []
digits_of_more list i bit n at e =
    let digit : Bool → ℕ = λ b. if b then 49 else 48 in
    let here = slice_get_within list i bit at in
    let value : Some (get_or list i bit) ≡ Some bit = sym (slice_get-get_or list i bit here) ∙ at in
    let is : get_or list i bit ≡ bit = cc in
    map_more digit list i bit here ∙ ap (λ (k : ℕ). digits_of_bits (take i list) ++ k ∷ []) (ap digit is ∙ sym e)

-- ---- fields

pub field_lines_more : (fields : List Field) (i : ℕ) (field : Field) → i < length fields → field ≡ get_or fields i field
    → field_lines (plain_fields (take (i + 1) fields)) ≡ field_lines (plain_fields (take i fields)) ++ line
    (field_text (plain_field field))
field_lines_more fields i field here is =
    ap field_lines (map_more plain_field fields i field here)
    ∙ flat_map-append (λ f. line (field_text f)) (plain_fields (take i fields))
    (plain_field (get_or fields i field) ∷ [])
    ∙ ap (λ (l : List ℕ). field_lines (plain_fields (take i fields)) ++ l)
    (append-nil (line (field_text (plain_field (get_or fields i field)))))
    ∙ ap (λ (f : Field). field_lines (plain_fields (take i fields)) ++ line (field_text (plain_field f))) (sym is)
