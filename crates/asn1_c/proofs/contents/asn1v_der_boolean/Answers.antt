use Rattle.std.proofs.Common.{◌≡◌, Bool, List, [], subst}
use Rattle.std.specs.Bool.{⊤}
use Rattle.asn1_bits.specs.Bits.{bits}
use Rattle.asn1_x690.specs.Leaves.{IsBoolean}
use Rattle.asn1_schema.specs.declared.part.Part.{Part}
use Rattle.asn1_schema.specs.Pieces.{Truth}
use Rattle.asn1_schema.specs.PiecesOfParts.{piece_of}
use Rattle.asn1_c.proofs.ContentLemmas.{are_octets, all_bits, truth_of, nothing_told}
use Rattle.asn1_c.proofs.contents.asn1v_der_boolean.Goals as goal

pub boolean-requires-clause-contents : goal.boolean-requires-clause-contents
boolean-requires-clause-contents c = are_octets c.args.octets.now c.whole.result c.whole.ensures.at c.whole.ensures.count

pub returns-in_default-clause-invalid : goal.returns-in_default-clause-invalid
returns-in_default-clause-invalid c = λ _.
    nothing_told IsBoolean (λ b. ⊤) Truth c.args.octets.now c.whole.result c.in_default.field-0 c.whole.ensures.at
    c.whole.ensures.count (λ b. tt) (c.in_default.ensures [])

pub returns-in_default-part : goal.returns-in_default-part
returns-in_default-part c =
    let t = c.in-Ok.ensures [] in
    absurd (c.in_default-part.not-Truth t.0 (truth_of (bits c.args.octets.now) c.in-Ok.part t.0 t.3))

pub returns-clause-read : goal.returns-clause-read
returns-clause-read c = λ _.
    let o = c.args.octets.now in
    let t = c.in-Ok.ensures [] in
    let shown : Truth c.in-Truth.read ≡ Truth t.0 = subst (λ (p : Part). piece_of [] (bits o) p ≡ Truth t.0) c.in-Truth.is t.3 in
    let same : t.0 ≡ c.in-Truth.read = cc in
    subst (λ (b : Bool). IsBoolean b (bits o)) same
    (subst (λ (l : List Bool). IsBoolean t.0 l) (all_bits o c.whole.result c.whole.ensures.at c.whole.ensures.count) t.1)
