use Rattle.std.proofs.Common.{ℕ, ◌*◌, ◌/◌, List, Bool, true, refl, ap, subst, arith}
use Rattle.asn1_bits.specs.Bits.{bits}
use Rattle.asn1_schema.specs.declared.misfit.MisfitKind.TheVariants.{NoEncoding}
use Rattle.asn1_schema.specs.Encodings.{Encoding, anywhere, constant, in_turn, permitted}
use Rattle.asn1_schema.specs.Laws.PermittedLaws.{permitted_is}
use Rattle.asn1_schema.specs.Pieces.{Octets}
use Rattle.asn1_schema.specs.PiecesOfParts.{bits_at}
use Rattle.asn1_x691.specs.declared.fault.FaultKind.{FaultKind}
use Rattle.asn1_x691.specs.declared.fault.FaultKind.TheVariants.{Contents}
use Rattle.asn1_x691.specs.Contents.{IsUtf8Text}
use Rattle.asn1_x691.specs.Fragments.{most_fragments, string, octets}
use Rattle.asn1_x691.specs.Leaves.{contents}
use Rattle.asn1_x691_writers.specs.Joined.{bits_in}
use Rattle.asn1_x691_writers.specs.FieldSteps.{permitted_written, turn_constant}
use Rattle.asn1_x691_writers.specs.LeafSteps.{leaf_written, leaf_none}
use Rattle.asn1_x691_writers.specs.Put.{IsPut}
use Rattle.asn1_x691_writers.specs.PutSteps.{rejected}
use Rattle.asn1_x691_writers.specs.Written.{IsWritten}
use Rattle.asn1_x691_writers.proofs.JoinedLemmas.{all_units}
use Rattle.asn1_x691_writers.proofs.utf8_in_fragments.put_utf8_in_fragments.Goals as goal

-- units after their number
abbrev octets_of_units : Bool → ℕ → ℕ → ℕ → Encoding FaultKind (List Bool)
octets_of_units aligned unit node = in_turn (string most_fragments aligned unit node) (λ v u. v.1) (λ v. anywhere (constant (tt {0})))

abbrev No : List Bool → Type 0
No list = ¬ (IsUtf8Text list)

pub returns-then-not-is_utf8 : goal.returns-then-not-is_utf8
returns-then-not-is_utf8 c =
    let a = c.args in
    let A : ℕ → Encoding FaultKind (List Bool) = octets most_fragments a.is_aligned a.node in
    let list = bits_in (bits a.source.now) c.joined_of-joined.result in
    let k = c.reject in
    subst
    (λ (l : List Bool). IsPut a.is_aligned (contents most_fragments a.is_aligned a.node IsUtf8Text) (Octets l) a.octets.now a.state.now a.octets.now
    k.new.state k.result) c.joined_of-joined.ensures.same
    (rejected a.is_aligned (contents most_fragments a.is_aligned a.node IsUtf8Text) (Octets list) a.octets.now a.state.now k.new.state k.result a.node
    NoEncoding k.ensures.result k.ensures.at k.ensures.next k.ensures.node k.ensures.reason
    (leaf_none (permitted IsUtf8Text No Contents a.node A) Octets a.node (Octets list) list refl
    (λ at p. c.is_utf8.ensures.no c.if-not-is_utf8.true (permitted_is IsUtf8Text No Contents a.node A at list p.list p.encoded))))

pub put_joined_units-state-requires-clause-all : goal.put_joined_units-state-requires-clause-all
put_joined_units-state-requires-clause-all c =
    let total = c.size_of-total.result in
    let e = ap (λ (u : ℕ). u * (total / 8)) c.joined_of-joined.ensures.unit in
    omega (arith, e, c.size_of-total.ensures.size, c.is_utf8.ensures.whole c.if-not-is_utf8.false)

pub returns : goal.returns
returns c =
    let a = c.args in
    let aligned = a.is_aligned in
    let node = a.node in
    let A : ℕ → Encoding FaultKind (List Bool) = octets most_fragments aligned node in
    let whole = bits_in (bits a.source.now) c.joined_of-joined.result in
    let total = c.size_of-total.result in
    let k = c.put_joined_units-state in
    let was = a.octets.now in
    let now = k.new.octets in
    let old = a.state.now.at in
    let new = k.result in
    let w : IsWritten aligned A whole was old now new =
    all_units (λ u at. octets_of_units aligned u node at) aligned whole c.joined_of-joined.result.unit 8 (total / 8) was now old new
    c.joined_of-joined.ensures.unit (omega (arith, c.size_of-total.ensures.size, c.is_utf8.ensures.whole c.if-not-is_utf8.false))
    (turn_constant aligned was now old new (string most_fragments aligned c.joined_of-joined.result.unit node) (λ v u. v.1)
    (λ v. anywhere (constant (tt {0}))) (total / 8, bits_at whole 0 (c.joined_of-joined.result.unit * (total / 8))) tt (k.ensures node)
    (λ p. (refl, refl))) in
    subst
    (λ (l : List Bool). IsPut aligned (contents most_fragments aligned node IsUtf8Text) (Octets l) was a.state.now now (record a.state.now { at = new }) true)
    c.joined_of-joined.ensures.same
    (record {
      written = leaf_written (permitted IsUtf8Text No Contents node A) Octets node aligned whole (Octets whole) was now old new refl
          (permitted_written aligned IsUtf8Text No Contents node A whole was now old new (c.is_utf8.ensures.yes c.if-not-is_utf8.false) w);
      next = refl;
    })
