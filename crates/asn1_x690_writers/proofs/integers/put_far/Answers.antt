use Rattle.std.proofs.Common.{◌≡◌, ℕ, ℤ, List, Bool, length, ap, ◌∙◌, sym, subst, arith}
use Rattle.asn1_bits.specs.Bits.{bits}
use Rattle.asn1_bits.specs.Laws.DigitLaws.{length-bits}
use Rattle.asn1_schema.specs.declared.part.Part.{Part}
use Rattle.asn1_schema.specs.declared.part.Part.TheVariants as part
use Rattle.asn1_schema.specs.declared.part.Span.{Span}
use Rattle.asn1_schema.specs.Pieces.{Integer}
use Rattle.asn1_schema.specs.PiecesOfParts.{bits_of, signed_number}
use Rattle.asn1_x690.specs.Der.{always}
use Rattle.asn1_x690.specs.Leaves.{IsInteger, leaf_of}
use Rattle.asn1_x691_writers.specs.Put.{piece_in}
use Rattle.asn1_x690_writers.specs.Put.{IsFarWithout, LeftAt}
use Rattle.asn1_x690_writers.specs.PutSteps.{left_out, leaf_put, span_length}
use Rattle.asn1_x690_writers.proofs.integers.put_far.Goals as goal

abbrev signed_span : Part → Span → Span
signed_span (part.Signed s) other = s
signed_span p other = other

-- the octets of such a part are those of the span within the source
same_octets : (source : List ℕ) (p : Part) (span inside : Span) → p ≡ part.Signed span → bits_of (bits source) inside ≡ bits_of (bits source) span
    → (s : Span) → p ≡ part.Signed s → (n : ℤ) → IsInteger n (bits_of (bits source) s) → IsInteger n (bits_of (bits source) inside)
same_octets source p span inside is same s e n =
    subst (λ (l : List Bool). IsInteger n l)
    (ap (λ (q : Part). bits_of (bits source) (signed_span q span)) (sym e ∙ is) ∙ sym same)

pub is_minimal-requires-clause-contents : goal.is_minimal-requires-clause-contents
is_minimal-requires-clause-contents c = record {
  inside = let i = c.clip-inside.ensures.inside in omega (arith, length-bits c.args.source.now, i);
  whole = omega (arith, c.if-inside-gt0.false);
}

pub returns : goal.returns
returns c ranges =
    let a = c.args in
    let s = c.clip-inside.result in
    let list = bits_of (bits a.source.now) s in
    let h = span_length a.source.now s c.clip-inside.ensures.inside in
    leaf_put IsInteger (always {X = ℤ}) Integer a.node (piece_in ranges a.source.now a.part) (signed_number list) list a.octets.now
    a.state.now c.put_span-state.new.octets c.put_span-state.result
    (ap (piece_in ranges a.source.now) c.in-Signed.is ∙ ap (λ (l : List Bool). Integer (signed_number l)) (sym c.clip-inside.ensures.same))
    (c.is_minimal.ensures.yes c.if-not-is_minimal.false) tt
    (omega (arith, h, c.if-inside-gt0.false)) c.put_span-state.ensures

pub returns-then-inside-gt0 : goal.returns-then-inside-gt0
returns-then-inside-gt0 c ranges =
    let a = c.args in
    let s = c.clip-inside.result in
    let p = piece_in ranges a.source.now a.part in
    let l = c.leave-then-inside-gt0 in
    let h = span_length a.source.now s c.clip-inside.ensures.inside in
    left_out (LeftAt (IsFarWithout a.source.now a.part p) a.node l.new.state) (leaf_of IsInteger (always {X = ℤ}) Integer a.node) p a.octets.now
    a.state.now l.new.state l.result l.ensures.result l.ensures.at l.ensures.next l.ensures.reason
    (record {
      holds = record {
        far = c.requires.far ranges;
        without = λ t e n i.
            let j = same_octets a.source.now a.part c.in-Signed.span s c.in-Signed.is c.clip-inside.ensures.same t e n i in
            let z = ap length j.2 in
            omega (arith, h, z, length-bits j.0, c.if-inside-gt0.true);
      };
      same = l.ensures.node;
    })

pub returns-then-not-is_minimal : goal.returns-then-not-is_minimal
returns-then-not-is_minimal c ranges =
    let a = c.args in
    let s = c.clip-inside.result in
    let p = piece_in ranges a.source.now a.part in
    let l = c.leave-then-not-is_minimal in
    left_out (LeftAt (IsFarWithout a.source.now a.part p) a.node l.new.state) (leaf_of IsInteger (always {X = ℤ}) Integer a.node) p a.octets.now
    a.state.now l.new.state l.result l.ensures.result l.ensures.at l.ensures.next l.ensures.reason
    (record {
      holds = record {
        far = c.requires.far ranges;
        without = λ t e n i.
            c.is_minimal.ensures.no c.if-not-is_minimal.true n
            (same_octets a.source.now a.part c.in-Signed.span s c.in-Signed.is c.clip-inside.ensures.same t e n i);
      };
      same = l.ensures.node;
    })
