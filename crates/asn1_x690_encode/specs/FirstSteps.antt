-- What follows of the identifier with which bits begin.
use Rattle.std.proofs.Common.{◌≡◌, ◌+◌, List, [], Bool, length, ap, ◌∙◌, subst, Some, arith}
use Rattle.std.proofs.lemmas.List.{length-append}
use Rattle.asn1_bits.specs.Laws.DigitLaws.{length-digits}
use Rattle.asn1_x690.specs.declared.tables.FirstTags.{FirstTags}
use Rattle.asn1_x690.specs.declared.tables.Identifier.{Identifier}
use Rattle.asn1_x690.specs.declared.tables.Tag.{Tag}
use Rattle.asn1_x690.specs.Der.{HasTag, BeginsWith as MayBegin}
use Rattle.asn1_x690.specs.Laws.ElementLaws.{identifier_sound}
use Rattle.asn1_x690_fields.specs.declared.identifier.FoundIdentifier.{FoundIdentifier}
use Rattle.asn1_x690_fields.specs.Outcomes.{IsIdentifier}
use Rattle.asn1_x690_encode.specs.Encoding.{BeginsWith}

module _ (tags : List Tag) (first : FirstTags) (list : List Bool) where
  pub may_begin : (found : FoundIdentifier) → BeginsWith (Some found) list → ((id : Identifier) → IsIdentifier found id → HasTag tags first id)
      → MayBegin tags first list
  may_begin found b f = record { value = b.0; rest = b.1; starts = b.3; holds = f b.0 b.2 }

  pub may_not : (found : FoundIdentifier) → BeginsWith (Some found) list → ((id : Identifier) → IsIdentifier found id → HasTag tags first id → ⊥)
      → MayBegin tags first list → ⊥
  may_not found b f m =
      let same = (identifier_sound 0).one.one list b.0 m.value b.1 m.rest b.3 m.starts in
      f m.value (subst (λ (i : Identifier). IsIdentifier found i) same.0 b.2) m.holds

  pub none_begins : list ≡ [] → MayBegin tags first list → ⊥
  none_begins e m =
      let p = m.starts.encoded in
      let n : length list ≡ length m.starts.front + length m.rest = ap length m.starts.parts ∙ length-append m.starts.front m.rest in
      let z : length list ≡ 0 = ap length e in
      let b : length m.starts.front ≡ length p.front + length p.rest = ap length p.parts ∙ length-append p.front p.rest in
      let c : length p.front ≡ 8 = ap length p.first.1 ∙ length-digits p.value 8 in
      omega (arith, n, z, b, c)
