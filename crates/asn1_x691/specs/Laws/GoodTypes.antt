-- Types that are good at every position, of combinators.
use Rattle.std.proofs.Common.{◌≡◌, ℕ, ◌+◌, Bool, true, false, List, length, ◌∙◌}
use Rattle.asn1_schema.specs.declared.misfit.MisfitKind.TheVariants as misfit
use Rattle.asn1_schema.specs.Pieces.{Piece, Absent, Parts}
use Rattle.asn1_schema.specs.Encodings.{Encoding, EncodesOne}
use Rattle.asn1_schema.specs.TypeEncodings.{TypeEncoding, nothing, leaf, part, either_by_bit}
use Rattle.asn1_schema.specs.Laws.PositionLaws.{IsSoundEverywhere}
use Rattle.asn1_schema.specs.Laws.WritingLaws.{IsPresent, ArePresent}
use Rattle.asn1_schema.specs.Laws.TypeLaws.{IsGoodEverywhere, nothing_good, invalid_type_good, part_good, part_present, leaf_good}
use Rattle.asn1_schema.specs.Laws.HeaderLaws.{header_good, either_by_bit_good, BeginsWith}
use Rattle.asn1_x691.specs.declared.fault.FaultKind.{FaultKind}
use Rattle.asn1_x691.specs.declared.fault.FaultKind.TheVariants.{NoNode}
use Rattle.asn1_x691.specs.Strings.{bit}
use Rattle.asn1_x691.specs.Types.{no_node}
use Rattle.asn1_x691.specs.Leaves.{by_extension_bit}
use Rattle.asn1_x691.specs.Laws.StringLaws.{bit_sound, bit_one, bit_size}

-- a type that is good at every position, and whose first part never says that a component is absent
pub record IsType (A : ℕ → TypeEncoding FaultKind) : Type 1 where
  pub good : IsGoodEverywhere A
  pub present : (at : ℕ) → ArePresent (A at)

pub no_node_type : (node : ℕ) → IsType (no_node node)
no_node_type node = record {
  good = invalid_type_good NoNode misfit.NoNode node;
  present = λ at. record { each = λ xs l p. absurd p };
}

pub leaf_type : {X : Type 0} (A : ℕ → Encoding FaultKind X) (is : X → Piece) (node : ℕ) → IsSoundEverywhere A
    → ((at : ℕ) → EncodesOne (A at).encodes) → ((x y : X) → is x ≡ is y → x ≡ y) → ((x : X) → is x ≡ Absent → ⊥)
    → IsType (leaf A is node)
leaf_type A is node a one alike not = record {
  good = leaf_good A is node a one alike;
  present = λ at. part_present A is (λ x. nothing) node a one alike (λ x. nothing_good) at not;
}

pub part_type : {X : Type 0} (A : ℕ → Encoding FaultKind X) (is : X → Piece) (B : X → ℕ → TypeEncoding FaultKind) (node : ℕ)
    → IsSoundEverywhere A → ((at : ℕ) → EncodesOne (A at).encodes) → ((x y : X) → is x ≡ is y → x ≡ y)
    → ((x : X) → is x ≡ Absent → ⊥) → ((x : X) → IsGoodEverywhere (B x)) → IsType (part A is B node)
part_type A is B node a one alike not b = record {
  good = λ at. part_good A is B node a one alike b at;
  present = λ at. part_present A is B node a one alike b at not;
}

-- an extension bit, and a type after it
pub by_bit_type : (node : ℕ) (P : Piece → Type 0) (A B : ℕ → TypeEncoding FaultKind) → IsType A → IsType B
    → ((at : ℕ) → BeginsWith (λ p. ¬ (P p)) (A at)) → ((at : ℕ) → BeginsWith P (B at))
    → IsType (by_extension_bit node P A B)
by_bit_type node P A B a b root extension = record {
  good = λ at. header_good (bit node) 1 (either_by_bit P node A B) node (bit_sound node) (bit_one node) (bit_size node)
      (λ n. either_by_bit_good P node A B n (a.good n) (b.good n) (root n) (extension n)) at;
  present = λ at. record { each = λ xs l p. begun (at + length p.front) p.value xs p.after p.rest p.is p.second };
}
  where
    moved_to : (xs ys : Parts) → xs ≡ ys → IsPresent ys → IsPresent xs
    moved_to xs ys s q = record { first = q.first; others = q.others; are = s ∙ q.are; present = q.present }

    begun : (to : ℕ) (c : Bool) (xs ys : Parts) (l : List Bool) → xs ≡ ys → ((either_by_bit P node A B to).after c).encodes ys l
        → IsPresent xs
    begun to false xs ys l s p = moved_to xs ys s ((a.present to).each ys l p)
    begun to true xs ys l s p = moved_to xs ys s ((b.present to).each ys l p)
