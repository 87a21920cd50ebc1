-- The laws of encodings with implicit arguments: which encodings are meant follows from what is to be proved. So the law of a
-- definition has its shape.
use Rattle.std.proofs.Common.{ℕ}
use Rattle.asn1_schema.specs.Encodings.{Encoding, constant, invalid, then, cases, number, in_turn, in_case}
use Rattle.asn1_schema.specs.Laws.EncodingLaws.{IsSound, constant_sound, invalid_sound, then_sound, cases_sound, number_sound}
use Rattle.asn1_schema.specs.Laws.PositionLaws.{IsSoundEverywhere, in_turn_sound, in_case_sound}

pub then_of : {K X Y Z : Type 0} {A : Encoding K X} {f : X → Y → Z} {B : X → Encoding K Y} → IsSound A → ((x : X) → IsSound (B x))
    → IsSound (then A f B)
then_of {A = A} {f = f} {B = B} a b = then_sound A f B a b

pub cases_of : {K X : Type 0} {C D : Type 0} {A B : Encoding K X} → (C → D → ⊥) → IsSound A → IsSound B → IsSound (cases C A D B)
cases_of {C = C} {D = D} {A = A} {B = B} apart a b = cases_sound C A D B apart a b

pub constant_of : {K X : Type 0} {x : X} → IsSound (constant {K = K} x)
constant_of {x = x} = constant_sound x

pub invalid_of : {K X : Type 0} {kind : K} {node : ℕ} → IsSound (invalid {X = X} kind node)
invalid_of {kind = kind} {node = node} = invalid_sound kind node

pub number_of : {K : Type 0} {width : ℕ} {short : K} {node : ℕ} → IsSound (number width short node)
number_of {width = width} {short = short} {node = node} = number_sound width short node

pub in_turn_of : {K X Y Z : Type 0} {A : ℕ → Encoding K X} {f : X → Y → Z} {B : X → ℕ → Encoding K Y} → IsSoundEverywhere A
    → ((x : X) → IsSoundEverywhere (B x)) → IsSoundEverywhere (in_turn A f B)
in_turn_of {A = A} {f = f} {B = B} a b at = in_turn_sound A f B at (a at) (λ x n. b x n)

pub in_case_of : {K X : Type 0} {C D : Type 0} {A B : ℕ → Encoding K X} → (C → D → ⊥) → IsSoundEverywhere A → IsSoundEverywhere B
    → IsSoundEverywhere (in_case C A D B)
in_case_of {C = C} {D = D} {A = A} {B = B} apart a b = in_case_sound C A D B apart a b
