-- The contents of primitive elements of DER.
use Rattle.std.proofs.Common.{◌≡◌, ⊎_elim, Err, ℕ, ◌+◌, ◌-◌, ◌*◌, ◌^◌, ◌<◌, ◌≤◌, Bool, List, [], ◌∷◌, ◌++◌, length, take, drop, get_or, sym, ap, subst, ◌∙◌, arith}
use Rattle.std.proofs.Math.Seq.{take-append_seam, drop-append_seam}
use Rattle.std.proofs.lemmas.List.{length-append, take_all}
use Rattle.asn1_bits.specs.Bits.{bits, digits, number}
use Rattle.asn1_bits.specs.Laws.DigitLaws.{length-bits, length-digits}
use Rattle.asn1_bits.specs.Laws.NumberLaws.{number_of-digits}
use Rattle.asn1_schema.specs.declared.part.Part.{Part}
use Rattle.asn1_schema.specs.declared.part.Part.TheVariants as part
use Rattle.asn1_schema.specs.declared.part.Span.{Span}
use Rattle.asn1_schema.specs.Pieces.{Piece, Truth}
use Rattle.asn1_schema.specs.PiecesOfParts.{piece_of, bits_of}
use Rattle.asn1_x690.specs.declared.fault.FaultKind.{FaultKind}
use Rattle.asn1_x690.specs.Leaves.{IsBitString}
use Rattle.asn1_x690_leaves.specs.Told.{AreOctetsOf, IsTold}

same_octet : (a b : ℕ) → a < 2 ^ 8 → b < 2 ^ 8 → digits a 8 ≡ digits b 8 → a ≡ b
same_octet a b p q e = sym (number_of-digits a 8 p) ∙ ap number e ∙ number_of-digits b 8 q

-- what the first octet of a string of bits says
pub record Tells (o : List ℕ) : Type 0 where
  pub some : 1 ≤ length o
  pub few : get_or o 0 0 ≤ 8 * (length o - 1)
  pub is : IsBitString (take (8 * (length o - 1) - get_or o 0 0) (drop 8 (bits o))) (bits o)

pub tells : (o : List ℕ) (x : List Bool) → ((i : ℕ) → get_or o i 0 < 2 ^ 8) → IsBitString x (bits o) → Tells o
unfolding bits
tells [] x small h =
    let e : length {A = Bool} [] ≡ length (digits h.unused 8) + length (x ++ digits 0 h.unused) =
    ap length h.are ∙ length-append (digits h.unused 8) (x ++ digits 0 h.unused) in
    absurd (omega (arith, length-digits h.unused 8))
tells (b ∷ bs) x small h =
    let u : ℕ = h.unused in
    let behind : List Bool = x ++ digits 0 u in
    let parts : digits b 8 ++ bits bs ≡ digits u 8 ++ behind = h.are in
    let front : digits b 8 ≡ digits u 8 =
    sym (take-append_seam (digits b 8) (bits bs))
    ∙ ap (λ (k : ℕ). take k (digits b 8 ++ bits bs)) (length-digits b 8)
    ∙ ap (take 8) parts
    ∙ ap (λ (k : ℕ). take k (digits u 8 ++ behind)) (sym (length-digits u 8))
    ∙ take-append_seam (digits u 8) behind in
    let few = h.few in
    let same : b ≡ u = same_octet b u (small 0) (omega arith) front in
    let rest : drop 8 (bits (b ∷ bs)) ≡ behind =
    ap (drop 8) parts ∙ ap (λ (k : ℕ). drop k (digits u 8 ++ behind)) (sym (length-digits u 8))
    ∙ drop-append_seam (digits u 8) behind in
    let sum : length (bits (b ∷ bs)) ≡ 8 + (length x + u) =
    ap length h.are ∙ length-append (digits u 8) behind
    ∙ omega (arith, length-digits u 8, length-append x (digits 0 u), length-digits 0 u) in
    let all : 8 * length (b ∷ bs) ≡ 8 + (length x + u) = sym (length-bits (b ∷ bs)) ∙ sum in
    let count : 8 * (length (b ∷ bs) - 1) - b ≡ length x = omega arith in
    let x_is : take (8 * (length (b ∷ bs) - 1) - b) (drop 8 (bits (b ∷ bs))) ≡ x =
    ap (λ (k : ℕ). take k (drop 8 (bits (b ∷ bs)))) count ∙ ap (take (length x)) rest
    ∙ take-append_seam x (digits 0 u) in
    record {
      some = omega arith;
      few = omega arith;
      is = subst (λ (l : List Bool). IsBitString l (bits (b ∷ bs))) (sym x_is) h;
    }

pub are_octets : (o : List ℕ) (s : Span) → s.at ≡ 0 → s.count ≡ 8 * length o → AreOctetsOf (bits o) s
are_octets o s at count = record { inside = omega (arith, at, count, length-bits o); whole = omega (arith, count) }

pub all_bits : (o : List ℕ) (s : Span) → s.at ≡ 0 → s.count ≡ 8 * length o → bits_of (bits o) s ≡ bits o
all_bits o s at count =
    ap (λ (k : ℕ). take s.count (drop k (bits o))) at ∙ take_all s.count (bits o) (omega (arith, count, length-bits o))

-- a part that shows a Boolean is this one
pub truth_of : (list : List Bool) (p : Part) (b : Bool) → piece_of [] list p ≡ Truth b → p ≡ part.Truth b
truth_of list part.Absent b e = cc
truth_of list part.Null b e = cc
truth_of list (part.Truth a) b e = cc
truth_of list (part.Integer n) b e = cc
truth_of list (part.Above least at count) b e = cc
truth_of list (part.Signed s) b e = cc
truth_of list (part.Enumerated i) b e = cc
truth_of list (part.UnknownEnumerated i) b e = cc
truth_of list (part.Bits s) b e = cc
truth_of list (part.BitsInFragments f) b e = cc
truth_of list (part.Octets s) b e = cc
truth_of list (part.OctetsInFragments f) b e = cc
truth_of list (part.Text text) b e = cc
truth_of list (part.Sequence count is_extended) b e = cc
truth_of list (part.Additions count) b e = cc
truth_of list (part.Count n) b e = cc
truth_of list (part.Chosen i) b e = cc
truth_of list (part.UnknownChosen i) b e = cc
truth_of list (part.Unknown s) b e = cc

-- where octets tell nothing although all values are permitted, they are the contents of none
pub nothing_told : {X : Type 0} (P : X → List Bool → Type 0) (Q : X → Type 0) (is : X → Piece) (o : List ℕ) (s : Span) (kind : FaultKind)
    → s.at ≡ 0 → s.count ≡ 8 * length o → ((x : X) → Q x)
    → IsTold P Q is [] (bits o) (bits_of (bits o) s) (Err kind) → (x : X) → P x (bits o) → ⊥
nothing_told P Q is o s kind at count any told x p =
    ⊎_elim (λ a. a.1 x (subst (λ (l : List Bool). P x l) (sym (all_bits o s at count)) p)) (λ b. b.1.2 (any b.1.0)) told
