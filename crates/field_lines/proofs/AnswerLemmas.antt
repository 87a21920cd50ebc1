-- Answers that are made: what they show, and that there is no other.
use Rattle.std.proofs.Common.{◌≡◌, ◌≢◌, inl, inr, ℕ, Bool, List, length, drop, codes, Result, Ok, Err, IfOk, String, Global, string_bytes, refl, sym, subst, ◌∙◌, ◌≤◌, arith, ap}
use Rattle.std.specs.declared.alloc.AllocError.{AllocError}
use Rattle.asn1_values.specs.declared.bit_fields.error.ReadError.{ReadError}
use Rattle.asn1_values.specs.declared.bit_fields.error.ReadError.TheVariants.{Memory}
use Rattle.asn1_values.specs.Fields.{Field, Shape, Begins}
use Rattle.asn1_values.specs.Refusals.{IsReadRefusal}
use Rattle.asn1_values.specs.Words.{bits}
use Rattle.hex.specs.Hex.{decode_of}
use Rattle.field_lines.specs.declared.answer.Answer as made
use Rattle.field_lines.specs.Input.{Lines, AreLines, AreWords}
use Rattle.field_lines.specs.Output.{line}
use Rattle.field_lines.specs.Answer.{Answer, IsPrinted, IsBitsAnswer, IsStart, IsStartAnswer, IsOctetsAnswer, IsShapesAnswer, IsAnswer, IsOnly, OrElse, answer_in}
use Rattle.field_lines.proofs.OneLemmas.{one_input, one_words, one_decoded, one_start, only_next, only_none}

-- the same text, encoded otherwise
pub same_text : (r : Result (String Global) AllocError) (a b : List ℕ) → IfOk r (λ text. string_bytes text ≡ a) → a ≡ b
    → IfOk r (λ text. string_bytes text ≡ b)
same_text (Ok text) a b h e = h ∙ e
same_text (Err error) a b h e = tt

-- what holds of the one line holds of the answer with it
pub refused_by : (r : Result made.Answer AllocError) (text : List ℕ) (Q : Answer → Type 0)
    → IfOk r (λ answer. answer_in answer ≡ record { text = line text; status = 1 })
    → Q (record { text = line text; status = 1 }) → IfOk r (λ answer. Q (answer_in answer))
refused_by (Ok answer) text Q h q = subst Q (sym h) q
refused_by (Err error) text Q h q = tt

pub goes_on : (r : Result made.Answer AllocError) (P Q : Answer → Type 0) → IfOk r (λ answer. P (answer_in answer))
    → ((answer : Answer) → P answer → Q answer) → IfOk r (λ answer. Q (answer_in answer))
goes_on (Ok answer) P Q h more = more (answer_in answer) h
goes_on (Err error) P Q h more = tt

-- ---- fields

module _ (list : List Bool) (shapes : List Shape) (fields : List Field) (rest : List Bool)
    (only : (others : List Field) (left : List Bool) → Begins list shapes others left → (fields ≡ others)
    × (rest ≡ left))
    (none : (e : ReadError) → e ≢ Memory → IsReadRefusal list shapes e → ⊥) where
  other_is : (answer other : Answer) → ((x : Answer) → IsPrinted fields (length rest) x → x ≡ answer)
      → IsBitsAnswer list shapes other → other ≡ answer
  other_is answer other one (inl h) =
      let same = only h.0 h.1 h.2 in
      one other
      (subst (λ (f : List Field). IsPrinted f (length rest) other) (sym same.0)
      (subst (λ (l : List Bool). IsPrinted h.0 (length l) other) (sym same.1) h.3))
  other_is answer other one (inr h) = absurd (none h.0 h.1 h.2)

  pub fields_only : (left : ℕ) (answer : Answer) → Begins list shapes fields rest → left ≡ length rest
      → IsOnly (IsPrinted fields left) answer → IsOnly (IsBitsAnswer list shapes) answer
  fields_only left answer begins is p =
      let one = subst (λ (n : ℕ). IsOnly (IsPrinted fields n) answer) is p in
      (inl (fields, rest, begins, one.0), λ other h. other_is answer other one.1 h)

-- ---- the lines

abbrev refusal : List ℕ → Answer
refusal text = record { text = line text; status = 1 }

pub bad_input : (text : List ℕ) → ((lines : Lines) → ¬ (AreLines text lines))
    → IsOnly (IsAnswer text) (refusal (codes "bad input"))
bad_input text none =
    (inr (none, refl), λ other h. only_none (AreLines text) (codes "bad input") IsShapesAnswer other none h)

-- the three lines are known
module _ (text : List ℕ) (lines : Lines) (are : AreLines text lines) where
  by_lines : (other : Answer) → IsAnswer text other → IsShapesAnswer lines other
  by_lines other h =
      only_next (AreLines text) (codes "bad input") IsShapesAnswer lines other (λ y k. one_input text y lines k are) are
      h

  pub bad_shapes : ((shapes : List Shape) → ¬ (AreWords lines.shapes shapes))
      → IsOnly (IsAnswer text) (refusal (codes "bad shapes"))
  bad_shapes none = (
    inl (lines, are, inr (none, refl)),
    λ other h. only_none (AreWords lines.shapes) (codes "bad shapes")
        (IsOctetsAnswer lines) other none (by_lines other h),
  )

-- and so are the shapes
module _ (text : List ℕ) (lines : Lines) (are : AreLines text lines) (shapes : List Shape)
    (words : AreWords lines.shapes shapes) where
  by_shapes : (other : Answer) → IsAnswer text other → IsOctetsAnswer lines shapes other
  by_shapes other h =
      only_next (AreWords lines.shapes) (codes "bad shapes") (IsOctetsAnswer lines) shapes other
      (λ y k. one_words lines.shapes y shapes k words) words (by_lines text lines are other h)

  pub bad_octets : ((octets : List ℕ) → ¬ (decode_of lines.octets ≡ Ok octets))
      → IsOnly (IsAnswer text) (refusal (codes "bad octets"))
  bad_octets none = (
    inl (lines, are, inl (shapes, words, inr (none, refl))),
    λ other h. only_none
        (λ octets. decode_of lines.octets ≡ Ok octets) (codes "bad octets") (IsStartAnswer lines shapes) other none
        (by_shapes other h),
  )

-- and so are the octets
module _ (text : List ℕ) (lines : Lines) (are : AreLines text lines) (shapes : List Shape)
    (words : AreWords lines.shapes shapes) (octets : List ℕ) (decoded : decode_of lines.octets ≡ Ok octets) where
  by_octets : (other : Answer) → IsAnswer text other → IsStartAnswer lines shapes octets other
  by_octets other h =
      only_next (λ x. decode_of lines.octets ≡ Ok x) (codes "bad octets") (IsStartAnswer lines shapes) octets other
      (λ y k. one_decoded lines.octets octets y decoded k) decoded (by_shapes text lines are shapes words other h)

  pub bad_start : ((first : ℕ) → ¬ (IsStart lines.start octets first))
      → IsOnly (IsAnswer text) (refusal (codes "bad start"))
  bad_start none = (
    inl (lines, are, inl (shapes, words, inl (octets, decoded, inr (none, refl)))),
    λ other h. only_none (IsStart lines.start octets) (codes "bad start")
        (λ first. IsBitsAnswer (drop first (bits octets)) shapes) other none (by_octets other h),
  )

  pub on_bits : (first : ℕ) (answer : Answer) → IsStart lines.start octets first
      → IsOnly (IsBitsAnswer (drop first (bits octets)) shapes) answer → IsOnly (IsAnswer text) answer
  on_bits first answer start is = (
    inl (lines, are, inl (shapes, words, inl (octets, decoded, inl (first, start, is.0)))),
    λ other h. is.1 other (only_next (IsStart lines.start octets) (codes "bad start")
        (λ x. IsBitsAnswer (drop x (bits octets)) shapes) first other
        (λ y k. one_start lines.start octets first y start k) start (by_octets other h)),
  )

-- ---- the status

step_bit : {X : Type 0} (IsRight : X → Type 0) (text : List ℕ) (Next : X → Answer → Type 0) (answer : Answer)
    → ((x : X) → Next x answer → answer.status ≤ 1) → OrElse IsRight text Next answer → answer.status ≤ 1
step_bit IsRight text Next answer more (inl h) = more h.0 h.2
step_bit IsRight text Next answer more (inr h) = omega (arith, ap (λ (a : Answer). a.status) h.1)

bits_bit : (list : List Bool) (shapes : List Shape) (answer : Answer) → IsBitsAnswer list shapes answer
    → answer.status ≤ 1
bits_bit list shapes answer (inl h) = let p = h.3 in omega (arith, ap (λ (a : Answer). a.status) p.4)
bits_bit list shapes answer (inr h) = omega (arith, ap (λ (a : Answer). a.status) h.3)

pub answer_bit : (text : List ℕ) (answer : Answer) → IsAnswer text answer → answer.status ≤ 1
answer_bit text answer =
    step_bit (AreLines text) (codes "bad input") IsShapesAnswer answer
    (λ lines. step_bit (AreWords lines.shapes) (codes "bad shapes") (IsOctetsAnswer lines) answer
    (λ shapes. step_bit (λ octets. decode_of lines.octets ≡ Ok octets) (codes "bad octets") (IsStartAnswer lines shapes)
    answer
    (λ octets. step_bit (IsStart lines.start octets) (codes "bad start")
    (λ first. IsBitsAnswer (drop first (bits octets)) shapes) answer
    (λ first. bits_bit (drop first (bits octets)) shapes answer))))
