-- What follows of a value that was compared with the default one.
use Rattle.std.proofs.Common.{◌≡◌, ℕ, ◌+◌, ◌*◌, ◌<◌, ◌≤◌, List, ◌++◌, Bool, true, false, length, refl, sym, ap, ◌∙◌, subst, inl, inr, arith, Option, Some}
use Rattle.std.specs.Prelude.{nat_le, slice_get}
use Rattle.std.proofs.lemmas.Bool.{cases_lt, leb-true}
use Rattle.asn1_bits.specs.Bits.{bits}
use Rattle.asn1_schema.specs.declared.part.Span.{Span}
use Rattle.asn1_schema.specs.PiecesOfParts.{bits_of}
use Rattle.asn1_x690_writers.specs.PutSteps.{span_length}
use Rattle.asn1_x691_fields.specs.declared.defaults.Defaults.{Defaults}
use Rattle.asn1_x691_fields.specs.Defaults.{bits_if, default_at, default_in}
use Rattle.asn1_schema.specs.declared.misfit.MisfitKind.TheVariants.{DefaultValue}
use Rattle.asn1_schema.specs.declared.tables.Presence.TheVariants as presence
use Rattle.asn1_schema.specs.Pieces.{Parts}
use Rattle.asn1_schema.specs.TypeEncodings.{TypeEncoding, Misfit}
use Rattle.asn1_x690.specs.declared.fault.FaultKind.{FaultKind}
use Rattle.asn1_x690.specs.Laws.TypeLaws.{encoding_at_good}
use Rattle.asn1_x690_fields.specs.declared.identifier.FoundIdentifier.{FoundIdentifier}
use Rattle.asn1_x691_writers.specs.declared.state.Writer.{Writer}
use Rattle.asn1_x691_writers.specs.declared.state.Rejection.TheVariants as rejection
use Rattle.asn1_x691_writers.specs.Written.{IsIndex}
use Rattle.asn1_x690_encode.specs.declared.context.Context.{Context}
use Rattle.asn1_x690_encode.specs.Compared.{IsIn, IsDefault, IsCompared}
use Rattle.asn1_x690_encode.specs.Encoding.{nodes_of, tape, tables_of, element_in, value_in, IsFilled, BeginFilled, IsStopped, IsLeft, ValueOutcome}
use Rattle.asn1_x690_encode.specs.Steps.{misfit_here}

-- a default value has as many bits as its span
sized : (b : Bool) (octets : List ℕ) (s : Span) (list : List Bool) → nat_le (s.at + s.count) (8 * length octets) ≡ b
    → bits_if b octets s ≡ Some list → length list ≡ s.count
sized false octets s list h e = absurd cc
sized true octets s list h e =
    let f : Some (bits_of (bits octets) s) ≡ Some list = e in
    let is : bits_of (bits octets) s ≡ list = cc in
    ap (λ (l : List Bool). length l) (sym is) ∙ span_length octets s (leb-true (s.at + s.count) (8 * length octets) h)

pub default_size : (d : Defaults) (value : ℕ) (s : Span) (list : List Bool) → slice_get d.spans.now value ≡ Some s
    → default_in d false value 0 ≡ Some list → length list ≡ s.count
default_size d value s list e is =
    sized (nat_le (s.at + s.count) (8 * length d.octets.now)) d.octets.now s list refl
    (subst (λ (o : Option Span). default_at d.octets.now o ≡ Some list) e is)

module _ (c : Context) where
  -- what is left by one writer is left by another that stops where it does
  pub left_same : (other new : Writer) → new.next ≡ other.next → new.node ≡ other.node → new.reason ≡ other.reason → IsLeft c other → IsLeft c new
  left_same other new next node reason u =
      let at_reason = subst (λ (r : _). IsLeft c (record other { reason = r })) (sym reason) u in
      let at_node = subst (λ (n : ℕ). IsLeft c (record other { reason = new.reason; node = n })) (sym node) at_reason in
      subst (λ (n : ℕ). IsLeft c (record other { reason = new.reason; node = new.node; next = n })) (sym next) at_node

  module _ (depth inner : ℕ) where
    abbrev P : Parts → List Bool → Type 0
    P = (element_in c depth inner).encoding.encodes

    -- parts begin with one value, which has one encoding
    pub one_value : (t xs ys rest other : Parts) (a b : List Bool) → P xs a → P ys b → t ≡ xs ++ rest → t ≡ ys ++ other
        → (xs ≡ ys) × (rest ≡ other) × (a ≡ b)
    one_value = (encoding_at_good (nodes_of c) (tables_of c) depth inner).encodes.one

    -- parts that begin with a value have no misfit
    pub no_misfit : (t xs rest : Parts) (a : List Bool) (e : Misfit) → P xs a → t ≡ xs ++ rest → (element_in c depth inner).misfit t e → ⊥
    no_misfit t xs rest a e p is m = (encoding_at_good (nodes_of c) (tables_of c) depth inner).encodes.excludes t e m xs rest a p is

  -- a value that begins with this identifier
  unfoldable pub value_filled : (V : TypeEncoding FaultKind) (was now : List ℕ) (old new : Writer) (found : FoundIdentifier)
      → ValueOutcome c V was old now new (Some found) → IsFilled c V.encoding.encodes was old now new
  value_filled V was now old new found a = record {
    parts = a.parts;
    list = a.list;
    fills = a.fills.0;
    whole = a.whole;
    grown = a.grown;
    taken = a.taken;
  }

  -- ---- a value that is encoded once more, in octets of its own

  module _ (depth inner first : ℕ) (parts rest : Parts) (list : List Bool) (was now : List ℕ) (begun copy : Writer)
      (begins_next : begun.next ≡ first) (p : (element_in c depth inner).encoding.encodes parts list)
      (is : tape c first ≡ parts ++ rest) where
    here : tape c begun.next ≡ parts ++ rest
    here = ap (λ (n : ℕ). tape c n) begins_next ∙ is

    -- where it was not encoded, it is left
    pub again_left : IsStopped c (element_in c depth inner).misfit begun copy → IsLeft c copy
    again_left (inl m) = absurd (no_misfit depth inner (tape c begun.next) parts rest list _ p here m.first)
    again_left (inr u) = u

    module _ (a : IsFilled c (element_in c depth inner).encoding.encodes was begun now copy) where
      -- it has the same bits
      pub again_same : a.list ≡ list
      again_same = (one_value depth inner (tape c begun.next) a.parts parts (tape c copy.next) rest a.list list a.fills p a.taken here).2

      -- and the same parts follow
      pub again_rest : tape c copy.next ≡ rest
      again_rest = (one_value depth inner (tape c begun.next) a.parts parts (tape c copy.next) rest a.list list a.fills p a.taken here).1

      -- where they are not all present, there are more than 504
      pub again_wide : begun.at ≡ 0 → length now ≡ 64 → (IsIn now 0 copy.at → ⊥) → 504 < length list
      again_wide begins size out =
          elim (cases_lt 504 (length list)) [
            | inl lt ↦ lt
            | inr le ↦ absurd (out (inside le (a.grown.index begun.at (inl refl))))
          ]
        where
          inside : length list ≤ 504 → IsIndex copy.at (begun.at + length a.list) → IsIn now 0 copy.at
          inside le (inl e) =
              let same = ap (λ (l : List Bool). length l) again_same in
              (omega arith, omega (arith, e, begins, same, le, size), omega (arith, e, begins, same, le))
          inside le (inr q) =
              let same = ap (λ (l : List Bool). length l) again_same in
              absurd (omega (arith, q.0, q.1, begins, same, le))

  -- ---- a value with a default

  module _ (depth node value inner : ℕ) where
    abbrev A : TypeEncoding FaultKind
    A = element_in c depth inner

    abbrev V : TypeEncoding FaultKind
    V = value_in c depth node (presence.Default value) inner

    pub other_fails : (old new : Writer) → IsStopped c A.misfit old new → IsStopped c V.misfit old new
    other_fails old new (inl m) = inl (record { kind = m.kind; reason = m.reason; first = inl m.first })
    other_fails old new (inr u) = inr u

    module _ (was now : List ℕ) (old mid : Writer) (found : FoundIdentifier) (a : ValueOutcome c A was old now mid (Some found)) where
      pub other_encoded : (IsDefault c value a.list → ⊥) → IsFilled c (BeginFilled V.encoding.encodes (Some found)) was old now mid
      other_encoded f = record {
        parts = a.parts;
        list = a.list;
        fills = ((a.fills.0, f), a.fills.1);
        whole = a.whole;
        grown = a.grown;
        taken = a.taken;
      }

      pub other_misfit : (new : Writer) → IsDefault c value a.list → new.reason ≡ rejection.Misfit DefaultValue → new.node ≡ node
          → new.next ≡ old.next → IsStopped c V.misfit old new
      other_misfit new d reason same next =
          inl (misfit_here c V.misfit old new node DefaultValue next same reason
          (inr (
            record { parts = a.parts; list = a.list; rest = tape c mid.next; encodes = a.fills.0; are = a.taken; holds = d },
            refl,
          )))

      -- it was compared in octets of its own
      pub compared_yes : (new : Writer) → new ≡ mid → IsCompared c node value old.next a.list new true
          → IsFilled c (BeginFilled V.encoding.encodes (Some found)) was old now new
      compared_yes new kept d =
          subst (λ (s : Writer). IsFilled c (BeginFilled V.encoding.encodes (Some found)) was old now s) (sym kept) (other_encoded d)

      pub compared_no : (new : Writer) → IsCompared c node value old.next a.list new false → IsStopped c V.misfit old new
      compared_no new (inl d) = other_misfit new d.3 d.0 d.1 d.2
      compared_no new (inr u) = inr u
