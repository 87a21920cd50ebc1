-- Where the fields that were read lie, and the view that is left after them.
use Rattle.std.proofs.Common.{◌≡◌, ℕ, zero, suc, ◌+◌, ◌-◌, ◌<◌, Bool, List, [], ◌∷◌, ◌++◌, length, take, refl, sym, ap, subst, ◌∙◌, arith, inl, inr, Some, slice_get}
use Rattle.std.proofs.lemmas.Bool.{cases_lt}
use Rattle.std.proofs.lemmas.List.{length-append, map-append, take_all, take-append-le}
use Rattle.std.proofs.lemmas.Option.{same_Some, slice_get_within}
use Rattle.asn1_bits.specs.View.{View, part}
use Rattle.asn1_values.specs.declared.bit_fields.field.Field.{Field}
use Rattle.asn1_values.specs.declared.bit_fields.field.Field.TheVariants as fields
use Rattle.asn1_values.specs.Fields as plain
use Rattle.asn1_values.specs.Fields.{IsSpelledBy, AreSpelledBy}
use Rattle.asn1_values.specs.Plain.{plain_field, plain_fields, LiesAt, LieFrom}
use Rattle.asn1_values.proofs.JoinedLemmas.{joins_split, one_joined, Split}

-- the view from the first bit after a list on
abbrev pub after : View → List Bool → View
after view list = part view (length list) (view.len - length list)

pub after-after : (view : View) (a b list : List Bool) → list ≡ a ++ b → after (after view a) b ≡ after view list
after-after view a b list e =
    let n : length list ≡ length a + length b = ap length e ∙ length-append a b in
    let first : view.first + length a + length b ≡ view.first + length list = omega arith in
    let len : view.len - length a - length b ≡ view.len - length list = omega arith in
    ap (λ (k : ℕ). record { storage = view.storage; first = k; len = view.len - length a - length b }) first
    ∙ ap (λ (k : ℕ). record { storage = view.storage; first = view.first + length list; len = k }) len

pub after-none : (view : View) → view ≡ after view []
after-none view =
    let first : view.first ≡ view.first + 0 = omega arith in
    let len : view.len ≡ view.len - 0 = omega arith in
    ap (λ (k : ℕ). record { storage = view.storage; first = k; len = view.len }) first
    ∙ ap (λ (k : ℕ). record { storage = view.storage; first = view.first + 0; len = k }) len

pub lie_none : (view : View) → LieFrom view []
lie_none view = record { each = λ i field front e s. absurd cc }

at_front : (fs : List Field) (field : Field) (i : ℕ) → i < length fs → slice_get (fs ++ field ∷ []) i ≡ slice_get fs i
at_front [] field i lt = absurd (omega arith)
at_front (f ∷ fs) field zero lt = refl
at_front (f ∷ fs) field (suc i) lt = at_front fs field i (omega arith)

at_end : (fs : List Field) (field : Field) (i : ℕ) → i ≡ length fs → slice_get (fs ++ field ∷ []) i ≡ Some field
at_end [] field zero e = refl
at_end [] field (suc i) e = absurd (omega arith)
at_end (f ∷ fs) field zero e = absurd (omega arith)
at_end (f ∷ fs) field (suc i) e = at_end fs field i (omega arith)

pub lie_more : (view : View) (fs : List Field) (field : Field) → LieFrom view fs
    → ((front : List Bool) → AreSpelledBy (plain_fields fs) front → LiesAt view (view.first + length front) field)
    → LieFrom view (fs ++ field ∷ [])
lie_more view fs field before at = record { each = each }
  where
    each : (i : ℕ) (other : Field) (front : List Bool) → slice_get (fs ++ field ∷ []) i ≡ Some other
        → AreSpelledBy (plain_fields (take i (fs ++ field ∷ []))) front → LiesAt view (view.first + length front) other
    each i other front e s = elim (cases_lt i (length fs)) [
      | inl lt ↦
          let cut : take i (fs ++ field ∷ []) ≡ take i fs = take-append-le i fs (field ∷ []) (omega arith) in
          before.each i other front (sym (at_front fs field i lt) ∙ e)
          (subst (λ (l : List Field). AreSpelledBy (plain_fields l) front) cut s)
      | inr le ↦
          let within = slice_get_within (fs ++ field ∷ []) i other e in
          let end : i ≡ length fs = omega (arith, length-append fs (field ∷ [])) in
          let cut : take i (fs ++ field ∷ []) ≡ fs = take-append-le i fs (field ∷ []) (omega arith)
          ∙ take_all i fs (omega arith) in
          let same : field ≡ other = same_Some field other (sym (at_end fs field i end) ∙ e) in
          subst (λ (f : Field). LiesAt view (view.first + length front) f) same
          (at front (subst (λ (l : List Field). AreSpelledBy (plain_fields l) front) cut s))
    ]

pub left_more : (view now new : View) (fs : List Field) (field : Field)
    → ((front : List Bool) → AreSpelledBy (plain_fields fs) front → now ≡ after view front)
    → ((list : List Bool) → IsSpelledBy (plain_field field) list → new ≡ after now list)
    → (front : List Bool) → AreSpelledBy (plain_fields (fs ++ field ∷ [])) front → new ≡ after view front
left_more view now new fs field before one front s =
    let t : AreSpelledBy (plain_fields fs ++ plain_field field ∷ []) front =
    subst (λ (l : List plain.Field). AreSpelledBy l front) (map-append plain_field fs (field ∷ [])) s in
    let p : Split IsSpelledBy (plain_fields fs) (plain_field field ∷ []) front =
    joins_split IsSpelledBy (plain_fields fs) (plain_field field ∷ []) front t in
    one p.back (one_joined IsSpelledBy (plain_field field) p.back p.of_back)
    ∙ ap (λ (v : View). after v p.back) (before p.front p.of_front)
    ∙ after-after view p.front p.back front p.parts

-- a field lies where the view that was left begins
pub lies_there : (view now : View) (front : List Bool) (field : Field) → now ≡ after view front
    → LiesAt now now.first field → LiesAt view (view.first + length front) field
lies_there view now front (fields.Number value width) e at = tt
lies_there view now front (fields.Octets octets) e at =
    subst (λ (v : View). LiesAt v v.first (fields.Octets octets)) e at
lies_there view now front (fields.Bits b) e at = subst (λ (v : View). LiesAt v v.first (fields.Bits b)) e at
lies_there view now front (fields.Integer n) e at = tt
lies_there view now front (fields.Character c alphabet) e at = tt
lies_there view now front (fields.CountedInteger n) e at = tt
lies_there view now front (fields.Oid arcs) e at = tt
