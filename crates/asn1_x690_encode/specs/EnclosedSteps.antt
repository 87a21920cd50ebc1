-- What follows of contents that were encoded after their identifier.
use Rattle.std.proofs.Common.{◌≡◌, ℕ, suc, ◌+◌, ◌-◌, ◌*◌, ◌/◌, ◌%◌, ◌^◌, ◌<◌, ◌≤◌, List, [], ◌∷◌, ◌++◌, Bool, length, take, drop, refl, sym, ap, ◌∙◌, subst, inl, inr, arith}
use Rattle.std.specs.Prelude.{◌⊎◌, Option, Some, None}
use Rattle.std.proofs.Math.Seq.{drop-append_seam}
use Rattle.std.proofs.lemmas.List.{length-append, length-take-le, drop-take}
use Rattle.asn1_bits.specs.Bits.{bits}
use Rattle.asn1_bits.specs.Laws.DigitLaws.{length-bits}
use Rattle.asn1_x690.specs.declared.tables.Identifier.{Identifier}
use Rattle.asn1_x690.specs.Elements.{identifier}
use Rattle.asn1_x690.specs.TypeContents.{TypeContents}
use Rattle.asn1_x690.specs.declared.fault.FaultKind.{FaultKind}
use Rattle.asn1_x690_fields.specs.declared.identifier.FoundIdentifier.{FoundIdentifier}
use Rattle.asn1_x690_fields.specs.Outcomes.{IsIdentifier}
use Rattle.asn1_x690_writers.specs.Written.{IsWritten, AreNotCut, HaveBits, IsLengthBefore}
use Rattle.asn1_x691_writers.specs.declared.state.Writer.{Writer}
use Rattle.asn1_x691_writers.specs.declared.state.Rejection.TheVariants as rejection
use Rattle.asn1_x691_writers.specs.GrownSteps.{grown_both, index_least}
use Rattle.asn1_x691_writers.specs.TailSteps.{tail_grown}
use Rattle.asn1_x691_writers.specs.Written.{IsIndex, Holds, IsGrown}
use Rattle.asn1_x690_encode.specs.declared.context.Context.{Context}
use Rattle.asn1_x690_encode.specs.declared.inner.Inner.{Inner}
use Rattle.asn1_x690_encode.specs.Encoding.{tape, inner_in, enclosed_in, BodyOutcome, IsBody, IsFilled, IsElementOf, IsInnerOf, IsLong, IsStopped}

-- ---- from the first octet on

empty : (list : List Bool) → length list ≡ 0 → list ≡ []
empty [] e = refl
empty (b ∷ list) e = absurd (let z : suc (length list) ≡ 0 = e in omega (arith, z))

none : (n : ℕ) → IsIndex 0 n → n ≡ 0
none n (inl e) = sym e
none n (inr p) = absurd (omega (arith, p.0))

pub grown_first : (was now : List ℕ) (new : ℕ) (more : List Bool) → IsIndex new (length more) → HaveBits now 0 more → IsGrown was 0 now new more
grown_first was now new more index have = record {
  held = λ list h.
      subst (λ (l : List Bool). Holds now new (l ++ more)) (sym (empty list (none (length list) h.index)))
      (record { index = index; kept = λ le. have (omega (arith, le)) });
  index = λ n h.
      let e : length more ≡ n + length more = omega (arith, none n h) in
      subst (λ (k : ℕ). IsIndex new k) e index;
}

-- the bits from an index on
have_from : (was now : List ℕ) (at new : ℕ) (contents : List Bool) → IsGrown was at now new contents → length now ≡ length was
    → HaveBits now at contents
have_from was now at new contents g same le =
    let front = take at (bits was) in
    let size : length front ≡ at = length-take-le at (bits was) (omega (arith, le, same, length-bits was)) in
    let held : Holds was at front =
    record { index = inl (sym size); kept = λ q. ap (λ (n : ℕ). take n (bits was)) size } in
    let n = length contents in
    let e : length (front ++ contents) ≡ at + n = omega (arith, size, length-append front contents) in
    let kept = (g.held front held).kept (omega (arith, e, le)) in
    sym (drop-take at n (bits now))
    ∙ ap (λ (k : ℕ). drop at (take k (bits now))) (sym e)
    ∙ ap (λ (l : List Bool). drop at l) kept
    ∙ ap (λ (k : ℕ). drop k (front ++ contents)) (sym size)
    ∙ drop-append_seam front contents

-- ---- contents after the octets that were reserved for their length

module _ (c : Context) (depth node : ℕ) (inner : Inner) (old : Writer) (was now : List ℕ) (new : Writer) (reserved count : ℕ)
    (e : IsFilled c (inner_in c depth node inner).contents.fills was (record old { at = 8 * reserved }) now new) (most : reserved ≤ 9)
    (bits_of : count ≡ new.at - 8 * reserved) where
  index : IsIndex new.at (8 * reserved + length e.list)
  index = e.grown.index (8 * reserved) (inl refl)

  -- they are too long
  pub body_long : (last : Writer) → 2 ^ 64 - 136 ≤ count → last.next ≡ old.next → last.node ≡ node → last.reason ≡ rejection.Unsupported
      → IsInnerOf c node inner → IsStopped c (inner_in c depth node inner).misfit old last
  body_long last many next same reason type =
      let least = index_least new.at (8 * reserved + length e.list) index in
      inr (inl (
        reason,
        inr (subst (λ (n : ℕ). IsLong c n last.next) (sym same) (record {
          depth = depth;
          inner = inner;
          type = type;
          parts = e.parts;
          list = e.list;
          rest = tape c new.next;
          fills = e.fills;
          are = ap (λ (i : ℕ). tape c i) next ∙ e.taken;
          many = omega (arith, least, many, bits_of);
        })),
      ))

  module _ (few : count < 2 ^ 64 - 136) where
    pub counted : length e.list ≡ count
    counted = of index
      where
        of : IsIndex new.at (8 * reserved + length e.list) → length e.list ≡ count
        of (inl i) = omega (arith, i, bits_of)
        of (inr p) = absurd (omega (arith, p.0, few, most, bits_of))

    octets_of : length e.list ≡ 8 * (count / 8)
    octets_of = omega (arith, counted, e.whole)

    -- their length was written before them
    pub body_done : (last : List ℕ) (width : ℕ) → length now ≡ length was → width % 8 ≡ 0
        → ((contents : List Bool) → length contents ≡ 8 * (count / 8) → HaveBits now (8 * reserved) contents → AreNotCut now reserved (count / 8) width
        → IsLengthBefore contents (count / 8) last width)
        → (width / 8 + count / 8 ≤ length now → reserved + count / 8 ≤ length now)
        → IsBody c (inner_in c depth node inner) old last new (width + count)
    body_done last width same octets put whole = record {
      parts = e.parts;
      contents = e.list;
      width = width;
      fills = e.fills;
      whole = e.whole;
      octets = octets;
      before = subst (λ (n : ℕ). IsLengthBefore e.list n last width) (omega (arith, octets_of))
          (put e.list octets_of (have_from was now (8 * reserved) new.at e.list e.grown same) (λ le. whole (omega (arith, le, octets))));
      are = omega (arith, counted);
      taken = e.taken;
    }

-- a call that begins with the same part
pub body_here : (c : Context) (F : TypeContents FaultKind) (old begun : Writer) (now : List ℕ) (new : Writer) (r : Option ℕ)
    → begun.next ≡ old.next → BodyOutcome c F begun now new r → BodyOutcome c F old now new r
body_here c F old begun now new (Some size) e b = record {
  parts = b.parts;
  contents = b.contents;
  width = b.width;
  fills = b.fills;
  whole = b.whole;
  octets = b.octets;
  before = b.before;
  are = b.are;
  taken = ap (λ (n : ℕ). tape c n) (sym e) ∙ b.taken;
}
body_here c F old begun now new None e (inl m) = inl (record {
  kind = m.kind;
  reason = m.reason;
  first = subst (λ (n : ℕ). F.misfit (tape c n) (record { node = new.node; left = length (tape c new.next); kind = m.kind })) e m.first;
})
body_here c F old begun now new None e (inr u) = inr u

-- ---- an element

module _ (c : Context) (depth node : ℕ) (inner : Inner) (old : Writer) (tail last : List ℕ) (new : Writer) (size : ℕ)
    (e : IsBody c (inner_in c depth node inner) old last new size) (id : Identifier) (found : FoundIdentifier) (was front : List ℕ)
    (start at : ℕ) (shown : IsIdentifier found id) (ids : IsWritten identifier id was old.at (front ++ tail) start)
    (few : 8 * length (front ++ tail) < 2 ^ 64) (whole : start % 8 ≡ 0)
    (inside : (length front ≡ start / 8) ⊎ (length (front ++ tail) < start / 8)) (same : length last ≡ length tail)
    (on : (n : ℕ) → IsIndex start n → IsIndex at (n + size)) where
  abbrev more : List Bool
  more = e.before.list ++ e.contents

  more_size : length more ≡ size
  more_size = omega (arith, e.are, e.before.size, length-append e.before.list e.contents)

  grown : IsGrown (front ++ tail) start (front ++ last) at more
  grown =
      tail_grown front tail last (start / 8) 0 start (length more) at more few same (omega (arith, whole))
      (grown_first tail last (length more) more (inl refl) e.before.have)
      (λ n h. subst (λ (k : ℕ). IsIndex at (n + k)) (sym more_size) (on n h)) inside

  pub enclosed_done : IsFilled c (IsElementOf (enclosed_in c depth node id inner) found) was old (front ++ last) (record new { at = at })
  enclosed_done = record {
    parts = e.parts;
    list = ids.list ++ more;
    fills = record {
      id = id;
      shown = shown;
      contents = e.contents;
      fills = inl (refl, e.fills);
      encodes = λ n. record {
        value = id;
        after = e.contents;
        front = ids.list;
        rest = more;
        first = ids.encodes n;
        second = record {
          value = length e.contents / 8;
          after = e.contents;
          front = e.before.list;
          rest = e.contents;
          first = e.before.encodes n;
          second = (omega (arith, e.whole), refl);
          is = refl;
          parts = refl;
        };
        is = refl;
        parts = refl;
      };
    };
    whole = omega (arith, length-append ids.list more, more_size, ids.whole, e.octets, e.are, e.whole);
    grown = grown_both was (front ++ tail) (front ++ last) old.at start at ids.list more ids.grown grown;
    taken = e.taken;
  }
