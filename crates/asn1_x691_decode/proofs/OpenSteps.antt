-- Steps over complete encodings and open types.
use Rattle.std.proofs.Common.{◌≡◌, ◌≢◌, ℕ, zero, suc, ◌+◌, ◌-◌, ◌%◌, ◌<◌, ◌≤◌, List, Bool, true, false, length, take, drop, refl, sym, ◌∙◌, ap, subst, arith, inl, inr, pow_pos}
use Rattle.std.proofs.lemmas.List.{drop-take}
use Rattle.asn1_bits.specs.Bits.{bits, digits, number}
use Rattle.asn1_bits.specs.Laws.NumberLaws.{number_of-digits}
use Rattle.asn1_schema.specs.declared.part.Part.{Part}
use Rattle.asn1_schema.specs.declared.part.Span.{Span}
use Rattle.asn1_schema.specs.Pieces.{Parts}
use Rattle.asn1_schema.specs.PiecesOfParts.{bits_of}
use Rattle.asn1_schema.specs.Encodings.{Contents, Starts, with_more_after, anywhere, constant}
use Rattle.asn1_schema.specs.TypeEncodings.{TypeEncoding}
use Rattle.asn1_x691.specs.declared.fault.FaultKind.{FaultKind}
use Rattle.asn1_x691.specs.Fragments.{octets}
use Rattle.asn1_x691.specs.OpenTypes.{padding_of, padding, complete, enclosing, open_type}
use Rattle.asn1_x691_fields.specs.declared.state.State.{State}
use Rattle.asn1_x691_fields.specs.Outcomes.{rest, position, fault_of, IsWithin, IsMoved, IsOnward}
use Rattle.asn1_x691_fields.specs.Steps.{rest_length, step_position, turn_starts, constant_starts}
use Rattle.asn1_x691_decode.specs.declared.context.Context.{Context}
use Rattle.asn1_schema.specs.Room.{IsGrown}
use Rattle.asn1_x691_decode.specs.Decoding.{OutcomeOfContents, IsDecoded, IsFilled, IsEnd}

-- ---- zeros at the end

pub padding_none : (n : ℕ) → n ≡ 0 → padding_of n ≡ 8
padding_none zero e = refl
padding_none (suc n) e = absurd (omega (arith, e))

pub padding_some : (n : ℕ) → 0 < n → padding_of n ≡ (8 - n % 8) % 8
padding_some zero some = absurd (omega (arith, some))
padding_some (suc n) some = refl

pub rest_taken : (list : List Bool) (s : State) (n : ℕ) → s.end ≡ s.at + n → rest list s ≡ take n (drop s.at list)
rest_taken list s n e = ap (λ (k : ℕ). drop s.at (take k list)) e ∙ drop-take s.at n list

pub all_zeros : (list : List Bool) (n width : ℕ) → digits n width ≡ list → length list ≡ width → n ≡ 0 → list ≡ digits 0 (length list)
all_zeros list n width d l z = sym d ∙ ap (λ (k : ℕ). digits k width) z ∙ ap (digits 0) (sym l)

pub not_zeros : (list : List Bool) (n : ℕ) → n ≡ number list → n ≢ 0 → list ≢ digits 0 (length list)
not_zeros list n is some e = some (is ∙ ap number e ∙ number_of-digits 0 (length list) (pow_pos (length list)))

-- ---- complete encodings

module _ (c : Context) where
  abbrev list : List Bool
  list = bits c.octets.now

  pub complete_outcome : (A : ℕ → TypeEncoding FaultKind) (node : ℕ) (old mid new : State) (was is : List Part) (r : Bool)
      → IsWithin list old → IsMoved list old mid → old.at ≡ old.first → IsDecoded c.tables.ranges.now (A (position old)).encoding.encodes list old mid was is
      → new.count ≡ mid.count → IsEnd list node mid new r → OutcomeOfContents c (complete node A) old new was is r
  complete_outcome A node old mid new was is true h g begins d same e =
      let none : position old ≡ 0 = omega (arith, begins) in
      let s = d.starts in
      let size : position mid ≡ length s.front =
      omega (arith, none, step_position list old mid h g (A (position old)).encoding.encodes d.parts s) in
      record {
        parts = d.parts;
        fills = record {
          value = (d.parts, s.front);
          after = tt;
          front = s.front;
          rest = rest list mid;
          first = (subst (λ (n : ℕ). (A n).encoding.encodes d.parts s.front) none s.encoded, refl);
          second = subst (λ (n : ℕ). (padding node n).fills tt (rest list mid)) size e;
          is = refl;
          parts = s.parts;
        };
        grown = subst (λ (n : ℕ). IsGrown c.tables.ranges.now list was old.count is n d.parts) (sym same) d.grown;
      }
  complete_outcome A node old mid new was is false h g begins d same e =
      let none : position old ≡ 0 = omega (arith, begins) in
      let s = d.starts in
      let size : position mid ≡ length s.front =
      omega (arith, none, step_position list old mid h g (A (position old)).encoding.encodes d.parts s) in
      inr (record {
        value = (d.parts, s.front);
        rest = rest list mid;
        starts = record { front = s.front; encoded = (subst (λ (n : ℕ). (A n).encoding.encodes d.parts s.front) none s.encoded, refl); parts = s.parts };
        holds = subst (λ (n : ℕ). (padding node n).fault (rest list mid) (fault_of new)) size e;
      })

  pub complete_fails : (A : ℕ → TypeEncoding FaultKind) (node : ℕ) (old new : State) → old.at ≡ old.first
      → (A (position old)).encoding.fault (rest list old) (fault_of new)
      → (complete node A).fault (rest list old) (fault_of new)
  complete_fails A node old new begins w =
      let none : position old ≡ 0 = omega (arith, begins) in
      inl (subst (λ (n : ℕ). (A n).encoding.fault (rest list old) (fault_of new)) none w)

  -- only the complete encoding differs
  -- ---- open types: `in` is the state before the contents, and `out` that after them

  module _ (A : ℕ → TypeEncoding FaultKind) (node : ℕ) (old after inside out : State) (contents : Span) (h : IsWithin list old)
      (g : IsOnward list old after) (s : Starts (octets 0 c.is_aligned node (position old)).encodes (rest list old) (bits_of list contents) (rest list after))
      (ends : after.at ≡ contents.at + contents.count) (at : inside.at ≡ contents.at) (end : inside.end ≡ contents.at + contents.count) where
    encloses : Starts (enclosing 0 c.is_aligned node (position old)).encodes (rest list old) (tt {0}, bits_of list contents) (rest list after)
    encloses =
        turn_starts list old after h g (octets 0 c.is_aligned node) (λ l u. (u, l)) (λ l. anywhere (constant (tt {0}))) (bits_of list contents) s
        (rest list after) tt (constant_starts tt (rest list after))

    the_contents : rest list inside ≡ bits_of list contents
    the_contents = ap (λ (n : ℕ). drop n (take inside.end list)) at ∙ ap (λ (n : ℕ). drop contents.at (take n list)) end
        ∙ drop-take contents.at contents.count list

    pub enclosed_starts : (parts : Parts) → (complete node A).fills parts (rest list inside)
        → Starts (open_type 0 c.is_aligned node A (position old)).encoding.encodes (rest list old) parts (rest list after)
    enclosed_starts parts f =
        let e = encloses in
        record {
          front = e.front;
          encoded = ((tt, bits_of list contents), e.encoded, subst (λ (l : List Bool). (complete node A).fills parts l) the_contents f);
          parts = e.parts;
        }

    pub enclosed_fault : (new : State) → new.at ≡ out.at → new.end ≡ after.end → new.node ≡ out.node → new.kind ≡ out.kind → out.at ≤ out.end
        → out.end ≡ inside.end → (complete node A).fault (rest list inside) (fault_of out)
        → (open_type 0 c.is_aligned node A (position old)).encoding.fault (rest list old) (fault_of new)
    enclosed_fault new a e n k few o w =
        inr (record {
          value = (tt, bits_of list contents);
          rest = rest list after;
          starts = encloses;
          holds = (
            fault_of out,
            subst (λ (l : List Bool). (complete node A).fault l (fault_of out)) the_contents w,
            farther,
          );
        })
      where
        more : new.end - new.at ≡ out.end - out.at + length (rest list after)
        more = omega (arith, rest_length list after g.inside, a, e, few, o, end, ends, g.ends)

        farther : fault_of new ≡ with_more_after (length (rest list after)) (fault_of out)
        farther = rw (more, n, k) refl

  pub contents_true : (F : Contents FaultKind Parts) (old new : State) (was is : List Part) (r : Bool) → r ≡ true
      → OutcomeOfContents c F old new was is r → IsFilled c.tables.ranges.now F.fills list old new was is
  contents_true F old new was is r e o = subst (λ (b : Bool). OutcomeOfContents c F old new was is b) e o

  pub contents_false : (F : Contents FaultKind Parts) (old new : State) (was is : List Part) (r : Bool) → r ≡ false
      → OutcomeOfContents c F old new was is r → F.fault (rest list old) (fault_of new)
  contents_false F old new was is r e o = subst (λ (b : Bool). OutcomeOfContents c F old new was is b) e o
