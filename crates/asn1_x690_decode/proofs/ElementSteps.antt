-- Steps over an element: its header, and its contents octets.
use Rattle.std.proofs.Common.{◌≡◌, ℕ, ◌+◌, ◌-◌, ◌≤◌, List, [], ◌∷◌, ◌++◌, Bool, true, false, length, take, drop, refl, sym, ◌∙◌, ap, subst, arith, inr}
use Rattle.std.proofs.lemmas.List.{drop-take}
use Rattle.asn1_bits.specs.Bits.{bits}
use Rattle.asn1_schema.specs.declared.part.Part.{Part}
use Rattle.asn1_schema.specs.Pieces.{Piece, Parts}
use Rattle.asn1_schema.specs.PiecesOfParts.{bits_at}
use Rattle.asn1_schema.specs.Room.{IsGrown}
use Rattle.asn1_schema.specs.Encodings.{Contents, Starts, within}
use Rattle.asn1_x690.specs.declared.fault.FaultKind.{FaultKind}
use Rattle.asn1_x690.specs.declared.tables.Identifier.{Identifier}
use Rattle.asn1_x690.specs.Elements.{any_element}
use Rattle.asn1_x690.specs.Der.{element, any_value}
use Rattle.asn1_x690.specs.TypeContents.{ByHeader}
use Rattle.asn1_x690.specs.Laws.WholeLaws.{contents_are_whole}
use Rattle.asn1_x690_fields.specs.declared.state.State.{State}
use Rattle.asn1_x690_fields.specs.declared.header.Header.{Header}
use Rattle.asn1_x690_fields.specs.Outcomes.{rest, fault_of, IsOnward, IsHeader}
use Rattle.asn1_x690_fields.specs.Steps.{rest_length}
use Rattle.asn1_x690_decode.specs.declared.context.Context.{Context}
use Rattle.asn1_x690_decode.specs.Decoding.{IsMoved, IsFound, AreContents, IsInside, ElementOutcome, ContentsOutcome}
use Rattle.asn1_x690_decode.proofs.StateSteps.{front_is, onward_moved, same_rest}

pub inner_rest : (list : List Bool) (from to : ℕ) → from ≤ to → drop from (take to list) ≡ bits_at list from (to - from)
inner_rest list from to le =
    let e : to ≡ from + (to - from) = omega (arith, le) in
    ap (λ (n : ℕ). drop from (take n list)) e ∙ drop-take from (to - from) list

-- a header that was read, from one state to another; the state `first` is at the contents octets
module _ (list : List Bool) (node : ℕ) (old mid first : State) (h : Header) (v : Identifier × List Bool) (is : IsHeader list h v)
    (s : Starts (any_element node).encodes (rest list old) v (rest list mid)) (g : IsOnward list old mid) (order : h.from ≤ h.to)
    (to : h.to ≡ mid.at) (at : first.at ≡ h.from) (end : first.end ≡ h.to) where
  contents_are : v.1 ≡ rest list first
  contents_are =
      is.contents
      ∙ sym (ap (λ (n : ℕ). drop n (take first.end list)) at ∙ ap (λ (n : ℕ). drop h.from (take n list)) end ∙ inner_rest list h.from h.to order)

  inside : h.to ≤ length list
  inside = let a = g.ends in let b = g.inside in omega (arith, a, b, to)

  pub are_contents : AreContents list first
  are_contents =
      let whole = contents_are_whole node v s.front s.encoded in
      let size : length v.1 ≡ length (rest list first) = ap length contents_are in
      let few : first.end ≤ length list = (let i = inside in omega (arith, i, end)) in
      let left = rest_length list first few in
      record {
        ends = omega (arith, at, end, order);
        inside = few;
        whole = (let e : first.end - first.at ≡ length v.1 = sym left ∙ sym size in omega (arith, e, whole));
      }

  pub is_inside : IsInside list old.at h.identifier v.0 first
  is_inside =
      let front = front_is (any_element node).encodes list old mid v (onward_moved list old mid g) s in
      record {
        shown = is.identifier;
        encodes = subst (λ (l : List Bool). (any_element node).encodes (v.0, rest list first) l)
            (front ∙ ap (λ (n : ℕ). bits_at list old.at (n - old.at)) (sym to ∙ sym end))
            (subst (λ (l : List Bool). (any_element node).encodes (v.0, l) s.front) contents_are s.encoded);
      }

  -- the state after the contents octets, back in what is around them
  module _ (F : Identifier → Contents FaultKind Parts) (last new : State) where
    pub element_starts : (xs : Parts) → (F v.0).fills xs (rest list first) → new.at ≡ h.to → new.end ≡ old.end
        → Starts (within (any_element node) F).encodes (rest list old) xs (rest list new)
    element_starts xs p at' end' =
        let same : rest list new ≡ rest list mid = same_rest list mid new (at' ∙ to) (end' ∙ sym g.same_end) in
        record {
          front = s.front;
          encoded = (v, s.encoded, subst (λ (l : List Bool). (F v.0).fills xs l) (sym contents_are) p);
          parts = s.parts ∙ ap (λ (l : List Bool). s.front ++ l) (sym same);
        }

    pub element_fault : (F v.0).fault (rest list first) (fault_of last) → IsMoved list first last → new.at ≡ last.at → new.end ≡ old.end
        → new.node ≡ last.node → new.kind ≡ last.kind → (within (any_element node) F).fault (rest list old) (fault_of new)
    element_fault w m at' end' node' kind' =
        let size = rest_length list mid g.inside in
        let a = m.ends in
        let b = m.same_end in
        let same = g.same_end in
        let e : new.end - new.at ≡ last.end - last.at + length (rest list mid) =
        (let on = g.ends in omega (arith, at', end', a, b, same, size, to, end, on)) in
        inr (record {
          value = v;
          rest = rest list mid;
          starts = s;
          holds = (
            fault_of last,
            subst (λ (l : List Bool). (F v.0).fault l (fault_of last)) (sym contents_are) w,
            rw (e, node', kind') refl,
          );
        })

-- an element that is kept
abbrev pub kept_starts : (is : List Bool → Piece) (node : ℕ) (list others : List Bool) (v : Identifier × List Bool)
    (s : Starts (any_element node).encodes list v others)
    → Starts (element node (any_value is node)).encoding.encodes list (is s.front ∷ []) others
kept_starts is node list others v s =
    record { front = s.front; encoded = (v, s.encoded, (s.front, s.encoded, refl)); parts = s.parts }

-- what was decoded of the contents octets is decoded of the element
module _ (c : Context) (node : ℕ) (old mid first : State) (h : Header) (v : Identifier × List Bool)
    (is : IsHeader (bits c.octets.now) h v) (s : Starts (any_element node).encodes (rest (bits c.octets.now) old) v (rest (bits c.octets.now) mid))
    (g : IsOnward (bits c.octets.now) old mid) (order : h.from ≤ h.to) (to : h.to ≡ mid.at) (at : first.at ≡ h.from) (end : first.end ≡ h.to)
    (count : first.count ≡ mid.count) (F : Identifier → Contents FaultKind Parts) (last new : State) (at' : new.at ≡ last.at)
    (end' : new.end ≡ old.end) (count' : new.count ≡ last.count) (node' : new.node ≡ last.node) (kind' : new.kind ≡ last.kind)
    (m : IsMoved (bits c.octets.now) first last) where
  pub element_outcome : (was is : List Part) (r : Bool) → (r ≡ true → last.at ≡ first.end) → ContentsOutcome c (F v.0) first last was is r
      → ElementOutcome c (within (any_element node) F) old new was is r
  element_outcome was now true all o = record {
    parts = o.parts;
    are = element_starts (bits c.octets.now) node old mid first h v is s g order to at end F last new o.parts o.are
        (at' ∙ all refl ∙ end) end';
    grown = subst (λ (n : ℕ). IsGrown c.tables.ranges.now (bits c.octets.now) was n now new.count o.parts) (count ∙ g.same_count)
        (subst (λ (n : ℕ). IsGrown c.tables.ranges.now (bits c.octets.now) was first.count now n o.parts) (sym count') o.grown);
  }
  element_outcome was now false all o =
      element_fault (bits c.octets.now) node old mid first h v is s g order to at end F last new o m at' end' node' kind'

module _ (c : Context) (node : ℕ) (B : ByHeader FaultKind Identifier) (old new : State) (was now : List Part) (r : Bool) where
  pub element_fails : r ≡ false → ElementOutcome c (element node B).encoding old new was now r
      → (element node B).encoding.fault (rest (bits c.octets.now) old) (fault_of new)
  element_fails e o = subst (λ (b : Bool). ElementOutcome c (element node B).encoding old new was now b) e o

  pub element_found : r ≡ true → ElementOutcome c (element node B).encoding old new was now r
      → IsFound c.tables.ranges.now (λ l xs others. Starts (element node B).encoding.encodes l xs others) (bits c.octets.now) old new was now
  element_found e o = subst (λ (b : Bool). ElementOutcome c (element node B).encoding old new was now b) e o
