-- What follows of an element that was copied.
use Rattle.std.proofs.Common.{◌≡◌, ℕ, ◌+◌, ◌-◌, ◌*◌, ◌%◌, ◌<◌, ◌≤◌, List, [], ◌∷◌, ◌++◌, Bool, length, take, drop, refl, sym, ap, ◌∙◌, subst, inl, inr, arith}
use Rattle.std.specs.Prelude.{◌⊎◌}
use Rattle.std.proofs.lemmas.List.{length-append, length-drop, length-take-le, drop-take, drop_all, append-nil}
use Rattle.asn1_bits.specs.Laws.DigitLaws.{length-digits}
use Rattle.asn1_schema.specs.declared.misfit.MisfitKind.TheVariants.{NoEncoding}
use Rattle.asn1_schema.specs.declared.part.Span.{Span}
use Rattle.asn1_schema.specs.Encodings.{Fault, Starts, IsNumber}
use Rattle.asn1_schema.specs.Pieces.{Parts}
use Rattle.asn1_schema.specs.PiecesOfParts.{bits_of}
use Rattle.asn1_x690.specs.declared.fault.FaultKind.{FaultKind}
use Rattle.asn1_x690.specs.declared.tables.Identifier.{Identifier}
use Rattle.asn1_x690.specs.Der.{any_value}
use Rattle.asn1_x690.specs.Elements.{IsLongNumber, IsLongLength, number_after, identifier, long_length, length_after, contents_after, any_element}
use Rattle.asn1_x690.specs.Laws.ElementLaws.{any_element_sound}
use Rattle.asn1_x690.specs.Series.{IsSeries}
use Rattle.asn1_x690_fields.specs.declared.identifier.FoundIdentifier.{FoundIdentifier}
use Rattle.asn1_x690_fields.specs.declared.header.Header.{Header}
use Rattle.asn1_x690_fields.specs.declared.state.State.{State}
use Rattle.asn1_x690_fields.specs.Outcomes.{rest, IsHeader, IsOnward}
use Rattle.asn1_x691_writers.specs.declared.state.Writer.{Writer}
use Rattle.asn1_x691_writers.specs.declared.state.Rejection.TheVariants as rejection
use Rattle.asn1_x691_writers.specs.Written.{IsGrown}
use Rattle.asn1_x690_encode.specs.declared.any.AnyPart.{AnyPart}
use Rattle.asn1_x690_encode.specs.declared.context.Context.{Context}
use Rattle.asn1_x690_encode.specs.Any.{piece_by, IsNoElement, IsOneElement}
use Rattle.asn1_x690_encode.specs.Encoding.{tape, IsFilled, IsElementOf, IsStopped}
use Rattle.asn1_x690_encode.specs.Steps.{misfit_here}

-- ---- an element is whole octets

series_whole : (xs : List ℕ) (list : List Bool) → IsSeries (IsNumber 8) (λ octet. 128 ≤ octet) (λ octet. octet < 128) xs list
    → length list % 8 ≡ 0
series_whole [] list p = absurd p
series_whole (x ∷ xs) list (inl p) = let e = ap length p.1.1 in omega (arith, e, length-digits x 8)
series_whole (x ∷ xs) list (inr (more, p)) =
    let h = series_whole xs p.1 p.3 in
    let a : length p.0 ≡ 8 = ap length p.2.1 ∙ length-digits x 8 in
    let b : length list ≡ length p.0 + length p.1 = ap length p.4 ∙ length-append p.0 p.1 in
    omega (arith, h, a, b)

-- a value of no bits, or none
no_bits : (C : Type 0) (n m : ℕ) (list : List Bool) → ((C × ((n ≡ m) × (list ≡ []))) ⊎ ((C → ⊥) × ⊥)) → length list ≡ 0
no_bits C n m list (inl q) = ap length q.1.1
no_bits C n m list (inr q) = absurd q.1

number_whole : (node first n : ℕ) (list : List Bool) → (number_after node first).encodes n list → length list % 8 ≡ 0
number_whole node first n list (inl p) = let e : length list ≡ 0 = ap length p.1.1 in omega (arith, e)
number_whole node first n list (inr (is, p)) =
    let h = series_whole p.value p.front p.first in
    let a : length list ≡ length p.front + length p.rest = ap length p.parts ∙ length-append p.front p.rest in
    let b = no_bits (IsLongNumber p.value) p.after _ p.rest p.second in
    omega (arith, h, a, b)

identifier_whole : (node : ℕ) (id : Identifier) (list : List Bool) → (identifier node).encodes id list → length list % 8 ≡ 0
identifier_whole node id list p =
    let a : length list ≡ length p.front + length p.rest = ap length p.parts ∙ length-append p.front p.rest in
    let b : length p.front ≡ 8 = ap length p.first.1 ∙ length-digits p.value 8 in
    let h = number_whole node p.value p.after p.rest p.second in
    omega (arith, a, b, h)

long_whole : (node octets n : ℕ) (list : List Bool) → (long_length node octets).encodes n list → length list % 8 ≡ 0
long_whole node octets n list p =
    let a : length list ≡ length p.front + length p.rest = ap length p.parts ∙ length-append p.front p.rest in
    let b : length p.front ≡ 8 * octets = ap length p.first.1 ∙ length-digits p.value (8 * octets) in
    let h = no_bits (IsLongLength octets p.value) p.after p.value p.rest p.second in
    omega (arith, a, b, h)

after_whole : (node first n : ℕ) (list : List Bool) → (length_after node first).encodes n list → length list % 8 ≡ 0
after_whole node first n list (inl p) = let e : length list ≡ 0 = ap length p.1.1 in omega (arith, e)
after_whole node first n list (inr (a, inl p)) = absurd p.1
after_whole node first n list (inr (a, inr (b, inl p))) = absurd p.1
after_whole node first n list (inr (a, inr (b, inr (d, p)))) = long_whole node (first - 128) n list p

contents_whole : (node : ℕ) (contents list : List Bool) → (contents_after node).encodes contents list → length list % 8 ≡ 0
contents_whole node contents list p =
    let a : length list ≡ length p.front + length p.rest = ap length p.parts ∙ length-append p.front p.rest in
    let q = p.first in
    let b : length p.front ≡ length q.front + length q.rest = ap length q.parts ∙ length-append q.front q.rest in
    let d : length q.front ≡ 8 = ap length q.first.1 ∙ length-digits q.value 8 in
    let h = after_whole node q.value q.after q.rest q.second in
    let e : length p.rest ≡ 8 * p.value = p.second.0 in
    omega (arith, a, b, d, h, e)

pub element_whole : (node : ℕ) (v : Identifier × List Bool) (list : List Bool) → (any_element node).encodes v list → length list % 8 ≡ 0
element_whole node v list p =
    let a : length list ≡ length p.front + length p.rest = ap length p.parts ∙ length-append p.front p.rest in
    let b = identifier_whole node p.value p.front p.first in
    let h = contents_whole node p.after p.rest p.second in
    omega (arith, a, b, h)

-- ---- whether bits are an element

module _ (list : List Bool) (s : Span) (old new : State) (at : old.at ≡ s.at) (end : old.end ≡ s.at + s.count) where
  whole_rest : rest list old ≡ bits_of list s
  whole_rest =
      ap (λ (n : ℕ). drop n (take old.end list)) at ∙ ap (λ (n : ℕ). drop s.at (take n list)) end ∙ drop-take s.at s.count list

  starts_all : (v : Identifier × List Bool) → (any_element 0).encodes v (bits_of list s) → Starts (any_element 0).encodes (rest list old) v []
  starts_all v p = record { front = bits_of list s; encoded = p; parts = whole_rest ∙ sym (append-nil (bits_of list s)) }

  pub no_header : (e : Fault FaultKind) → (any_element 0).fault (rest list old) e → IsNoElement (bits_of list s)
  no_header e f node v p =
      (any_element_sound 0).names.excludes (rest list old) e f (record { value = v; rest = []; starts = starts_all v p })

  module _ (on : IsOnward list old new) (v : Identifier × List Bool) (starts : Starts (any_element 0).encodes (rest list old) v (rest list new)) where
    pub more_after : new.at < new.end → IsNoElement (bits_of list s)
    more_after more node w p =
        let same = ((any_element_sound 0).one.one (rest list old) v w (rest list new) [] starts (starts_all w p)).1 in
        let none : length (rest list new) ≡ 0 = ap length same in
        let inside = on.inside in
        omega (arith, more, none, length-drop new.at (take new.end list), length-take-le new.end list inside)

    pub one_element : (header : Header) → IsHeader list header v → new.end ≤ new.at → IsOneElement header.identifier (bits_of list s)
    one_element header is no_more =
        let inside = on.inside in
        let none : rest list new ≡ [] = drop_all new.at (take new.end list) (omega (arith, no_more, length-take-le new.end list inside)) in
        let all : bits_of list s ≡ starts.front =
        sym whole_rest ∙ starts.parts ∙ ap (λ (l : List Bool). starts.front ++ l) none ∙ append-nil starts.front in
        record {
          id = v.0;
          shown = is.identifier;
          contents = v.1;
          encodes = λ node. subst (λ (l : List Bool). (any_element node).encodes v l) (sym all) starts.encoded;
        }

-- ---- what was written

module _ (c : Context) (node : ℕ) (kind : AnyPart) (list : List Bool) (was : List ℕ) (old : Writer) (now : List ℕ) (new : Writer)
    (is : tape c old.next ≡ piece_by kind list ∷ tape c (old.next + 1)) where
  pub any_done : (found : FoundIdentifier) → IsOneElement found list → new.next ≡ old.next + 1 → IsGrown was old.at now new.at list
      → IsFilled c (IsElementOf (any_value (piece_by kind) node) found) was old now new
  any_done found e next g = record {
    parts = piece_by kind list ∷ [];
    list = list;
    fills = record {
      id = e.id;
      shown = e.shown;
      contents = e.contents;
      fills = (list, e.encodes node, refl);
      encodes = e.encodes;
    };
    whole = element_whole node (e.id, e.contents) list (e.encodes node);
    grown = g;
    taken = is ∙ ap (λ (n : ℕ). piece_by kind list ∷ tape c n) (sym next);
  }

  pub any_none : IsNoElement list → new.next ≡ old.next → new.node ≡ node → new.reason ≡ rejection.Misfit NoEncoding
      → IsStopped c (any_value (piece_by kind) node).misfit old new
  any_none none next same reason =
      inl (misfit_here c (any_value (piece_by kind) node).misfit old new node NoEncoding next same reason
      (subst (λ (l : Parts). (any_value (piece_by kind) node).misfit l (record { node = node; left = length l; kind = NoEncoding })) (sym is)
      (inl (list, refl, none node, refl))))
