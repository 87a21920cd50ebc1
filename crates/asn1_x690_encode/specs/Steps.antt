-- What follows of parts that were encoded or rejected.
use Rattle.std.proofs.Common.{◌≡◌, ℕ, suc, ◌+◌, ◌-◌, ◌%◌, ◌^◌, ◌<◌, ◌≤◌, get_or, List, [], ◌∷◌, ◌++◌, Bool, true, false, length, drop, map, refl, sym, ap, ◌∙◌, subst, inl, inr, Option, Some, None, arith, append_assoc}
use Rattle.std.specs.Prelude.{slice_get, is_some}
use Rattle.std.proofs.Math.Seq.{drop-cons}
use Rattle.std.proofs.lemmas.Bool.{cases_lt}
use Rattle.std.proofs.lemmas.List.{drop_all, length-append}
use Rattle.std.proofs.lemmas.Option.{slice_get_within, slice_get-get_or}
use Rattle.asn1_bits.specs.Laws.DigitLaws.{length-digits}
use Rattle.asn1_schema.specs.declared.misfit.MisfitKind.{MisfitKind}
use Rattle.asn1_schema.specs.declared.misfit.MisfitKind.TheVariants.{NoPart}
use Rattle.asn1_schema.specs.declared.part.Part.{Part}
use Rattle.asn1_schema.specs.declared.tables.Node.{Node}
use Rattle.asn1_schema.specs.declared.tables.Node.TheVariants as type
use Rattle.asn1_schema.specs.Pieces.{Piece, Parts}
use Rattle.asn1_schema.specs.TypeEncodings.{Misfit}
use Rattle.asn1_x690.specs.declared.fault.FaultKind.{FaultKind}
use Rattle.asn1_x690.specs.declared.tables.Identifier.{Identifier}
use Rattle.asn1_x690.specs.declared.tables.TypeTags.{TypeTags}
use Rattle.asn1_x690.specs.Der as der
use Rattle.asn1_x690.specs.Elements.{identifier}
use Rattle.asn1_x690.specs.TypeContents.{TypeContents, ByHeader}
use Rattle.asn1_x690_fields.specs.declared.identifier.FoundIdentifier.{FoundIdentifier}
use Rattle.asn1_x690_fields.specs.Outcomes.{IsIdentifier}
use Rattle.asn1_x690_writers.specs.Leaf.{leaf_in}
use Rattle.asn1_x690_writers.specs.Put.{IsPut}
use Rattle.asn1_x691_writers.specs.declared.state.Writer.{Writer}
use Rattle.asn1_x691_writers.specs.declared.state.Rejection.TheVariants as rejection
use Rattle.asn1_x691_writers.specs.Put.{piece_in}
use Rattle.asn1_x691_writers.specs.GrownSteps.{index_octet}
use Rattle.asn1_x691_writers.specs.Written.{IsGrown}
use Rattle.asn1_x690_encode.specs.declared.context.Context.{Context}
use Rattle.asn1_x690_encode.specs.Encoding.{tape, IsFilled, IsElementOf, BeginsWith, IsFirstMisfit, IsStopped, Outcome, ElementOutcome, ValueOutcome}

-- ---- the next part

get_some : {A : Type 0} (list : List A) (i : ℕ) (x : A) → slice_get list i ≡ Some x → drop i list ≡ x ∷ drop (i + 1) list
get_some list i x e =
    let h : i < length list = slice_get_within list i x e in
    let is = slice_get-get_or list i x h in
    let same : get_or list i x ≡ x = cc in
    let one : suc i ≡ i + 1 = omega arith in
    drop-cons list i x h ∙ ap (λ (y : _). y ∷ drop (suc i) list) same ∙ ap (λ (k : ℕ). x ∷ drop k list) one

get_none : {A : Type 0} (list : List A) (i : ℕ) → slice_get list i ≡ None → drop i list ≡ []
get_none [] i e = drop_all i [] (omega arith)
get_none (x ∷ list) i e = elim (cases_lt i (length (x ∷ list))) [
  | inl lt ↦ absurd (let is = slice_get-get_or (x ∷ list) i x lt in cc)
  | inr le ↦ drop_all i (x ∷ list) le
]

module _ (c : Context) (next : ℕ) where
  pub part_next : (p : Part) → slice_get c.parts.now next ≡ Some p → tape c next ≡ piece_in c.tables.ranges.now c.source.now p ∷ tape c (next + 1)
  part_next p e = ap (λ (l : List Part). map (piece_in c.tables.ranges.now c.source.now) l) (get_some c.parts.now next p e)

  pub part_none : slice_get c.parts.now next ≡ None → tape c next ≡ []
  part_none e = ap (λ (l : List Part). map (piece_in c.tables.ranges.now c.source.now) l) (get_none c.parts.now next e)

-- ---- misfits

-- a misfit before the next part
pub misfit_here : (c : Context) (W : Parts → Misfit → Type 0) (old new : Writer) (node : ℕ) (kind : MisfitKind) → new.next ≡ old.next
    → new.node ≡ node → new.reason ≡ rejection.Misfit kind
    → W (tape c old.next) (record { node = node; left = length (tape c old.next); kind = kind }) → IsFirstMisfit c W old new
misfit_here c W old new node kind next same reason m = record {
  kind = kind;
  reason = reason;
  first =
      subst (λ (k : ℕ). W (tape c old.next) (record { node = new.node; left = length (tape c k); kind = kind })) (sym next)
      (subst (λ (k : ℕ). W (tape c old.next) (record { node = k; left = length (tape c old.next); kind = kind })) (sym same) m);
}

pub stopped_here : (c : Context) (W : Parts → Misfit → Type 0) (was now : List ℕ) (old new : Writer) (r : Bool) (node : ℕ) (kind : MisfitKind)
    (P : Parts → List Bool → Type 0) → r ≡ false → new.next ≡ old.next → new.node ≡ node → new.reason ≡ rejection.Misfit kind
    → W (tape c old.next) (record { node = node; left = length (tape c old.next); kind = kind }) → Outcome c P W was old now new r
stopped_here c W was now old new r node kind P e next same reason m =
    subst (λ (b : Bool). Outcome c P W was old now new b) (sym e) (inl (misfit_here c W old new node kind next same reason m))

-- what stops a part of a value stops the value
pub stopped_on : (c : Context) (V W : Parts → Misfit → Type 0) (old mid new : Writer)
    → ((e : Misfit) → V (tape c mid.next) e → W (tape c old.next) e) → IsStopped c V mid new → IsStopped c W old new
stopped_on c V W old mid new f (inl m) = inl (record { kind = m.kind; reason = m.reason; first = f (record { node = new.node; left = length (tape c new.next); kind = m.kind }) m.first })
stopped_on c V W old mid new f (inr u) = inr u

-- ---- a part that was written or rejected, and passed

module _ (c : Context) (F : TypeContents FaultKind) (Left : Type 0) (p : Part) (was now : List ℕ) (old mid new : Writer)
    (is : slice_get c.parts.now old.next ≡ Some p) (at : new.at ≡ mid.at) (node : new.node ≡ mid.node) (reason : new.reason ≡ mid.reason)
    (later : Left → new.reason ≡ rejection.Unsupported → new.next ≡ old.next → IsStopped c F.misfit old new) where
  abbrev piece : Piece
  piece = piece_in c.tables.ranges.now c.source.now p

  after_written : IsPut Left F piece was old now mid true → new.next ≡ mid.next + 1 → Outcome c F.contents.fills F.misfit was old now new true
  after_written a on = record {
    parts = piece ∷ [];
    list = a.list;
    fills = a.fills;
    whole = a.whole;
    grown = subst (λ (n : ℕ). IsGrown was old.at now n a.list) (sym at) a.grown;
    taken = part_next c old.next p is
        ∙ ap (λ (n : ℕ). piece ∷ tape c n) (let e : old.next + 1 ≡ new.next = omega (arith, on, a.next) in e);
  }

  after_rejected : IsPut Left F piece was old now mid false → new.next ≡ mid.next → Outcome c F.contents.fills F.misfit was old now new false
  after_rejected (inl m, same) kept =
      let on : new.next ≡ old.next = kept ∙ same.next in
      let e = part_next c old.next p is in
      inl (misfit_here c F.misfit old new mid.node m.kind on node (reason ∙ m.reason)
      (subst
      (λ (t : Parts). F.misfit t (record { node = mid.node; left = length t; kind = m.kind })) (sym e)
      (m.first (tape c (old.next + 1)))))
  after_rejected (inr m, same) kept = later m.1 (reason ∙ m.0) (kept ∙ same.next)

  pub after_put : (b r : Bool) → r ≡ b → IsPut Left F piece was old now mid b → (b ≡ true → new.next ≡ mid.next + 1)
      → (b ≡ false → new.next ≡ mid.next) → Outcome c F.contents.fills F.misfit was old now new r
  after_put true r e a on kept = subst (λ (d : Bool). Outcome c F.contents.fills F.misfit was old now new d) (sym e) (after_written a (on refl))
  after_put false r e a on kept = subst (λ (d : Bool). Outcome c F.contents.fills F.misfit was old now new d) (sym e) (after_rejected a (kept refl))

-- the index after a part that was written
pub next_fits : (c : Context) (F : TypeContents FaultKind) (Left : Type 0) (p : Part) (piece : Piece) (was now : List ℕ) (old mid : Writer) (r : Bool)
    → slice_get c.parts.now old.next ≡ Some p → length c.parts.now < 2 ^ 64 - 1
    → IsPut Left F piece was old now mid r → r ≡ true → mid.next + 1 < 2 ^ 64
next_fits c F Left p piece was now old mid r is few a e =
    let b = subst (λ (x : Bool). IsPut Left F piece was old now mid x) e a in
    let within = slice_get_within c.parts.now old.next p is in
    omega (arith, b.next, within, few)

-- a leaf has no part
pub leaf_none : (c : Context) (node : ℕ) (t : TypeTags) (n : Node)
    → (leaf_in c.tables.ranges.now c.tags.numbers.now node t n).misfit [] (record { node = node; left = 0; kind = NoPart })
leaf_none c node t type.Null = refl
leaf_none c node t type.Boolean = refl
leaf_none c node t (type.IntegerBetween bounds is_extensible) = refl
leaf_none c node t (type.IntegerAtLeast bound is_extensible) = refl
leaf_none c node t type.Integer = refl
leaf_none c node t (type.Enumerated last false known) = refl
leaf_none c node t (type.Enumerated last true known) = refl
leaf_none c node t (type.BitString size is_extensible has_names) = refl
leaf_none c node t (type.OctetString size is_extensible) = refl
leaf_none c node t type.ObjectIdentifier = refl
leaf_none c node t type.RelativeIdentifier = refl
leaf_none c node t type.Utf8String = refl
leaf_none c node t type.Real = refl
leaf_none c node t (type.Time kind) = refl
leaf_none c node t (type.Text size is_extensible alphabet whole) = refl
leaf_none c node t n = refl

-- ---- whole octets

pub on_octet : (was now : List ℕ) (old new : ℕ) (list : List Bool) → IsGrown was old now new list → length list % 8 ≡ 0 → old % 8 ≡ 0
    → new % 8 ≡ 0
on_octet was now old new list g whole e =
    let h = index_octet new (old + length list) (g.index old (inl refl)) in
    omega (arith, h, whole, e)

pub filled_on : (c : Context) (P : Parts → List Bool → Type 0) (was : List ℕ) (old : Writer) (now : List ℕ) (new : Writer)
    → IsFilled c P was old now new → old.at % 8 ≡ 0 → new.at % 8 ≡ 0
filled_on c P was old now new f e = on_octet was now old.at new.at f.list f.grown f.whole e

-- ---- what bits begin with

-- an element begins with its identifier
pub element_begins : (B : ByHeader FaultKind Identifier) (found : FoundIdentifier) (parts : Parts) (list : List Bool)
    → IsElementOf B found parts list → BeginsWith (Some found) list
element_begins B found parts list e =
    let p = e.encodes 0 in
    let id : e.id ≡ p.value = ap (λ (v : Identifier × List Bool). v.0) p.is in
    (p.value, p.rest, subst (λ (i : Identifier). IsIdentifier found i) id e.shown, record { front = p.front; encoded = p.first; parts = p.parts })

pub begins_more : (found : FoundIdentifier) (list more : List Bool) → BeginsWith (Some found) list → BeginsWith (Some found) (list ++ more)
begins_more found list more b = (
  b.0,
  b.1 ++ more,
  b.2,
  record {
    front = b.3.front;
    encoded = b.3.encoded;
    parts = ap (λ (l : List Bool). l ++ more) b.3.parts ∙ append_assoc b.3.front b.1 more;
  },
)

identifier_some : (id : Identifier) (front : List Bool) → (identifier 0).encodes id front → 8 ≤ length front
identifier_some id front p =
    let b : length front ≡ length p.front + length p.rest = ap length p.parts ∙ length-append p.front p.rest in
    let c : length p.front ≡ 8 = ap length p.first.1 ∙ length-digits p.value 8 in
    omega (arith, b, c)

pub begins_some : (found : FoundIdentifier) (list : List Bool) → BeginsWith (Some found) list → list ≡ [] → ⊥
begins_some found list b e =
    let n : length list ≡ length b.3.front + length b.1 = ap length b.3.parts ∙ length-append b.3.front b.1 in
    let z : length list ≡ 0 = ap length e in
    let s = identifier_some b.0 b.3.front b.3.encoded in
    omega (arith, n, z, s)

-- an element as a value
pub as_value : (c : Context) (node : ℕ) (B : ByHeader FaultKind Identifier) (was : List ℕ) (old : Writer) (now : List ℕ) (new : Writer)
    (r : Option FoundIdentifier) → ElementOutcome c B was old now new r → ValueOutcome c (der.element node B) was old now new r
as_value c node B was old now new (Some found) f = record {
  parts = f.parts;
  list = f.list;
  fills = (((f.fills.id, f.fills.contents), f.fills.encodes node, f.fills.fills), element_begins B found f.parts f.list f.fills);
  whole = f.whole;
  grown = f.grown;
  taken = f.taken;
}
as_value c node B was old now new None (inl m) = inl (record { kind = m.kind; reason = m.reason; first = inl m.first })
as_value c node B was old now new None (inr u) = inr u

-- an element that fills what is around it
pub as_contents : (c : Context) (node : ℕ) (B : ByHeader FaultKind Identifier) (was : List ℕ) (old : Writer) (now : List ℕ) (new : Writer)
    (r : Option FoundIdentifier) → ElementOutcome c B was old now new r
    → Outcome c (der.element node B).encoding.encodes (der.element node B).misfit was old now new (is_some r)
as_contents c node B was old now new (Some found) f = record {
  parts = f.parts;
  list = f.list;
  fills = ((f.fills.id, f.fills.contents), f.fills.encodes node, f.fills.fills);
  whole = f.whole;
  grown = f.grown;
  taken = f.taken;
}
as_contents c node B was old now new None (inl m) = inl (record { kind = m.kind; reason = m.reason; first = inl m.first })
as_contents c node B was old now new None (inr u) = inr u

-- a call that begins at another index
pub begun_here : (c : Context) (W : Parts → Misfit → Type 0) (old : Writer) (at : ℕ) (new : Writer) → IsStopped c W (record old { at = at }) new
    → IsStopped c W old new
begun_here c W old at new (inl m) = inl (record { kind = m.kind; reason = m.reason; first = m.first })
begun_here c W old at new (inr u) = inr u
