-- What follows of a part that was written, or rejected.
use Rattle.std.proofs.Common.{◌≡◌, ℕ, zero, suc, ◌+◌, ◌-◌, ◌^◌, ◌<◌, get_or, List, [], ◌∷◌, Bool, true, false, length, drop, map, refl, sym, ap, ◌∙◌, subst, inl, inr, Option, Some, None, arith}
use Rattle.std.specs.Prelude.{slice_get}
use Rattle.std.proofs.Math.Seq.{drop-cons}
use Rattle.std.proofs.lemmas.Bool.{cases_lt}
use Rattle.std.proofs.lemmas.List.{drop_all}
use Rattle.std.proofs.lemmas.Option.{slice_get_within, slice_get-get_or}
use Rattle.asn1_schema.specs.declared.misfit.MisfitKind.TheVariants.{NoPart}
use Rattle.asn1_schema.specs.declared.part.Part.{Part}
use Rattle.asn1_schema.specs.declared.tables.Node.{Node}
use Rattle.asn1_x691.specs.Types.{type_of}
use Rattle.asn1_schema.specs.Pieces.{Piece, Parts}
use Rattle.asn1_schema.specs.TypeEncodings.{TypeEncoding}
use Rattle.asn1_x691.specs.declared.fault.FaultKind.{FaultKind}
use Rattle.asn1_x691.specs.Fragments.{most_fragments}
use Rattle.asn1_x691.specs.Limits.{no_limits, bit_fragments}
use Rattle.asn1_x691_writers.specs.declared.state.Writer.{Writer}
use Rattle.asn1_x691_writers.specs.declared.contents.ContentsKind.{ContentsKind}
use Rattle.asn1_x691_writers.specs.declared.contents.ContentsKind.TheVariants as kind
use Rattle.asn1_x691_writers.specs.declared.state.Rejection.TheVariants.{Misfit, Unsupported}
use Rattle.asn1_x691_writers.specs.Put.{IsPut, IsInFragments, piece_in}
use Rattle.asn1_x691_writers.specs.Written.{IsWritten}
use Rattle.asn1_x691_encode.specs.declared.context.Context.{Context}
use Rattle.asn1_x691_encode.specs.Encoding.{defaults_in, tape, types, node_of, IsFragmented, IsLater, Outcome}

get_some : {A : Type 0} (list : List A) (i : ℕ) (x : A) → slice_get list i ≡ Some x → drop i list ≡ x ∷ drop (i + 1) list
get_some list i x e =
    let h : i < length list = slice_get_within list i x e in
    let is = slice_get-get_or list i x h in
    let same : get_or list i x ≡ x = cc in
    let one : suc i ≡ i + 1 = omega arith in
    drop-cons list i x h ∙ ap (λ (y : _). y ∷ drop (suc i) list) same ∙ ap (λ (k : ℕ). x ∷ drop k list) one

get_none : {A : Type 0} (list : List A) (i : ℕ) → slice_get list i ≡ None → drop i list ≡ []
get_none [] i e = drop_all i [] (omega arith)
get_none (x ∷ list) i e = elim (cases_lt i (length (x ∷ list))) [
  | inl lt ↦ absurd (let is = slice_get-get_or (x ∷ list) i x lt in cc)
  | inr le ↦ drop_all i (x ∷ list) le
]

module _ (c : Context) (next : ℕ) where
  pub part_next : (p : Part) → slice_get c.parts.now next ≡ Some p → tape c next ≡ piece_in c.tables.ranges.now c.source.now p ∷ tape c (next + 1)
  part_next p e = ap (λ (l : List Part). map (piece_in c.tables.ranges.now c.source.now) l) (get_some c.parts.now next p e)

  pub part_none : slice_get c.parts.now next ≡ None → tape c next ≡ []
  part_none e = ap (λ (l : List Part). map (piece_in c.tables.ranges.now c.source.now) l) (get_none c.parts.now next e)

-- a part that was written or rejected, and passed
module _ (c : Context) (A : ℕ → TypeEncoding FaultKind) (p : Part) (was now : List ℕ) (old mid new : Writer)
    (is : slice_get c.parts.now old.next ≡ Some p) (at : new.at ≡ mid.at) (node : new.node ≡ mid.node) (reason : new.reason ≡ mid.reason) where
  abbrev piece : Piece
  piece = piece_in c.tables.ranges.now c.source.now p

  after_written : IsPut c.is_aligned A piece was old now mid true → new.next ≡ mid.next + 1 → Outcome c A was old now new true
  after_written a on = record {
    parts = piece ∷ [];
    written = subst (λ (n : ℕ). IsWritten c.is_aligned (λ k. (A k).encoding) (piece ∷ []) was old.at now n) (sym at) a.written;
    taken = part_next c old.next p is
        ∙ ap (λ (n : ℕ). piece ∷ tape c n) (let e : old.next + 1 ≡ new.next = omega (arith, on, a.next) in e);
  }

  after_rejected : IsPut c.is_aligned A piece was old now mid false → new.next ≡ mid.next → Outcome c A was old now new false
  after_rejected (inl m, same) kept =
      let on : new.next ≡ old.next = kept ∙ same.next in
      inl (record {
        kind = m.kind;
        reason = reason ∙ m.reason;
        first = λ n h.
            let e = part_next c old.next p is in
            subst
            (λ (t : Parts). (A n).misfit t (record { node = new.node; left = length (tape c new.next); kind = m.kind })) (sym e)
            (subst
            (λ (k : ℕ). (A n).misfit (piece ∷ tape c (old.next + 1)) (record { node = new.node; left = k; kind = m.kind }))
            (ap length (sym e) ∙ ap (λ (i : ℕ). length (tape c i)) (sym on))
            (subst
            (λ (k : ℕ). (A n).misfit (piece ∷ tape c (old.next + 1))
            (record { node = k; left = length (piece ∷ tape c (old.next + 1)); kind = m.kind })) (sym node)
            (m.first n (tape c (old.next + 1)))));
      })
  after_rejected (inr m, same) kept =
      let on : new.next ≡ old.next = kept ∙ same.next in
      inr (inl (
        reason ∙ m.reason,
        inr (inl (record {
          part = p;
          is = ap (λ (i : ℕ). slice_get c.parts.now i) on ∙ is;
          far = inl m.far;
        })),
      ))

  pub after_put : (b r : Bool) → r ≡ b → IsPut c.is_aligned A piece was old now mid b → (b ≡ true → new.next ≡ mid.next + 1)
      → (b ≡ false → new.next ≡ mid.next) → Outcome c A was old now new r
  after_put true r e a on kept = subst (λ (d : Bool). Outcome c A was old now new d) (sym e) (after_written a (on refl))
  after_put false r e a on kept = subst (λ (d : Bool). Outcome c A was old now new d) (sym e) (after_rejected a (kept refl))

-- the index after a part that was written
pub next_fits : (c : Context) (A : ℕ → TypeEncoding FaultKind) (p : Part) (was now : List ℕ) (old mid : Writer) (r : Bool)
    → slice_get c.parts.now old.next ≡ Some p → length c.parts.now < 2 ^ 64 - 1
    → IsPut c.is_aligned A (piece_in c.tables.ranges.now c.source.now p) was old now mid r → r ≡ true → mid.next + 1 < 2 ^ 64
next_fits c A p was now old mid r is few a e =
    let b = subst (λ (x : Bool). IsPut c.is_aligned A (piece_in c.tables.ranges.now c.source.now p) was old now mid x) e a in
    let within = slice_get_within c.parts.now old.next p is in
    omega (arith, b.next, within, few)

-- no part is left
pub after_none : (c : Context) (A : ℕ → TypeEncoding FaultKind) (was now : List ℕ) (old new : Writer) (r : Bool) (node : ℕ)
    → slice_get c.parts.now old.next ≡ None → r ≡ false → new.next ≡ old.next → new.node ≡ node → new.reason ≡ Misfit NoPart
    → ((at : ℕ) → (A at).misfit [] (record { node = node; left = 0; kind = NoPart })) → Outcome c A was old now new r
after_none c A was now old new r node none e on same reason m =
    let t = part_none c old.next none in
    let left : 0 ≡ length (tape c new.next) = sym (ap (λ (i : ℕ). length (tape c i)) on ∙ ap length t) in
    subst (λ (d : Bool). Outcome c A was old now new d) (sym e)
    (inl (record {
      kind = NoPart;
      reason = reason;
      first = λ n h.
          subst (λ (l : Parts). (A n).misfit l (record { node = new.node; left = length (tape c new.next); kind = NoPart })) (sym t)
          (subst (λ (k : ℕ). (A n).misfit [] (record { node = new.node; left = k; kind = NoPart })) left
          (subst (λ (k : ℕ). (A n).misfit [] (record { node = k; left = 0; kind = NoPart })) (sym same) (m n)));
    }))

-- ---- the type at a node

pub at_node : (c : Context) (node depth : ℕ) (o : Option Node) (P : (ℕ → TypeEncoding FaultKind) → Type 0)
    → 0 < depth → slice_get c.tables.nodes.now node ≡ o
    → ((d : ℕ) → depth ≡ suc d → P (type_of no_limits c.is_aligned (types c d) c.tables.members.now c.tables.ranges.now (defaults_in c) node o))
    → P (types c depth node)
at_node c node zero o P some e f = absurd (omega (arith, some))
at_node c node (suc d) o P some e f =
    let Q : Option Node → Type 0 =
    λ x. P (type_of no_limits c.is_aligned (types c d) c.tables.members.now c.tables.ranges.now (defaults_in c) node x) in
    subst Q (sym e) (f d refl)

-- without limits, bits that have names may be in as many fragments as others
pub same_limit : (has_names : Bool) → most_fragments ≡ bit_fragments no_limits has_names
same_limit true = refl
same_limit false = refl

-- ---- parts that the encoder leaves

pub after_leave : (c : Context) (A : ℕ → TypeEncoding FaultKind) (was : List ℕ) (old new : Writer) (node : ℕ) (n : Node) (r : Bool) → r ≡ false
    → new.next ≡ old.next → new.node ≡ node → new.reason ≡ Unsupported → slice_get c.tables.nodes.now node ≡ Some n
    → IsLater c old.next (Some n) → Outcome c A was old was new r
after_leave c A was old new node n r e next at reason is later =
    let nodes = c.tables.nodes.now in
    let here : IsLater c new.next (slice_get nodes new.node) =
    subst (λ (k : ℕ). IsLater c k (slice_get nodes new.node)) (sym next)
    (subst (λ (k : ℕ). IsLater c old.next (slice_get nodes k)) (sym at)
    (subst (λ (o : Option Node). IsLater c old.next o) (sym is) later)) in
    subst (λ (b : Bool). Outcome c A was old was new b) (sym e) (inr (inl (reason, inl here)))

-- identifiers and REAL in fragments
pub contents_later : (c : Context) (next : ℕ) (k : ContentsKind) → (k ≡ kind.Utf8 → ⊥) → IsFragmented c IsInFragments next
    → IsLater c next (Some (node_of k))
contents_later c next kind.ObjectIdentifier other f = f
contents_later c next kind.RelativeIdentifier other f = f
contents_later c next kind.Utf8 other f = absurd (other refl)
contents_later c next kind.Real other f = f
