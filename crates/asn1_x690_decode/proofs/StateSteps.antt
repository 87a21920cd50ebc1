-- Steps of a decoder that say nothing of a type.
use Rattle.std.proofs.Common.{◌≡◌, ℕ, ◌+◌, ◌-◌, ◌<◌, ◌≤◌, List, [], ◌∷◌, ◌++◌, Bool, true, false, length, take, drop, refl, sym, ◌∙◌, ap, subst, arith, append_assoc}
use Rattle.std.proofs.lemmas.List.{append-nil, length-append}
use Rattle.asn1_bits.specs.Bits.{bits}
use Rattle.asn1_schema.specs.declared.part.Part.{Part}
use Rattle.asn1_schema.specs.declared.tables.Range.{Range}
use Rattle.asn1_schema.specs.Pieces.{Piece, Parts}
use Rattle.asn1_schema.specs.PiecesOfParts.{bits_at}
use Rattle.asn1_schema.specs.Room.{Holds, IsGrown}
use Rattle.asn1_schema.specs.Encodings.{Fault, Contents, Starts, IsAt, mapped}
use Rattle.asn1_schema.specs.Laws.EncodingLaws.{same_fronts}
use Rattle.asn1_x690.specs.declared.fault.FaultKind.{FaultKind}
use Rattle.asn1_x690_fields.specs.declared.state.State.{State}
use Rattle.asn1_x690_fields.specs.Outcomes.{rest, fault_of, IsWithin, IsOnward}
use Rattle.asn1_x690_fields.specs.Steps.{split, rest_length, front_length}
use Rattle.asn1_x690_decode.specs.declared.context.Context.{Context}
use Rattle.asn1_x690_decode.specs.Decoding.{IsMoved, IsFound, Outcome, ContentsOutcome}

-- ---- parts that follow others

pub grown_over : (ranges : List Range) (list : List Bool) (was mid now : List Part) (a b c : ℕ) (ts us : Parts) → IsGrown ranges list was a mid b ts
    → IsGrown ranges list mid b now c us → IsGrown ranges list was a now c (ts ++ us)
grown_over ranges list was mid now a b c ts us g h = λ tape k.
    subst (λ (l : Parts). Holds ranges list now c l) (append_assoc tape ts us) (h (tape ++ ts) (g tape k))

pub none_grown : (ranges : List Range) (list : List Bool) (was : List Part) (n : ℕ) → IsGrown ranges list was n was n []
none_grown ranges list was n = λ tape k. subst (λ (l : Parts). Holds ranges list was n l) (sym (append-nil tape)) k

-- ---- where the state is

pub same_rest : (list : List Bool) (old new : State) → new.at ≡ old.at → new.end ≡ old.end → rest list new ≡ rest list old
same_rest list old new at end = ap (λ (n : ℕ). drop n (take new.end list)) at ∙ ap (λ (n : ℕ). drop old.at (take n list)) end

pub same_fault : (old new : State) → new.at ≡ old.at → new.end ≡ old.end → new.node ≡ old.node → new.kind ≡ old.kind
    → fault_of new ≡ fault_of old
same_fault old new at end node kind = rw (at, end, node, kind) refl

pub none_moved : (list : List Bool) (s new : State) → IsWithin list s → new.at ≡ s.at → new.end ≡ s.end → IsMoved list s new
none_moved list s new h at end = record {
  same_end = end;
  on = omega (arith, at);
  ends = (let e = h.ends in omega (arith, at, end, e));
  inside = (let i = h.inside in omega (arith, end, i));
}

pub moved_within : (list : List Bool) (old new : State) → IsMoved list old new → IsWithin list new
moved_within list old new g = record { ends = g.ends; inside = g.inside }

pub moved_over : (list : List Bool) (old mid new : State) → IsMoved list old mid → IsMoved list mid new → IsMoved list old new
moved_over list old mid new g h = record {
  same_end = h.same_end ∙ g.same_end;
  on = (let a = g.on in let b = h.on in omega (arith, a, b));
  ends = h.ends;
  inside = h.inside;
}

pub onward_moved : (list : List Bool) (old new : State) → IsOnward list old new → IsMoved list old new
onward_moved list old new g = record { same_end = g.same_end; on = g.on; ends = g.ends; inside = g.inside }

-- the bits between two states are those of the encoding that was read
pub front_is : {X : Type 0} (P : X → List Bool → Type 0) (list : List Bool) (old new : State) (x : X) → IsMoved list old new
    → (s : Starts P (rest list old) x (rest list new)) → s.front ≡ bits_at list old.at (new.at - old.at)
front_is P list old new x g s =
    let w = new.at - old.at in
    let on = g.on in
    let ends = g.ends in
    let same = g.same_end in
    let inside = g.inside in
    let a = rest_length list old (omega (arith, same, inside)) in
    let b = rest_length list new inside in
    let e : length (rest list old) ≡ length s.front + length (rest list new) = ap length s.parts ∙ length-append s.front (rest list new) in
    let within : old.at + w ≤ old.end = omega (arith, on, ends, same) in
    let size : length s.front ≡ w = omega (arith, a, b, e, on, ends, same) in
    (same_fronts s.front (take w (drop old.at list)) (rest list new) (drop (old.at + w) (take old.end list))
    (sym s.parts ∙ split list old.at w old.end within)
    (size ∙ sym (front_length list old.at w (omega (arith, within, same, inside))))).0

-- ---- outcomes

pub by_true : (c : Context) (S : List Bool → Parts → List Bool → Type 0) (W : List Bool → Fault FaultKind → Type 0) (old new : State)
    (was is : List Part) (r : Bool) → r ≡ true → Outcome c S W old new was is r
    → IsFound c.tables.ranges.now S (bits c.octets.now) old new was is
by_true c S W old new was is r e o = subst (λ (b : Bool). Outcome c S W old new was is b) e o

pub by_false : (c : Context) (S : List Bool → Parts → List Bool → Type 0) (W : List Bool → Fault FaultKind → Type 0) (old new : State)
    (was is : List Part) (r : Bool) → r ≡ false → Outcome c S W old new was is r → W (rest (bits c.octets.now) old) (fault_of new)
by_false c S W old new was is r e o = subst (λ (b : Bool). Outcome c S W old new was is b) e o

-- what is said of the bits in one way is said of them in another
pub outcome_map : (c : Context) (S T : List Bool → Parts → List Bool → Type 0) (V W : List Bool → Fault FaultKind → Type 0) (old new : State)
    (was is : List Part) (r : Bool)
    → ((xs : Parts) → S (rest (bits c.octets.now) old) xs (rest (bits c.octets.now) new) → T (rest (bits c.octets.now) old) xs (rest (bits c.octets.now) new))
    → ((e : Fault FaultKind) → V (rest (bits c.octets.now) old) e → W (rest (bits c.octets.now) old) e)
    → Outcome c S V old new was is r → Outcome c T W old new was is r
outcome_map c S T V W old new was is true f g o = record { parts = o.parts; are = f o.parts o.are; grown = o.grown }
outcome_map c S T V W old new was is false f g o = g (fault_of new) o

-- what G says of contents, F says too
pub record Implies (F G : Contents FaultKind Parts) : Type 0 where
  pub fills : (xs : Parts) (l : List Bool) → G.fills xs l → F.fills xs l
  pub fault : (l : List Bool) (e : Fault FaultKind) → G.fault l e → F.fault l e

pub implies_over : (F G H : Contents FaultKind Parts) → Implies F G → Implies G H → Implies F H
implies_over F G H p q = record {
  fills = λ xs l r. p.fills xs l (q.fills xs l r);
  fault = λ l e w. p.fault l e (q.fault l e w);
}

pub implied : (c : Context) (F G : Contents FaultKind Parts) (old new : State) (was is : List Part) (r : Bool) → Implies F G
    → ContentsOutcome c G old new was is r → ContentsOutcome c F old new was is r
implied c F G old new was is r p o =
    outcome_map c (λ l xs others. G.fills xs l) (λ l xs others. F.fills xs l) G.fault F.fault old new was is r
    (λ xs q. p.fills xs (rest (bits c.octets.now) old) q) (λ e w. p.fault (rest (bits c.octets.now) old) e w) o

-- the state names a fault before the bits that are left
pub fault_here : (list : List Bool) (s new : State) (node : ℕ) (kind : FaultKind) → s.end ≤ length list → new.at ≡ s.at → new.end ≡ s.end
    → new.node ≡ node → new.kind ≡ kind → IsAt kind node (rest list s) (fault_of new)
fault_here list s new node kind h a e n k = rw (a, e, n, k, rest_length list s h) refl

-- a part, and then the contents
pub after_part : (c : Context) (F : Contents FaultKind Parts) (p : Piece) (old mid new : State) (was next is : List Part) → mid.at ≡ old.at
    → mid.end ≡ old.end → IsGrown c.tables.ranges.now (bits c.octets.now) was old.count next mid.count (p ∷ []) → (r : Bool)
    → ContentsOutcome c F mid new next is r → ContentsOutcome c (mapped (λ (ts : Parts). p ∷ ts) F) old new was is r
after_part c F p old mid new was next is at end g true o =
    let same = same_rest (bits c.octets.now) old mid at end in
    record {
      parts = p ∷ o.parts;
      are = (o.parts, subst (λ (l : List Bool). F.fills o.parts l) same o.are, refl);
      grown = grown_over c.tables.ranges.now (bits c.octets.now) was next is old.count mid.count new.count (p ∷ []) o.parts g o.grown;
    }
after_part c F p old mid new was next is at end g false o =
    subst (λ (l : List Bool). F.fault l (fault_of new)) (same_rest (bits c.octets.now) old mid at end) o

-- bits between two states
pub some_front : (list front : List Bool) (old new : State) → IsMoved list old new → front ≡ bits_at list old.at (new.at - old.at)
    → old.at < new.at → 0 < length front
some_front list front old new g e lt =
    let ends = g.ends in
    let inside = g.inside in
    let w = new.at - old.at in
    let size = front_length list old.at w (omega (arith, lt, ends, inside)) in
    let n : length front ≡ length (bits_at list old.at w) = ap length e in
    omega (arith, size, n, lt)
