use Rattle.std.proofs.Common.{◌≡◌, ℕ, ◌*◌, ◌/◌, [], length, refl, sym, subst, inl, inr, arith}
use Rattle.asn1_x691_writers.specs.Written.{IsIndex, Holds}
use Rattle.asn1_x690_encode.specs.Encoding.{IsElementOf, types}
use Rattle.asn1_x690_encode.specs.Steps.{filled_on}
use Rattle.asn1_x690_encode.proofs.message.encode.Goals as goal

pub returns-in-Some : goal.returns-in-Some
returns-in-Some c =
    let a = c.args in
    let cx = a.context.now in
    let k = c.encode_node in
    let e = c.in-Some.ensures in
    let none : Holds a.octets.now 0 [] = record { index = inl refl; kept = λ le. refl } in
    let held = e.grown.held [] none in
    let whole = filled_on cx (IsElementOf (types cx a.depth a.node) c.in-Some.field-0) a.octets.now _ k.new.octets k.new.state e refl in
    let is : 8 * (k.new.state.at / 8) ≡ k.new.state.at = omega (arith, whole) in
    record {
      encoded = record {
        parts = e.parts;
        list = e.list;
        encodes = ((e.fills.id, e.fills.contents), e.fills.encodes a.node, e.fills.fills);
        taken = e.taken;
        size = subst (λ (n : ℕ). IsIndex n (length e.list)) (sym is) held.index;
        kept = held.kept;
      };
      misfit = tt;
    }

pub returns-in-None : goal.returns-in-None
returns-in-None c = record {
  encoded = tt;
  misfit = elim c.in-None.ensures [
    | inl m ↦ inl (record { kind = m.kind; reason = m.reason; first = inl m.first })
    | inr u ↦ inr u
  ];
}
