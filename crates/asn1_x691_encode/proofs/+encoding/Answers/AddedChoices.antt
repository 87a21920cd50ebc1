-- Answers for the encoders of src/added_choice.rt.
use Rattle.std.proofs.Common.{◌≡◌, ℕ, ◌+◌, ◌-◌, ◌∷◌, Bool, true, false, refl, sym, ◌∙◌, ap, subst, inl, inr}
use Rattle.std.specs.Prelude.{slice_get, nat_lt}
use Rattle.std.proofs.lemmas.Bool.{lt-ltb, le-ltb}
use Rattle.asn1_schema.specs.declared.misfit.MisfitKind.TheVariants.{OtherPart}
use Rattle.asn1_schema.specs.Pieces.{Piece, Chosen}
use Rattle.asn1_schema.specs.TypeEncodings.{TypeEncoding}
use Rattle.asn1_x691.specs.declared.fault.FaultKind.{FaultKind}
use Rattle.asn1_x691.specs.Fields.{small_number}
use Rattle.asn1_x691.specs.Types.{added, alternative_of_addition}
use Rattle.asn1_x691.specs.Limits.{no_limits}
use Rattle.asn1_x691_writers.specs.Put.{piece_in}
use Rattle.asn1_x691_writers.specs.PutSteps.{rejected}
use Rattle.asn1_x691_encode.specs.Encoding.{Outcome, defaults_in, tape, types, choice_extension_in}
use Rattle.asn1_x691_encode.specs.AlternativeSteps.{known_alternative, unknown_alternative}
use Rattle.asn1_x691_encode.specs.LeafSteps.{after_put, part_next}
use Rattle.asn1_x691_encode.specs.ListSteps.{part_step}
use Rattle.asn1_x691_encode.proofs.+encoding.Goals as goal

pub encode_added-returns-in-Far : goal.added_choice::encode_added-returns-in-Far
encode_added-returns-in-Far t c =
    let a = c.args in
    let cx = a.context.now in
    let k = c.leave in
    subst (λ (b : Bool). Outcome cx (choice_extension_in cx a.depth a.node a.rows a.known) a.octets.now a.state.now a.octets.now
    k.new.state b) (sym k.ensures.result)
    (inr (inl (
      k.ensures.reason,
      inr (inl (record {
        part = a.part;
        is = ap (λ (i : ℕ). slice_get cx.parts.now i) k.ensures.next ∙ c.requires.next;
        far = inr (c.in-Far.ensures cx.tables.ranges.now);
      })),
    )))

pub encode_added-returns-in-Other : goal.added_choice::encode_added-returns-in-Other
encode_added-returns-in-Other t c =
    let a = c.args in
    let cx = a.context.now in
    let k = c.reject in
    let s = k.new.state in
    let T = choice_extension_in cx a.depth a.node a.rows a.known in
    let p = piece_in cx.tables.ranges.now cx.source.now a.part in
    let none = subst (λ (n : ℕ). (i : ℕ) → p ≡ alternative_of_addition n a.known.count i → ⊥) c.saturating_sub-last.ensures
    (c.in-Other.ensures cx.tables.ranges.now) in
    after_put cx T a.part a.octets.now a.octets.now a.state.now s s c.requires.next refl refl refl k.result k.result refl
    (rejected cx.is_aligned T p a.octets.now a.state.now s k.result a.node OtherPart k.ensures.result k.ensures.at k.ensures.next
    k.ensures.node k.ensures.reason (λ at rest. inr (none, refl)))
    (λ q. absurd (let e : true ≡ false = sym q ∙ k.ensures.result in cc)) (λ q. refl)

pub encode_added-returns-in-Known : goal.added_choice::encode_added-returns-in-Known
encode_added-returns-in-Known t c =
    let a = c.args in
    let cx = a.context.now in
    let old = a.state.now in
    let put = c.put_small_number-state in
    let mid = record old { at = put.result; next = old.next + 1 } in
    let k = c.encode_known in
    let i = c.in-Known.index in
    let h = c.in-Known.ensures cx.tables.ranges.now in
    let last = a.rows.count - 1 in
    let is = subst (λ (n : ℕ). piece_in cx.tables.ranges.now cx.source.now a.part ≡ Chosen (n + 1 + i)) c.saturating_sub-last.ensures h.1 in
    let B : Bool → ℕ → TypeEncoding FaultKind = λ (b : Bool). added no_limits cx.is_aligned (types cx a.depth) cx.tables.members.now cx.tables.ranges.now (defaults_in cx) a.node a.known b i in
    (part_step cx (small_number cx.is_aligned a.node) (alternative_of_addition last a.known.count)
    (λ n. added no_limits cx.is_aligned (types cx a.depth) cx.tables.members.now cx.tables.ranges.now (defaults_in cx) a.node a.known
    (nat_lt n a.known.count) n) a.node i a.octets.now put.new.octets old mid (put.ensures a.node)
    (part_next cx old.next a.part c.requires.next
    ∙ ap (λ (q : Piece). q ∷ tape cx (old.next + 1)) (is ∙ known_alternative last a.known.count i h.0))).onward
    k.new.octets k.new.state k.result
    (subst (λ (b : Bool). Outcome cx (B b) put.new.octets mid k.new.octets k.new.state k.result) (sym (lt-ltb i a.known.count h.0)) k.ensures)

pub encode_added-returns-in-Unknown : goal.added_choice::encode_added-returns-in-Unknown
encode_added-returns-in-Unknown t c =
    let a = c.args in
    let cx = a.context.now in
    let old = a.state.now in
    let put = c.put_small_number-state-in-Unknown in
    let mid = record old { at = put.result; next = old.next + 1 } in
    let k = c.encode_unknown in
    let i = c.in-Unknown.index in
    let h = c.in-Unknown.ensures cx.tables.ranges.now in
    let last = a.rows.count - 1 in
    let B : Bool → ℕ → TypeEncoding FaultKind = λ (b : Bool). added no_limits cx.is_aligned (types cx a.depth) cx.tables.members.now cx.tables.ranges.now (defaults_in cx) a.node a.known b i in
    (part_step cx (small_number cx.is_aligned a.node) (alternative_of_addition last a.known.count)
    (λ n. added no_limits cx.is_aligned (types cx a.depth) cx.tables.members.now cx.tables.ranges.now (defaults_in cx) a.node a.known
    (nat_lt n a.known.count) n) a.node i a.octets.now put.new.octets old mid (put.ensures a.node)
    (part_next cx old.next a.part c.requires.next
    ∙ ap (λ (q : Piece). q ∷ tape cx (old.next + 1)) (h.1 ∙ unknown_alternative last a.known.count i h.0))).onward
    k.new.octets k.new.state k.result
    (subst (λ (b : Bool). Outcome cx (B b) put.new.octets mid k.new.octets k.new.state k.result) (sym (le-ltb i a.known.count h.0)) k.ensures)
