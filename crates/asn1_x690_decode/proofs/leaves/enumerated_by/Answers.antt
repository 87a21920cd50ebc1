use Rattle.std.proofs.Common.{◌≡◌, ℕ, ℤ, ◌+◌, Bool, true, false, List, sym, ◌∙◌, ap, subst}
use Rattle.std.specs.Prelude.{slice_range, Result}
use Rattle.asn1_bits.specs.Bits.{bits}
use Rattle.asn1_schema.specs.declared.part.Part.{Part}
use Rattle.asn1_schema.specs.declared.tables.Node.TheVariants.{Enumerated}
use Rattle.asn1_schema.specs.PiecesOfParts.{bits_of}
use Rattle.asn1_x690.specs.declared.fault.FaultKind.{FaultKind}
use Rattle.asn1_x690.specs.declared.tables.TypeTags.{TypeTags}
use Rattle.asn1_x690.specs.Leaves.{IsEnumerated, IsPermittedValue}
use Rattle.asn1_x690_leaves.specs.Told.{IsTold}
use Rattle.asn1_x690_decode.specs.declared.context.Context.{Context}
use Rattle.asn1_x690_decode.specs.Tables.{contents_by}
use Rattle.asn1_x690_decode.specs.Decoding.{IsLeaf}
use Rattle.asn1_x690_decode.proofs.LeafSteps.{told_leaf}
use Rattle.asn1_x690_decode.proofs.leaves.enumerated_by.Goals as goal
use Rattle.asn1_x690_decode.proofs.leaves.enumerated_by.Goals.{then-is_extensible, else-is_extensible}

-- an ENUMERATED without an extension marker has no additions
abbrev known_by : Bool → ℕ → ℕ
known_by true known = known
known_by false known = 0

numbers : (c : Context) (depth node : ℕ) (t : TypeTags) (last : ℕ) (b : Bool) (known : ℕ) (contents : List Bool) (r : Result Part FaultKind)
    → IsTold (IsEnumerated (slice_range c.tags.numbers.now t.numbers (t.numbers + (last + 1 + known_by b known)))) (IsPermittedValue b)
    (λ p. p) c.tables.ranges.now (bits c.octets.now) contents r
    → IsLeaf c (contents_by c depth node t (Enumerated last b known)) node contents r
numbers c depth node t last true known contents r =
    told_leaf (IsEnumerated (slice_range c.tags.numbers.now t.numbers (t.numbers + (last + 1 + known)))) (IsPermittedValue true) (λ p. p) c
    node contents r
numbers c depth node t last false known contents r =
    told_leaf (IsEnumerated (slice_range c.tags.numbers.now t.numbers (t.numbers + (last + 1 + 0)))) (IsPermittedValue false) (λ p. p) c
    node contents r

pub returns : goal.returns
returns c depth =
    let k = c.args.known in
    let b = c.args.is_extensible in
    let known : c.if-is_extensible.known ≡ known_by b k = elim c.if-is_extensible.branch [
      | then-is_extensible w ↦ w.known-is ∙ ap (λ (d : Bool). known_by d k) (sym w.if-is_extensible.true)
      | else-is_extensible w ↦ w.known-is ∙ ap (λ (d : Bool). known_by d k) (sym w.if-is_extensible.false)
    ] in
    let t = c.args.of.now.tags.now in
    numbers c.args.context.now depth c.args.of.now.node t c.args.last b k (bits_of (bits c.args.context.now.octets.now) c.args.span)
    c.enumerated.result
    (subst (λ (n : ℕ). IsTold (IsEnumerated (slice_range c.args.context.now.tags.numbers.now t.numbers (t.numbers + (c.args.last + 1 + n))))
    (IsPermittedValue b) (λ p. p) c.args.context.now.tables.ranges.now (bits c.args.context.now.octets.now)
    (bits_of (bits c.args.context.now.octets.now) c.args.span) c.enumerated.result) known
    (subst (λ (ns : List ℤ). IsTold (IsEnumerated ns) (IsPermittedValue b) (λ p. p) c.args.context.now.tables.ranges.now
    (bits c.args.context.now.octets.now) (bits_of (bits c.args.context.now.octets.now) c.args.span) c.enumerated.result)
    c.numbers_in-numbers.ensures (c.enumerated.ensures c.args.context.now.tables.ranges.now)))
