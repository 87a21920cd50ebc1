use Rattle.asn1_x691.specs.Fragments.{most_fragments}
use Rattle.std.proofs.Common.{◌≡◌, ℕ, ◌+◌, ◌*◌, ◌-◌, ◌<◌, ◌≤◌, inl, refl, sym, subst, arith}
use Rattle.asn1_bits.specs.Bits.{bits}
use Rattle.asn1_schema.specs.declared.tables.Length.{Length}
use Rattle.asn1_schema.specs.declared.tables.Length.TheVariants.{AtLeast, Between}
use Rattle.asn1_schema.specs.PiecesOfParts.{bits_at}
use Rattle.asn1_x691.specs.declared.fault.FaultKind.TheVariants.{BelowLeast}
use Rattle.asn1_x691.specs.Fields.{constrained}
use Rattle.asn1_x691.specs.Fragments.{string}
use Rattle.asn1_x691.specs.Strings.{IsOfRoot, where_size, units_of, string_of}
use Rattle.asn1_x691_writers.specs.Joined.{bits_in}
use Rattle.asn1_x691_writers.specs.Written.{IsWritten}
use Rattle.asn1_x691_writers.specs.FieldSteps.{turn_constant, turn_written}
use Rattle.asn1_x691_writers.proofs.joined_strings.put_joined_of.Goals as goal

pub returns-in-AtLeast : goal.returns-in-AtLeast
returns-in-AtLeast c node =
    let aligned = c.args.is_aligned in
    let count = c.args.count in
    let was = c.args.octets.now in
    let now = c.put_joined_units.new.octets in
    let new = c.put_joined_units.result in
    let list = bits_at (bits_in (bits c.args.source.now) c.args.joined.now) 0 (c.args.joined.now.unit * count) in
    let least = c.in-AtLeast.least in
    let enough : IsOfRoot (AtLeast least) count = subst (λ (s : Length). IsOfRoot s count) c.in-AtLeast.is c.requires.root in
    subst (λ (s : Length). IsWritten aligned (string_of most_fragments aligned c.args.joined.now.unit s node) list was c.args.at now new) (sym c.in-AtLeast.is)
    (turn_constant aligned was now c.args.at new (string most_fragments aligned c.args.joined.now.unit node) (λ v bits. bits)
    (λ v. where_size (λ n. least ≤ n) (λ n. n < least) BelowLeast node v) (count, list) list (c.put_joined_units.ensures node)
    (λ p. inl (enough, (refl, refl))))

pub returns-in-Between : goal.returns-in-Between
returns-in-Between c node =
    let aligned = c.args.is_aligned in
    let count = c.args.count in
    let was = c.args.octets.now in
    let mid = c.put_constrained-after.new.octets in
    let now = c.put_joined_inline.new.octets in
    let new = c.put_joined_inline.result in
    let list = bits_at (bits_in (bits c.args.source.now) c.args.joined.now) 0 (c.args.joined.now.unit * count) in
    let least = c.in-Between.least in
    let range = c.in-Between.range in
    let within : IsOfRoot (Between least range) count = subst (λ (s : Length). IsOfRoot s count) c.in-Between.is c.requires.root in
    let e : count ≡ least + (count - least) = omega (arith, within.0) in
    subst (λ (s : Length). IsWritten aligned (string_of most_fragments aligned c.args.joined.now.unit s node) list was c.args.at now new) (sym c.in-Between.is)
    (turn_written aligned (constrained aligned range node) (λ d bits. bits) (λ d. units_of aligned c.args.joined.now.unit least range node (least + d))
    (count - least) list was mid now c.args.at c.put_constrained-after.result new (c.put_constrained-after.ensures node)
    (subst (λ (n : ℕ). IsWritten aligned (units_of aligned c.args.joined.now.unit least range node n) list mid c.put_constrained-after.result now new) e
    (c.put_joined_inline.ensures node)))
