use Rattle.std.proofs.Common.{sym, subst}
use Rattle.asn1_schema.specs.declared.tables.Node.{Node}
use Rattle.asn1_schema.specs.declared.tables.Node.TheVariants as type
use Rattle.asn1_x690_writers.specs.Leaf.{leaf_in, IsLeftOut}
use Rattle.asn1_x690_writers.specs.Put.{IsPut, LeftAt}
use Rattle.asn1_x690_writers.specs.PutSteps.{none_left}
use Rattle.asn1_x691_writers.specs.Put.{piece_in}
use Rattle.asn1_x690_writers.proofs.leaf.put_rare_leaf.Goals as goal

pub returns-in-Null : goal.returns-in-Null
returns-in-Null c =
    let a = c.args in
    let k = c.in-Null in
    let p = piece_in a.ranges.now a.source.now a.part.now in
    subst
    (λ (n : Node). IsPut (LeftAt (IsLeftOut a.source.now n a.part.now p) a.node c.put_null.new.state) (leaf_in a.ranges.now a.numbers.now a.node a.tags.now n) p a.octets.now a.state.now
    c.put_null.new.octets c.put_null.new.state c.put_null.result) (sym k.is)
    (none_left (LeftAt (IsLeftOut a.source.now type.Null a.part.now p) a.node c.put_null.new.state) (leaf_in a.ranges.now a.numbers.now a.node a.tags.now type.Null) p a.octets.now a.state.now
    c.put_null.new.octets c.put_null.new.state c.put_null.result (c.put_null.ensures a.ranges.now a.source.now))

pub returns-in-Boolean : goal.returns-in-Boolean
returns-in-Boolean c =
    let a = c.args in
    let k = c.in-Boolean in
    let p = piece_in a.ranges.now a.source.now a.part.now in
    subst
    (λ (n : Node). IsPut (LeftAt (IsLeftOut a.source.now n a.part.now p) a.node c.put_boolean.new.state) (leaf_in a.ranges.now a.numbers.now a.node a.tags.now n) p a.octets.now a.state.now
    c.put_boolean.new.octets c.put_boolean.new.state c.put_boolean.result) (sym k.is)
    (none_left (LeftAt (IsLeftOut a.source.now type.Boolean a.part.now p) a.node c.put_boolean.new.state) (leaf_in a.ranges.now a.numbers.now a.node a.tags.now type.Boolean) p a.octets.now a.state.now
    c.put_boolean.new.octets c.put_boolean.new.state c.put_boolean.result (c.put_boolean.ensures a.ranges.now a.source.now))

pub returns-in-RelativeIdentifier : goal.returns-in-RelativeIdentifier
returns-in-RelativeIdentifier c =
    let a = c.args in
    let k = c.in-RelativeIdentifier in
    let p = piece_in a.ranges.now a.source.now a.part.now in
    subst
    (λ (n : Node). IsPut (LeftAt (IsLeftOut a.source.now n a.part.now p) a.node c.put_kept.new.state) (leaf_in a.ranges.now a.numbers.now a.node a.tags.now n) p a.octets.now a.state.now
    c.put_kept.new.octets c.put_kept.new.state c.put_kept.result) (sym k.is)
    (c.put_kept.ensures a.ranges.now)

pub returns-in-Utf8String : goal.returns-in-Utf8String
returns-in-Utf8String c =
    let a = c.args in
    let k = c.in-Utf8String in
    let p = piece_in a.ranges.now a.source.now a.part.now in
    subst
    (λ (n : Node). IsPut (LeftAt (IsLeftOut a.source.now n a.part.now p) a.node c.put_utf8_string.new.state) (leaf_in a.ranges.now a.numbers.now a.node a.tags.now n) p a.octets.now a.state.now
    c.put_utf8_string.new.octets c.put_utf8_string.new.state c.put_utf8_string.result) (sym k.is)
    (c.put_utf8_string.ensures a.ranges.now)

pub returns-in-Real : goal.returns-in-Real
returns-in-Real c =
    let a = c.args in
    let k = c.in-Real in
    let p = piece_in a.ranges.now a.source.now a.part.now in
    subst
    (λ (n : Node). IsPut (LeftAt (IsLeftOut a.source.now n a.part.now p) a.node c.put_kept-in-Real.new.state) (leaf_in a.ranges.now a.numbers.now a.node a.tags.now n) p a.octets.now a.state.now
    c.put_kept-in-Real.new.octets c.put_kept-in-Real.new.state c.put_kept-in-Real.result) (sym k.is)
    (c.put_kept-in-Real.ensures a.ranges.now)

pub returns-in-IntegerBetween : goal.returns-in-IntegerBetween
returns-in-IntegerBetween c =
    let a = c.args in
    let k = c.in-IntegerBetween in
    let p = piece_in a.ranges.now a.source.now a.part.now in
    subst
    (λ (n : Node). IsPut (LeftAt (IsLeftOut a.source.now n a.part.now p) a.node c.put_integer_between.new.state) (leaf_in a.ranges.now a.numbers.now a.node a.tags.now n) p a.octets.now a.state.now
    c.put_integer_between.new.octets c.put_integer_between.new.state c.put_integer_between.result) (sym k.is)
    (c.put_integer_between.ensures a.ranges.now)

pub returns-in-IntegerAtLeast : goal.returns-in-IntegerAtLeast
returns-in-IntegerAtLeast c =
    let a = c.args in
    let k = c.in-IntegerAtLeast in
    let p = piece_in a.ranges.now a.source.now a.part.now in
    subst
    (λ (n : Node). IsPut (LeftAt (IsLeftOut a.source.now n a.part.now p) a.node c.put_integer_at_least.new.state) (leaf_in a.ranges.now a.numbers.now a.node a.tags.now n) p a.octets.now a.state.now
    c.put_integer_at_least.new.octets c.put_integer_at_least.new.state c.put_integer_at_least.result) (sym k.is)
    (c.put_integer_at_least.ensures a.ranges.now)

pub returns-in-Integer : goal.returns-in-Integer
returns-in-Integer c =
    let a = c.args in
    let k = c.in-Integer in
    let p = piece_in a.ranges.now a.source.now a.part.now in
    subst
    (λ (n : Node). IsPut (LeftAt (IsLeftOut a.source.now n a.part.now p) a.node c.put_integer.new.state) (leaf_in a.ranges.now a.numbers.now a.node a.tags.now n) p a.octets.now a.state.now
    c.put_integer.new.octets c.put_integer.new.state c.put_integer.result) (sym k.is)
    (c.put_integer.ensures a.ranges.now)

pub returns-in-Enumerated : goal.returns-in-Enumerated
returns-in-Enumerated c =
    let a = c.args in
    let k = c.in-Enumerated in
    let p = piece_in a.ranges.now a.source.now a.part.now in
    let r = c.put_enumerated in
    subst
    (λ (n : Node). IsPut (LeftAt (IsLeftOut a.source.now n a.part.now p) a.node r.new.state) (leaf_in a.ranges.now a.numbers.now a.node a.tags.now n) p a.octets.now a.state.now
    r.new.octets r.new.state r.result) (sym k.is)
    (none_left (LeftAt (IsLeftOut a.source.now (type.Enumerated k.last k.is_extensible k.additions) a.part.now p) a.node r.new.state) (leaf_in a.ranges.now a.numbers.now a.node a.tags.now (type.Enumerated k.last k.is_extensible k.additions)) p a.octets.now a.state.now
    r.new.octets r.new.state r.result (r.ensures a.ranges.now))

pub returns-in-BitString : goal.returns-in-BitString
returns-in-BitString c =
    let a = c.args in
    let k = c.in-BitString in
    let p = piece_in a.ranges.now a.source.now a.part.now in
    let r = c.put_bit_string in
    subst
    (λ (n : Node). IsPut (LeftAt (IsLeftOut a.source.now n a.part.now p) a.node r.new.state) (leaf_in a.ranges.now a.numbers.now a.node a.tags.now n) p a.octets.now a.state.now
    r.new.octets r.new.state r.result) (sym k.is)
    (r.ensures a.ranges.now)

pub returns-in-Text : goal.returns-in-Text
returns-in-Text c =
    let a = c.args in
    let k = c.in-Text in
    let p = piece_in a.ranges.now a.source.now a.part.now in
    let r = c.put_text in
    subst
    (λ (n : Node). IsPut (LeftAt (IsLeftOut a.source.now n a.part.now p) a.node r.new.state) (leaf_in a.ranges.now a.numbers.now a.node a.tags.now n) p a.octets.now a.state.now
    r.new.octets r.new.state r.result) (sym k.is)
    (none_left (LeftAt (IsLeftOut a.source.now (type.Text k.length k.is_extensible k.alphabet k.whole) a.part.now p) a.node r.new.state) (leaf_in a.ranges.now a.numbers.now a.node a.tags.now (type.Text k.length k.is_extensible k.alphabet k.whole)) p a.octets.now a.state.now
    r.new.octets r.new.state r.result r.ensures)

pub returns-in-Time : goal.returns-in-Time
returns-in-Time c =
    let a = c.args in
    let k = c.in-Time in
    let p = piece_in a.ranges.now a.source.now a.part.now in
    let r = c.put_time in
    subst
    (λ (n : Node). IsPut (LeftAt (IsLeftOut a.source.now n a.part.now p) a.node r.new.state) (leaf_in a.ranges.now a.numbers.now a.node a.tags.now n) p a.octets.now a.state.now
    r.new.octets r.new.state r.result) (sym k.is)
    (none_left (LeftAt (IsLeftOut a.source.now (type.Time k.kind) a.part.now p) a.node r.new.state) (leaf_in a.ranges.now a.numbers.now a.node a.tags.now (type.Time k.kind)) p a.octets.now a.state.now
    r.new.octets r.new.state r.result r.ensures)
