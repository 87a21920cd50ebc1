use Rattle.std.proofs.Common.{arith, inl}
use Rattle.asn1_schema.specs.Laws.CharacterLaws.{none_below}
use Rattle.asn1_x691_fields.proofs.alphabets.first_past.Goals as goal

pub loop-low-init : goal.loop-low-init
loop-low-init c =
    record {
      ordered = omega arith;
      few = c.end_of-high.ensures.most;
      below = let none = none_below c.args.ranges.now in omega (arith, none);
      past = inl c.end_of-high.ensures.value;
    }
