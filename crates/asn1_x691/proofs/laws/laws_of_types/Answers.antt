use Rattle.std.proofs.Common.{true, false, [], ◌∷◌, refl}
use Rattle.asn1_schema.specs.Pieces.{Absent, Truth}
use Rattle.asn1_x691.specs.Example.{example_bits}
use Rattle.asn1_x691.specs.Laws.TypeLaws.{type_at_type}
use Rattle.asn1_x691.specs.Laws.TypePhaseLaws.{type_at_follows}
use Rattle.asn1_x691.specs.Laws.TypeLimitLaws.{type_at_narrow}
use Rattle.asn1_x691.specs.Laws.ValueLaws.{value_at}
use Rattle.asn1_x691.proofs.laws.laws_of_types.Goals as goal

pub returns-clause-decodes_one : goal.returns-clause-decodes_one
returns-clause-decodes_one c limits aligned nodes members ranges defaults depth place at = ((type_at_type limits aligned nodes members ranges defaults depth place).good at).decodes.one

pub returns-clause-fault : goal.returns-clause-fault
returns-clause-fault c limits aligned nodes members ranges defaults depth place at = ((type_at_type limits aligned nodes members ranges defaults depth place).good at).decodes.names

pub returns-clause-encodes : goal.returns-clause-encodes
returns-clause-encodes c limits aligned nodes members ranges defaults depth place at = ((type_at_type limits aligned nodes members ranges defaults depth place).good at).encodes

pub returns-clause-misfit : goal.returns-clause-misfit
returns-clause-misfit c limits aligned nodes members ranges defaults depth place at = ((type_at_type limits aligned nodes members ranges defaults depth place).good at).names

pub returns-clause-positions : goal.returns-clause-positions
returns-clause-positions c limits aligned nodes members ranges defaults depth place p q =
    (type_at_follows limits aligned nodes members ranges defaults depth place).same p q

pub returns-clause-limits : goal.returns-clause-limits
returns-clause-limits c limits within aligned nodes members ranges defaults depth place at =
    type_at_narrow limits within aligned nodes members ranges defaults depth place at

pub returns-clause-is : goal.returns-clause-is
returns-clause-is c = record {
  value = tt;
  after = Absent ∷ Truth true ∷ [];
  front = [];
  rest = example_bits;
  first = (refl, refl);
  second = record {
    value = false ∷ [];
    after = Absent ∷ Truth true ∷ [];
    front = false ∷ [];
    rest = true ∷ [];
    first = (refl, refl);
    second = record {
      value = Absent ∷ [];
      after = Truth true ∷ [];
      front = [];
      rest = true ∷ [];
      first = (refl, refl);
      second = record {
        value = Truth true ∷ [];
        after = [];
        front = true ∷ [];
        rest = [];
        first = record {
          value = true;
          after = [];
          front = true ∷ [];
          rest = [];
          first = record {
            value = true ∷ [];
            after = true;
            front = true ∷ [];
            rest = [];
            first = (refl, refl);
            second = (refl, refl);
            is = refl;
            parts = refl;
          };
          second = (refl, refl);
          is = refl;
          parts = refl;
        };
        second = (refl, refl);
        is = refl;
        parts = refl;
      };
      is = refl;
      parts = refl;
    };
    is = refl;
    parts = refl;
  };
  is = refl;
  parts = refl;
}

pub returns-clause-value : goal.returns-clause-value
returns-clause-value c limits aligned nodes members ranges defaults depth place = value_at limits aligned nodes members ranges defaults depth place
