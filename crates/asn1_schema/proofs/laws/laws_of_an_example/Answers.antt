use Rattle.std.proofs.Common.{ℕ, true, false, [], ◌∷◌, refl, lit<}
use Rattle.asn1_bits.specs.Bits.{digits}
use Rattle.asn1_schema.specs.Pieces.{Absent}
use Rattle.asn1_schema.specs.Encodings.{IsNumber}
use Rattle.asn1_schema.specs.Example.{example_bits, integer, small_integer}
use Rattle.asn1_schema.specs.Laws.ExampleLaws.{example_good}
use Rattle.asn1_schema.proofs.laws.laws_of_an_example.Goals as goal

pub returns-clause-decodes_one : goal.returns-clause-decodes_one
returns-clause-decodes_one c at = (example_good at).decodes.one

pub returns-clause-fault : goal.returns-clause-fault
returns-clause-fault c at = (example_good at).decodes.names

pub returns-clause-encodes : goal.returns-clause-encodes
returns-clause-encodes c at = (example_good at).encodes

pub returns-clause-misfit : goal.returns-clause-misfit
returns-clause-misfit c at = (example_good at).names

-- three bits of 5
five : IsNumber 3 5 (true ∷ false ∷ true ∷ [])
unfolding digits
five = (lit< tt, refl)

last : (at : ℕ) → (small_integer at).encoding.encodes (integer 5 ∷ []) (true ∷ false ∷ true ∷ [])
last at = record {
  value = 5;
  after = [];
  front = true ∷ false ∷ true ∷ [];
  rest = [];
  first = five;
  second = (refl, refl);
  is = refl;
  parts = refl;
}

pub returns-clause-is : goal.returns-clause-is
returns-clause-is c = record {
  value = tt;
  after = Absent ∷ integer 5 ∷ [];
  front = [];
  rest = example_bits;
  first = (refl, refl);
  second = record {
    value = false ∷ [];
    after = Absent ∷ integer 5 ∷ [];
    front = false ∷ [];
    rest = true ∷ false ∷ true ∷ [];
    first = (refl, refl);
    second = record {
      value = Absent ∷ [];
      after = integer 5 ∷ [];
      front = [];
      rest = true ∷ false ∷ true ∷ [];
      first = (refl, refl);
      second = record {
        value = integer 5 ∷ [];
        after = [];
        front = true ∷ false ∷ true ∷ [];
        rest = [];
        first = last _;
        second = (refl, refl);
        is = refl;
        parts = refl;
      };
      is = refl;
      parts = refl;
    };
    is = refl;
    parts = refl;
  };
  is = refl;
  parts = refl;
}
