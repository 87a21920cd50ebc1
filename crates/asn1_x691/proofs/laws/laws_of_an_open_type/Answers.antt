use Rattle.std.proofs.Common.{inl, Bool, true, false, List, [], ◌∷◌, refl, lit<, lit≤}
use Rattle.asn1_bits.specs.Bits.{digits}
use Rattle.asn1_characters.specs.Widths.{ceil_log2, least_from}
use Rattle.asn1_schema.specs.Encodings.{IsNumber}
use Rattle.asn1_x691.specs.Fields.{width_to}
use Rattle.asn1_x691.specs.Fragments.{most_fragments, octets, string}
use Rattle.asn1_x691.specs.Example.{integer, octet_integer, opened_five}
use Rattle.asn1_x691.specs.Laws.ExampleLaws.{opened_good}
use Rattle.asn1_x691.proofs.laws.laws_of_an_open_type.Goals as goal

pub returns-clause-decodes_one : goal.returns-clause-decodes_one
returns-clause-decodes_one c aligned at = (opened_good aligned at).decodes.one

pub returns-clause-fault : goal.returns-clause-fault
returns-clause-fault c aligned at = (opened_good aligned at).decodes.names

pub returns-clause-encodes : goal.returns-clause-encodes
returns-clause-encodes c aligned at = (opened_good aligned at).encodes

pub returns-clause-misfit : goal.returns-clause-misfit
returns-clause-misfit c aligned at = (opened_good aligned at).names

-- the octet 05
abbrev five : List Bool
five = false ∷ false ∷ false ∷ false ∷ false ∷ true ∷ false ∷ true ∷ []

abbrev one : List Bool
one = false ∷ false ∷ false ∷ false ∷ false ∷ false ∷ false ∷ true ∷ []

is_one : IsNumber 8 1 one
unfolding digits
is_one = (lit< tt, refl)

is_five : IsNumber (width_to 255) 5 five
unfolding digits width_to ceil_log2 least_from
is_five = (lit< tt, refl)

number_five : (octet_integer false 0).encoding.encodes (integer 5 ∷ []) five
number_five = record {
  value = 5;
  after = [];
  front = five;
  rest = [];
  first = record {
    value = 5;
    after = 5;
    front = five;
    rest = [];
    first = is_five;
    second = inl (lit≤ tt, (refl, refl));
    is = refl;
    parts = refl;
  };
  second = (refl, refl);
  is = refl;
  parts = refl;
}

one_unit : (string most_fragments false 8 0 0).encodes (1, five) opened_five
unfolding most_fragments
one_unit = record {
  value = 1;
  after = (1, five);
  front = one;
  rest = five;
  first = record {
    value = 1;
    after = 1;
    front = one;
    rest = [];
    first = is_one;
    second = inl (lit< tt, (refl, refl));
    is = refl;
    parts = refl;
  };
  second = inl (
    lit< tt,
    record {
      value = five;
      after = tt;
      front = five;
      rest = [];
      first = (refl, refl);
      second = (refl, refl);
      is = refl;
      parts = refl;
    },
  );
  is = refl;
  parts = refl;
}

one_octet : (octets most_fragments false 0 0).encodes five opened_five
one_octet = record {
  value = (1, five);
  after = tt;
  front = opened_five;
  rest = [];
  first = one_unit;
  second = (refl, refl);
  is = refl;
  parts = refl;
}

pub returns-clause-is : goal.returns-clause-is
unfolding digits
returns-clause-is c = (
  (tt, five),
  record {
    value = five;
    after = tt;
    front = opened_five;
    rest = [];
    first = one_octet;
    second = (refl, refl);
    is = refl;
    parts = refl;
  },
  record {
    value = (integer 5 ∷ [], five);
    after = tt;
    front = five;
    rest = [];
    first = (number_five, refl);
    second = (refl, refl);
    is = refl;
    parts = refl;
  },
)
