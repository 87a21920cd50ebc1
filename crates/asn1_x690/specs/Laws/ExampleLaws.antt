-- The octets of the example encode its parts.
use Rattle.std.proofs.Common.{◌≡◌, ℕ, ◌*◌, ◌%◌, ◌<◌, inl, inr, Bool, true, List, [], ◌∷◌, ◌++◌, length, refl, sym, ap, arith}
use Rattle.std.proofs.lemmas.List.{append-nil}
use Rattle.asn1_bits.specs.Bits.{digits, bits}
use Rattle.asn1_schema.specs.Pieces.{Text, Truth}
use Rattle.asn1_x690.specs.Elements.{identifier_of, any_element}
use Rattle.asn1_x690.specs.Der.{encoding_at}
use Rattle.asn1_x690.specs.Example.{example_nodes, example_context, smith, example_parts, example_bits}

-- an element of a number below 31 and a length below 128
short_element : (node first count : ℕ) (contents : List Bool) → first < 256 → first % 32 < 31 → count < 128 → length contents ≡ 8 * count
    → (any_element node).encodes (identifier_of first (first % 32), contents) (digits first 8 ++ (digits count 8 ++ contents))
short_element node first count contents octet low few size = record {
  value = identifier_of first (first % 32);
  after = contents;
  front = digits first 8;
  rest = digits count 8 ++ contents;
  first = record {
    value = first;
    after = first % 32;
    front = digits first 8;
    rest = [];
    first = (omega (arith, octet), refl);
    second = inl (low, (refl, refl));
    is = refl;
    parts = sym (append-nil (digits first 8));
  };
  second = record {
    value = count;
    after = contents;
    front = digits count 8;
    rest = contents;
    first = record {
      value = count;
      after = count;
      front = digits count 8;
      rest = [];
      first = (omega (arith, few), refl);
      second = inl (few, (refl, refl));
      is = refl;
      parts = sym (append-nil (digits count 8));
    };
    second = (size, refl);
    is = refl;
    parts = refl;
  };
  is = refl;
  parts = refl;
}

abbrev name : List Bool
name = bits smith

abbrev inside : List Bool
inside = bits (0x16 ∷ 0x05 ∷ 0x53 ∷ 0x6D ∷ 0x69 ∷ 0x74 ∷ 0x68 ∷ 0x01 ∷ 0x01 ∷ 0xFF ∷ [])

some : (list : List Bool) (n : ℕ) → length list ≡ n → 0 < n → list ≡ [] → ⊥
some list n e p q = let z : length list ≡ 0 = ap length q in omega (arith, e, p, z)

pub example_is : (encoding_at example_nodes example_context 2 0).encoding.encodes example_parts example_bits
unfolding digits bits
example_is = (
  (identifier_of 0x30 16, inside),
  short_element 0 0x30 10 inside (omega arith) (omega arith) (omega arith) refl,
  inl (
    refl,
    (
      (tt, Text smith ∷ Truth true ∷ []),
      (
        inr (
          some inside 80 refl (omega arith),
          record {
            value = Text smith ∷ [];
            after = (tt, Truth true ∷ []);
            front = bits (0x16 ∷ 0x05 ∷ 0x53 ∷ 0x6D ∷ 0x69 ∷ 0x74 ∷ 0x68 ∷ []);
            rest = bits (0x01 ∷ 0x01 ∷ 0xFF ∷ []);
            first = (
              (identifier_of 0x16 22, name),
              short_element 1 0x16 5 name (omega arith) (omega arith) (omega arith) refl,
              inl (
                refl,
                (
                  smith,
                  (
                    (
                      bits (0x6D ∷ 0x69 ∷ 0x74 ∷ 0x68 ∷ []),
                      omega arith,
                      (
                        bits (0x69 ∷ 0x74 ∷ 0x68 ∷ []),
                        omega arith,
                        (
                          bits (0x74 ∷ 0x68 ∷ []),
                          omega arith,
                          (bits (0x68 ∷ []), omega arith, ([], omega arith, refl, refl), refl),
                          refl,
                        ),
                        refl,
                      ),
                      refl,
                    ),
                    (
                      (
                        inl (omega arith, omega arith),
                        (
                          inl (omega arith, omega arith),
                          (
                            inl (omega arith, omega arith),
                            (inl (omega arith, omega arith), (inl (omega arith, omega arith), tt)),
                          ),
                        ),
                      ),
                      omega arith,
                    ),
                  ),
                  refl,
                ),
              ),
            );
            second = inr (
              some (bits (0x01 ∷ 0x01 ∷ 0xFF ∷ [])) 24 refl (omega arith),
              record {
                value = Truth true ∷ [];
                after = (tt, []);
                front = bits (0x01 ∷ 0x01 ∷ 0xFF ∷ []);
                rest = [];
                first = (
                  (identifier_of 0x01 1, bits (0xFF ∷ [])),
                  short_element 2 0x01 1 (bits (0xFF ∷ [])) (omega arith) (omega arith) (omega arith) refl,
                  inl (refl, (true, (refl, tt), refl)),
                );
                second = (refl, refl);
                is = refl;
                parts = refl;
              },
            );
            is = refl;
            parts = refl;
          },
        ),
        tt,
      ),
      refl,
    ),
  ),
)
