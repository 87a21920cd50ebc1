-- Which bits are octets after their number, of which there are fewer than 16,384 (X.691 11.9.3.6, 11.9.3.7, 17.8).
use Rattle.std.proofs.Common.{◌≡◌, ℕ, ◌*◌, ◌-◌, ◌<◌, List, [], ◌++◌, Bool, true, false, length, refl, sym, inl}
use Rattle.std.specs.Prelude.{nat_lt}
use Rattle.std.proofs.lemmas.Bool.{ltb-true, ltb-false}
use Rattle.std.proofs.lemmas.List.{append-nil}
use Rattle.asn1_x691.specs.Fragments.{most_fragments, string, octets, units_octets, fragment}
use Rattle.asn1_x691.specs.OpenTypes.{enclosing}
use Rattle.asn1_x691_writers.specs.Written.{IsAlike, start_of}
use Rattle.asn1_x691_writers.specs.Enclosed.{length_bits, length_bits_by}
use Rattle.asn1_x691_writers.specs.FieldSteps.{octet_encodes}
use Rattle.asn1_x691_writers.specs.LengthSteps.{one_octet_encodes, two_octets_encode}

number_encodes : (node n : ℕ) (b : Bool) → nat_lt n 128 ≡ b → n < 16384 → (units_octets node).encodes n (length_bits_by b n)
number_encodes node n true e few = one_octet_encodes node n (λ o. fragment node (o - 192)) (ltb-true n 128 e)
number_encodes node n false e few = two_octets_encode node n (λ o. fragment node (o - 192)) (ltb-false n 128 e) few

module _ (aligned : Bool) (node n old : ℕ) (contents : List Bool) (few : n < 16384) (size : length contents ≡ 8 * n) where
  -- the number after the zeros before it
  abbrev pub number_list : List Bool
  number_list = start_of aligned old ++ length_bits n

  string_encodes : (at : ℕ) → IsAlike aligned at old
      → (string most_fragments aligned 8 node at).encodes (n, contents) (number_list ++ contents)
  unfolding most_fragments
  string_encodes at h = record {
    value = n;
    after = (n, contents);
    front = number_list;
    rest = contents;
    first = octet_encodes node (units_octets node) n old (length_bits n) aligned (number_encodes node n (nat_lt n 128) refl few) at h;
    second = inl (
      few,
      record {
        value = contents;
        after = tt;
        front = contents;
        rest = [];
        first = (size, refl);
        second = (refl, refl);
        is = refl;
        parts = sym (append-nil contents);
      },
    );
    is = refl;
    parts = refl;
  }

  pub octets_encode : (at : ℕ) → IsAlike aligned at old → (octets most_fragments aligned node at).encodes contents (number_list ++ contents)
  octets_encode at h = record {
    value = (n, contents);
    after = tt;
    front = number_list ++ contents;
    rest = [];
    first = string_encodes at h;
    second = (refl, refl);
    is = refl;
    parts = sym (append-nil (number_list ++ contents));
  }

  pub enclosing_encodes : (at : ℕ) → IsAlike aligned at old
      → (enclosing most_fragments aligned node at).encodes (tt, contents) (number_list ++ contents)
  enclosing_encodes at h = record {
    value = contents;
    after = tt;
    front = number_list ++ contents;
    rest = [];
    first = octets_encode at h;
    second = (refl, refl);
    is = refl;
    parts = sym (append-nil (number_list ++ contents));
  }
