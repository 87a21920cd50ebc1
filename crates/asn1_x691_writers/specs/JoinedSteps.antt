-- What follows of units in fragments, of a part that may exceed the source.
use Rattle.std.proofs.Common.{◌≡◌, ℕ, ◌+◌, ◌*◌, ◌-◌, ◌^◌, ◌<◌, ◌≤◌, List, ◌++◌, Bool, length, arith}
use Rattle.std.proofs.lemmas.List.{length-append, take_all}
use Rattle.asn1_schema.specs.PiecesOfParts.{bits_at, bits_of, whole_fragments}
use Rattle.asn1_x691_fields.specs.JoinedSteps.{in_second, length_fragments}
use Rattle.asn1_x691_fields.specs.Steps.{front_length}
use Rattle.asn1_x691_writers.specs.declared.joined.Joined.{Joined}
use Rattle.asn1_x691_writers.specs.Joined.{bits_in, IsInside}

module _ (list : List Bool) where
  -- the number of bits
  pub length_in : (j : Joined) → IsInside list j
      → length (bits_in list j) ≡ j.unit * 65536 * j.whole + (j.part.count + j.middle.count + j.last.count)
  length_in j i =
      let whole = length_fragments j.unit list j.at j.whole i.whole in
      let part = front_length list j.part.at j.part.count i.part in
      let middle = front_length list j.middle.at j.middle.count i.middle in
      let last = front_length list j.last.at j.last.count i.last in
      let a = length-append (whole_fragments j.unit list j.at j.whole) (bits_of list j.part ++ (bits_of list j.middle ++ bits_of list j.last)) in
      let b = length-append (bits_of list j.part) (bits_of list j.middle ++ bits_of list j.last) in
      let c = length-append (bits_of list j.middle) (bits_of list j.last) in
      omega (arith, whole, part, middle, last, a, b, c)

  -- those after the fragments
  pub after_run : (j : Joined) (from n : ℕ) → IsInside list j → j.unit * 65536 * j.whole ≤ from
      → bits_at (bits_in list j) from n
      ≡ bits_at (bits_of list j.part ++ (bits_of list j.middle ++ bits_of list j.last)) (from - j.unit * 65536 * j.whole) n
  after_run j from n i h =
      in_second (whole_fragments j.unit list j.at j.whole) (bits_of list j.part ++ (bits_of list j.middle ++ bits_of list j.last)) from n
      (j.unit * 65536 * j.whole) (length_fragments j.unit list j.at j.whole i.whole) h

  pub few_in : (j : Joined) → IsInside list j → length list < 2 ^ 64 → length (bits_in list j) < 2 ^ 120
  few_in j i few = omega (arith, length_in j i, few, i.whole, i.part, i.middle, i.last)

pub whole_list : (list : List Bool) (n : ℕ) → n ≡ length list → bits_at list 0 n ≡ list
whole_list list n e = take_all n list (omega (arith, e))
