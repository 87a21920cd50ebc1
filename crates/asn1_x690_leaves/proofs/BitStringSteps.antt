-- The contents octets of a BIT STRING.
use Rattle.std.proofs.Common.{◌≡◌, ℕ, ◌+◌, ◌-◌, ◌^◌, ◌<◌, ◌≤◌, Bool, List, ◌++◌, length, take, drop, sym, ◌∙◌, ap, arith}
use Rattle.std.proofs.lemmas.List.{length-take-le, length-drop, length-append, drop-drop}
use Rattle.std.proofs.lemmas.Nat.{pow_pos}
use Rattle.std.proofs.Math.Seq.{take-add}
use Rattle.asn1_bits.specs.Bits.{number, digits}
use Rattle.asn1_bits.specs.Laws.DigitLaws.{length-digits}
use Rattle.asn1_bits.specs.Laws.NumberLaws.{number_of-digits, digits_of-number}
use Rattle.asn1_schema.specs.declared.part.Span.{Span}
use Rattle.asn1_schema.specs.PiecesOfParts.{bits_at, bits_of}
use Rattle.asn1_schema.specs.Laws.EncodingLaws.{same_fronts}
use Rattle.asn1_x690.specs.Leaves.{IsBitString}
use Rattle.asn1_x690_leaves.specs.Told.{AreOctetsOf}
use Rattle.asn1_x690_leaves.proofs.SpanSteps.{span_size}

module _ (list : List Bool) (s : Span) (h : AreOctetsOf list s) where
  abbrev l : List Bool
  l = drop s.at list

  abbrev contents : List Bool
  contents = bits_of list s

  -- how many bits are unused
  abbrev u : ℕ
  u = number (take 8 l)

  long : s.count ≤ length l
  long = let i = h.inside in omega (arith, i, length-drop s.at list)

  pub string_size : (x : List Bool) (p : IsBitString x contents) → s.count ≡ 8 + length x + p.unused
  string_size x p =
      let a = length-digits p.unused 8 in
      let b = length-digits 0 p.unused in
      let e : length contents ≡ length (digits p.unused 8) + length (x ++ digits 0 p.unused) =
      ap length p.are ∙ length-append (digits p.unused 8) (x ++ digits 0 p.unused) in
      let f = length-append x (digits 0 p.unused) in
      let g = span_size list s h in
      omega (arith, a, b, e, f, g)

  module _ (some : 8 ≤ s.count) where
    first_and_others : contents ≡ take 8 l ++ take (s.count - 8) (drop 8 l)
    first_and_others =
        let e : s.count ≡ 8 + (s.count - 8) = omega (arith, some) in
        ap (λ (n : ℕ). take n l) e ∙ take-add 8 (s.count - 8) l

    eight : length (take 8 l) ≡ 8
    eight = length-take-le 8 l (let n = long in omega (arith, n, some))

    by_parts : (x : List Bool) (p : IsBitString x contents) → (take 8 l ≡ digits p.unused 8) × (take (s.count - 8) (drop 8 l) ≡ x ++ digits 0 p.unused)
    by_parts x p =
        same_fronts (take 8 l) (digits p.unused 8) (take (s.count - 8) (drop 8 l)) (x ++ digits 0 p.unused)
        (sym first_and_others ∙ p.are) (eight ∙ sym (length-digits p.unused 8))

    pub unused_is : (x : List Bool) (p : IsBitString x contents) → u ≡ p.unused
    unused_is x p =
        let few : p.unused < 2 ^ 8 = (let f = p.few in omega (arith, f)) in
        ap number (by_parts x p).0 ∙ number_of-digits p.unused 8 few

    module _ (enough : 8 + u ≤ s.count) where
      abbrev m : ℕ
      m = s.count - 8 - u

      abbrev tail : List Bool
      tail = take u (drop (s.at + 8 + m) list)

      later : (k : ℕ) → drop k l ≡ drop (s.at + k) list
      later k = drop-drop k s.at list

      bits_and_tail : take (s.count - 8) (drop 8 l) ≡ bits_at list (s.at + 8) m ++ tail
      bits_and_tail =
          let e : s.count - 8 ≡ m + u = omega (arith, enough) in
          ap (λ (n : ℕ). take n (drop 8 l)) e
          ∙ take-add m u (drop 8 l)
          ∙ ap (λ (k : List Bool). take m k ++ take u (drop m (drop 8 l))) (later 8)
          ∙ ap (λ (k : List Bool). bits_at list (s.at + 8) m ++ take u (drop m k)) (later 8)
          ∙ ap (λ (k : List Bool). bits_at list (s.at + 8) m ++ take u k) (drop-drop m (s.at + 8) list)

      tail_size : length tail ≡ u
      tail_size =
          let i = h.inside in
          length-take-le u (drop (s.at + 8 + m) list) (omega (arith, i, enough, length-drop (s.at + 8 + m) list))

      pub are_bits : u < 8 → number tail ≡ 0 → IsBitString (bits_at list (s.at + 8) m) contents
      are_bits few zeros =
          let i = h.inside in
          let w = h.whole in
          let size : length (bits_at list (s.at + 8) m) ≡ m =
          length-take-le m (drop (s.at + 8) list) (omega (arith, i, enough, length-drop (s.at + 8) list)) in
          record {
            unused = u;
            few = few;
            whole = omega (arith, size, w, enough);
            are = first_and_others
                ∙ ap (λ (k : List Bool). k ++ take (s.count - 8) (drop 8 l)) (sym (digits_of-number (take 8 l) 8 eight))
                ∙ ap (λ (k : List Bool). digits u 8 ++ k) bits_and_tail
                ∙ ap (λ (k : List Bool). digits u 8 ++ (bits_at list (s.at + 8) m ++ k))
                (sym (digits_of-number tail u tail_size) ∙ ap (λ (n : ℕ). digits n u) zeros);
          }

      pub zeros_are : (x : List Bool) (p : IsBitString x contents) → number tail ≡ 0
      zeros_are x p =
          let same = unused_is x p in
          let size = string_size x p in
          let i = h.inside in
          let front : length (bits_at list (s.at + 8) m) ≡ length x =
          length-take-le m (drop (s.at + 8) list) (omega (arith, i, enough, length-drop (s.at + 8) list)) ∙ omega (arith, size, same) in
          let f = same_fronts (bits_at list (s.at + 8) m) x tail (digits 0 p.unused) (sym bits_and_tail ∙ (by_parts x p).1) front in
          ap number f.1 ∙ number_of-digits 0 p.unused (pow_pos p.unused)
