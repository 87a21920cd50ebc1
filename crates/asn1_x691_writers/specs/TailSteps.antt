-- What follows of octets at the end that were written on their own, from an index in the first of them on.
use Rattle.std.proofs.Common.{◌≡◌, ℕ, ◌+◌, ◌*◌, ◌^◌, ◌<◌, ◌≤◌, List, ◌++◌, Bool, length, take, sym, ap, ◌∙◌, subst, inl, inr, arith, append_assoc}
use Rattle.std.specs.Prelude.{◌⊎◌}
use Rattle.std.proofs.Math.Seq.{take-append-add}
use Rattle.std.proofs.lemmas.List.{length-append}
use Rattle.asn1_bits.specs.Bits.{bits}
use Rattle.asn1_bits.specs.Laws.DigitLaws.{length-bits, bits-append}
use Rattle.asn1_x691_writers.specs.Written.{IsIndex, Holds, IsGrown}
use Rattle.asn1_x691_writers.specs.GrownSteps.{index_is}

-- `skip` octets are before the last ones, or there are fewer than `skip`
module _ (front was now : List ℕ) (skip at old end new : ℕ) (more : List Bool) (few : 8 * length (front ++ was) < 2 ^ 64)
    (same : length now ≡ length was) (start : old ≡ 8 * skip + at) (g : IsGrown was at now end more)
    (index : (n : ℕ) → IsIndex old n → IsIndex new (n + length more)) where
  abbrev size : (xs ys : List ℕ) → length (xs ++ ys) ≡ length xs + length ys
  size xs ys = length-append xs ys

  module _ (list : List Bool) (h : Holds (front ++ was) old list) (le : length (list ++ more) ≤ 8 * length (front ++ now)) where
    abbrev whole : List ℕ
    whole = front ++ was

    fits : length list ≤ 8 * length whole
    fits = omega (arith, le, same, size front was, size front now, length-append list more)

    exact : old ≡ length list
    exact = index_is old (length list) (length whole) h.index fits few

    module _ (is : length front ≡ skip) where
      abbrev n : ℕ
      n = length (bits front)

      n_is : n ≡ 8 * skip
      n_is = length-bits front ∙ ap (λ (k : ℕ). 8 * k) is

      total : length list ≡ n + at
      total = omega (arith, exact, start, n_is)

      -- the bits of the list in the front, and in the octets after it
      parts : bits front ++ take at (bits was) ≡ list
      parts =
          sym (take-append-add (bits front) (bits was) at)
          ∙ ap (λ (l : List Bool). take (n + at) l) (sym (bits-append front was))
          ∙ ap (λ (k : ℕ). take k (bits whole)) (sym total)
          ∙ h.kept fits

      last : List Bool
      last = take at (bits was)

      last_size : length last ≡ at
      unfolding last
      last_size = omega (arith, total, ap length parts, length-append (bits front) (take at (bits was)))

      held : Holds was at last
      unfolding last
      held = record {
        index = inl (sym last_size);
        kept = λ q. ap (λ (k : ℕ). take k (bits was)) last_size;
      }

      inside_kept : take (length (list ++ more)) (bits (front ++ now)) ≡ list ++ more
      unfolding last
      inside_kept =
          let e : length (list ++ more) ≡ n + length (last ++ more) =
          omega (arith, total, last_size, length-append list more, length-append last more) in
          let q : length (last ++ more) ≤ 8 * length now = omega (arith, le, e, n_is, is, size front now) in
          ap (λ (k : ℕ). take k (bits (front ++ now))) e
          ∙ ap (λ (l : List Bool). take (n + length (last ++ more)) l) (bits-append front now)
          ∙ take-append-add (bits front) (bits now) (length (last ++ more))
          ∙ ap (λ (l : List Bool). bits front ++ l) ((g.held last held).kept q)
          ∙ sym (append_assoc (bits front) last more)
          ∙ ap (λ (l : List Bool). l ++ more) parts

    kept_by : (length front ≡ skip) ⊎ (length whole < skip) → take (length (list ++ more)) (bits (front ++ now)) ≡ list ++ more
    kept_by (inl is) = inside_kept is
    kept_by (inr short) = absurd (omega (arith, short, fits, exact, start))

  pub tail_grown : (length front ≡ skip) ⊎ (length (front ++ was) < skip) → IsGrown (front ++ was) old (front ++ now) new more
  tail_grown c = record {
    held = λ list h. record {
      index =
          let e : length list + length more ≡ length (list ++ more) = sym (length-append list more) in
          let P : ℕ → Type 0 = λ k. IsIndex new k in
          subst P e (index (length list) h.index);
      kept = λ le. kept_by list h le c;
    };
    index = index;
  }
