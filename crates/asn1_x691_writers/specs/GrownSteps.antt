-- What follows of bits that were written, or counted where the octets are too few.
use Rattle.std.proofs.Common.{◌≡◌, ℕ, ◌+◌, ◌*◌, ◌%◌, ◌^◌, ◌<◌, ◌≤◌, List, [], ◌++◌, Bool, length, take, sym, ap, ◌∙◌, subst, inl, inr, arith, append_assoc}
use Rattle.std.proofs.lemmas.List.{length-append, append-nil}
use Rattle.asn1_bits.specs.Bits.{bits}
use Rattle.asn1_x691_writers.specs.Written.{IsIndex, Holds, IsGrown}

pub index_least : (at n : ℕ) → IsIndex at n → at ≤ n
index_least at n (inl e) = omega (arith, e)
index_least at n (inr p) = p.1

-- within octets an index is exact
pub index_is : (at n k : ℕ) → IsIndex at n → n ≤ 8 * k → 8 * k < 2 ^ 64 → at ≡ n
index_is at n k (inl e) h b = e
index_is at n k (inr p) h b = omega (arith, p.0, p.1, p.2, h, b)

pub index_on : (at n more : ℕ) → IsIndex at n → IsIndex (at + more) (n + more)
index_on at n more (inl e) = inl (omega (arith, e))
index_on at n more (inr p) = inr (omega (arith, p.0), omega (arith, p.1), omega (arith, p.2))

-- an index counts bits
pub index_octet : (at n : ℕ) → IsIndex at n → at % 8 ≡ n % 8
index_octet at n (inl e) = ap (λ (k : ℕ). k % 8) e
index_octet at n (inr p) = p.2

pub size_at : (at : ℕ) (list more : List Bool) → IsIndex at (length list + length more) → IsIndex at (length (list ++ more))
size_at at list more h = subst (λ (n : ℕ). IsIndex at n) (sym (length-append list more)) h

-- too few octets
pub grown_short : (octets : List ℕ) (at new : ℕ) (more : List Bool) → 8 * length octets < at + length more
    → ((n : ℕ) → IsIndex at n → IsIndex new (n + length more)) → IsGrown octets at octets new more
grown_short octets at new more short f = record {
  held = λ list h. record {
    index = size_at new list more (f (length list) h.index);
    kept = λ le. absurd (omega (arith, short, le, length-append list more, index_least at (length list) h.index));
  };
  index = f;
}

-- enough
pub grown_stored : (was now : List ℕ) (at : ℕ) (more : List Bool) → 8 * length was < 2 ^ 64 → length now ≡ length was
    → take (at + length more) (bits now) ≡ take at (bits was) ++ more → IsGrown was at now (at + length more) more
grown_stored was now at more size same stored = record {
  held = λ list h. record {
    index = size_at (at + length more) list more (index_on at (length list) (length more) h.index);
    kept = λ le.
        let few : length list ≤ 8 * length was = omega (arith, le, same, length-append list more) in
        let exact : at ≡ length list = index_is at (length list) (length was) h.index few size in
        ap (λ (n : ℕ). take n (bits now)) (length-append list more ∙ ap (λ (n : ℕ). n + length more) (sym exact))
        ∙ stored
        ∙ ap (λ (n : ℕ). take n (bits was) ++ more) exact
        ∙ ap (λ (l : List Bool). l ++ more) (h.kept few);
  };
  index = λ n h. index_on at n (length more) h;
}

-- nothing
pub grown_none : (octets : List ℕ) (at : ℕ) → IsGrown octets at octets at []
grown_none octets at = record {
  held = λ list h. subst (λ (l : List Bool). Holds octets at l) (sym (append-nil list)) h;
  index = λ n h. subst (λ (k : ℕ). IsIndex at k) (omega arith) h;
}

-- one after another
pub grown_both : (was mid now : List ℕ) (old at new : ℕ) (xs ys : List Bool) → IsGrown was old mid at xs → IsGrown mid at now new ys
    → IsGrown was old now new (xs ++ ys)
grown_both was mid now old at new xs ys g k = record {
  held = λ list h. subst (λ (l : List Bool). Holds now new l) (append_assoc list xs ys) (k.held (list ++ xs) (g.held list h));
  index = λ n h.
      let e : n + length xs + length ys ≡ n + length (xs ++ ys) = omega (arith, length-append xs ys) in
      subst (λ (m : ℕ). IsIndex new m) e (k.index (n + length xs) (g.index n h));
}
