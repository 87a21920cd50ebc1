-- What follows of identifier octets and lengths that were written.
use Rattle.std.proofs.Common.{◌≡◌, ◌≢◌, ℕ, zero, suc, ◌+◌, ◌-◌, ◌*◌, ◌/◌, ◌%◌, ◌^◌, ◌<◌, ◌≤◌, ◌⊎◌, inl, inr, List, [], ◌∷◌, ◌++◌, Bool, length, take, drop, refl, sym, ◌∙◌, ap, subst, arith}
use Rattle.std.proofs.lemmas.List.{length-append, append-nil, length-drop, length-take-le, drop_at, drop-take}
use Rattle.std.proofs.lemmas.List.Edits.{take-paste}
use Rattle.std.proofs.lemmas.Nat.{pow-add, div-mul-add}
use Rattle.std.proofs.Math.Nat.{mul-le-mul_left}
use Rattle.std.proofs.Math.Seq.{take-append-add, paste}
use Rattle.asn1_bits.specs.Bits.{bits, digits, is_odd, overwritten}
use Rattle.asn1_bits.specs.Laws.DigitLaws.{length-digits, length-bits, bits-take, bits-drop}
use Rattle.asn1_bits.specs.Laws.NumberLaws.{digits-append, digits-low}
use Rattle.asn1_oid.specs.Contents.{IsSeries as AreSeries}
use Rattle.asn1_oid.specs.Writing.{HasDigits, last_octets}
use Rattle.asn1_oid.specs.Laws.WritingLaws.{last_octets_are, last_octet, octet_before, next_power}
use Rattle.asn1_schema.specs.Encodings.{IsNumber}
use Rattle.asn1_x690.specs.declared.tables.Identifier.{Identifier}
use Rattle.asn1_x690.specs.Elements.{class_of, identifier_of, identifier, length_octets, long_length as long_length_in}
use Rattle.asn1_x690.specs.Series.{IsSeries}
use Rattle.asn1_x690_writers.specs.Written.{HaveBits, IsLengthBefore}

-- ---- the number of a tag

-- seven digits in each octet
pub seven : (k : ℕ) → 2 ^ (7 * k) ≡ 128 ^ k
seven zero = refl
seven (suc k) =
    let e : 7 * suc k ≡ 7 * k + 7 = omega arith in
    let ih : 2 ^ (7 * k) ≡ 128 ^ k = seven k in
    let p : 2 ^ (7 * k + 7) ≡ 2 ^ (7 * k) * 2 ^ 7 = pow-add 2 (7 * k) 7 in
    let q : 128 ^ suc k ≡ 128 * 128 ^ k = next_power k in
    ap (λ (j : ℕ). 2 ^ j) e ∙ (omega arith)

pub has_digits : (n k : ℕ) → 0 < k → n < 2 ^ (7 * k) → 2 ^ (7 * (k - 1)) ≤ n → HasDigits n k
has_digits n k some holds least =
    let a = seven k in
    let b = seven (k - 1) in
    record { some = omega arith; enough = omega arith; fewest = λ more. omega arith }

pub first_left : (n left k more : ℕ) → left ≡ k + 1 → ((k ≡ 0) × (more ≡ 0)) ⊎ ((k ≢ 0) × (more ≡ 128))
    → last_octets n left ≡ (more + n / 2 ^ (7 * k) % 128) ∷ last_octets n k
unfolding last_octets
first_left n left zero more e (inl p) =
    let octet : n % 128 ≡ more + n / 2 ^ (7 * 0) % 128 = let none = p.1 in omega arith in
    ap (λ (j : ℕ). last_octets n j) e ∙ last_octet n ∙ ap (λ (o : ℕ). o ∷ []) octet
first_left n left zero more e (inr p) = absurd (p.0 refl)
first_left n left (suc k) more e (inl p) = absurd (let some = p.0 in omega arith)
first_left n left (suc k) more e (inr p) =
    let same : left ≡ suc (suc k) = omega arith in
    ap (λ (j : ℕ). last_octets n j) same ∙ octet_before n k
    ∙ ap (λ (o : ℕ). (128 + n / o % 128) ∷ last_octets n (suc k)) (sym (seven (suc k)))
    ∙ ap (λ (o : ℕ). (o + n / 2 ^ (7 * suc k) % 128) ∷ last_octets n (suc k)) (sym p.1)

-- a subidentifier is a series of octets
series_of : (octets : List ℕ) → AreSeries octets → IsSeries (IsNumber 8) (λ octet. 128 ≤ octet) (λ octet. octet < 128) octets (bits octets)
unfolding bits
series_of [] s = s
series_of (octet ∷ octets) (inl p) =
    let e : bits (octet ∷ octets) ≡ digits octet 8 = ap (λ (l : List ℕ). digits octet 8 ++ bits l) p.1 ∙ append-nil (digits octet 8) in
    inl (p.0, (omega (arith, p.0), e), p.1)
series_of (octet ∷ octets) (inr p) = inr (p.0, (digits octet 8, bits octets, (p.1, refl), series_of octets p.2, refl))

module _ (id : Identifier) (first : ℕ) (below : first < 256) (class : class_of (first / 64) ≡ id.tag.class)
    (form : is_odd (first / 32) ≡ id.is_constructed) where
  is_first : id ≡ identifier_of first id.tag.number
  is_first =
      ap (λ (x : _). record { tag = record { class = x; number = id.tag.number }; is_constructed = id.is_constructed }) (sym class)
      ∙ ap (λ (x : _). record { tag = record { class = class_of (first / 64); number = id.tag.number }; is_constructed = x }) (sym form)

  pub short_encodes : first % 32 ≡ id.tag.number → id.tag.number < 31 → (node : ℕ) → (identifier node).encodes id (digits first 8)
  short_encodes low few node = record {
    value = first;
    after = id.tag.number;
    front = digits first 8;
    rest = [];
    first = (below, refl);
    second = inl (omega (arith, low, few), (sym low, refl));
    is = is_first;
    parts = sym (append-nil (digits first 8));
  }

  pub long_encodes : first % 32 ≡ 31 → 31 ≤ id.tag.number → (k : ℕ) → HasDigits id.tag.number k → (node : ℕ)
      → (identifier node).encodes id (digits first 8 ++ bits (last_octets id.tag.number k))
  long_encodes low many k h node =
      let octets = last_octets id.tag.number k in
      let s = last_octets_are id.tag.number k h in
      record {
        value = first;
        after = id.tag.number;
        front = digits first 8;
        rest = bits octets;
        first = (below, refl);
        second = inr (
          low,
          record {
            value = octets;
            after = id.tag.number;
            front = bits octets;
            rest = [];
            first = series_of octets s.series;
            second = inl ((s.fewest, subst (λ (n : ℕ). 31 ≤ n) (sym s.value) many), (sym s.value, refl));
            is = refl;
            parts = sym (append-nil (bits octets));
          },
        );
        is = is_first;
        parts = refl;
      }

pub digits_whole : (n k : ℕ) → length (bits (last_octets n k)) % 8 ≡ 0
digits_whole n k = omega (arith, length-bits (last_octets n k))

-- ---- contents that were moved

-- octets were copied from one index to another
pub moved : (old new : List ℕ) (from to count : ℕ) → from + count ≤ length old → to + count ≤ length old
    → new ≡ paste old to (drop from old) (from + count - from)
    → take (8 * count) (drop (8 * to) (bits new)) ≡ take (8 * count) (drop (8 * from) (bits old))
moved old new from to count here there is =
    let many : from + count - from ≡ count = omega arith in
    let front : length (take to old) ≡ to = length-take-le to old (omega (arith, there)) in
    let left : count ≤ length (drop from old) = omega (arith, here, length-drop from old) in
    let first : take (to + count) new ≡ take to old ++ take count (drop from old) =
    ap (λ (l : List ℕ). take (to + count) l) (is ∙ ap (λ (k : ℕ). paste old to (drop from old) k) many)
    ∙ take-paste old to (drop from old) count (omega (arith, there)) left in
    let same : take count (drop to new) ≡ take count (drop from old) =
    sym (drop-take to count new)
    ∙ ap (λ (l : List ℕ). drop to l) first
    ∙ drop_at (take to old) (take count (drop from old)) to front in
    ap (λ (l : List Bool). take (8 * count) l) (sym (bits-drop to new))
    ∙ sym (bits-take count (drop to new))
    ∙ ap bits same
    ∙ bits-take count (drop from old)
    ∙ ap (λ (l : List Bool). take (8 * count) l) (bits-drop from old)

-- ---- lengths

pub shifted_few : (more power : ℕ) → power ≤ 2 ^ 64 → more ≤ 8 → (128 + more) * power < 2 ^ 128
shifted_few more power few least =
    let a : (128 + more) * power ≤ (128 + more) * 2 ^ 64 = mul-le-mul_left (128 + more) few in
    let b : (128 + more) * 2 ^ 64 ≤ 136 * 2 ^ 64 = omega (arith, least) in
    omega (arith, a, b)

pub short_length : (n : ℕ) → n < 128 → (node : ℕ) → (length_octets node).encodes n (digits n 8)
short_length n few node = record {
  value = n;
  after = n;
  front = digits n 8;
  rest = [];
  first = (omega (arith, few), refl);
  second = inl (few, (refl, refl));
  is = refl;
  parts = sym (append-nil (digits n 8));
}

pub long_length : (n more value : ℕ) → 128 ≤ n → 0 < more → more ≤ 8 → n < 2 ^ (8 * more) → 2 ^ (8 * (more - 1)) ≤ n
    → value ≡ (128 + more) * 2 ^ (8 * more) + n → (node : ℕ) → (length_octets node).encodes n (digits value (8 + 8 * more))
long_length n more value high some few holds least e node =
    let P = 2 ^ (8 * more) in
    let first : value / P ≡ 128 + more = ap (λ (k : ℕ). k / P) e ∙ div-mul-add (128 + more) P n holds in
    let rest : digits value (8 * more) ≡ digits n (8 * more) =
    ap (λ (k : ℕ). digits k (8 * more)) e ∙ digits-low (128 + more) n (8 * more) in
    let c : 128 + more - 128 ≡ more = omega arith in
    record {
      value = 128 + more;
      after = n;
      front = digits (128 + more) 8;
      rest = digits n (8 * more);
      first = (omega (arith, few), refl);
      second = inr (
        omega (arith, some),
        inr (
          (λ h. omega (arith, h, some)),
          inr (
            (λ h. omega (arith, h, few)),
            subst (λ (k : ℕ). (long_length_in node k).encodes n (digits n (8 * more))) (sym c)
                (record {
                  value = n;
                  after = n;
                  front = digits n (8 * more);
                  rest = [];
                  first = (holds, refl);
                  second = inl ((high, least), (refl, refl));
                  is = refl;
                  parts = sym (append-nil (digits n (8 * more)));
                }),
          ),
        ),
      );
      is = refl;
      parts = digits-append value 8 (8 * more)
          ∙ ap (λ (k : ℕ). digits k 8 ++ digits value (8 * more)) first
          ∙ ap (λ (l : List Bool). digits (128 + more) 8 ++ l) rest;
    }

-- ---- a length before contents

pub length_written : (contents : List Bool) (count value width reserved : ℕ) (old mid now : List ℕ)
    → ((node : ℕ) → (length_octets node).encodes count (digits value width)) → length contents ≡ 8 * count → 8 * (width / 8) ≡ width
    → reserved + count ≤ length old → HaveBits old (8 * reserved) contents
    → take (8 * count) (drop (8 * (width / 8)) (bits mid)) ≡ take (8 * count) (drop (8 * reserved) (bits old))
    → bits now ≡ overwritten (bits mid) 0 (digits value width) → IsLengthBefore contents count now width
unfolding overwritten
length_written contents count value width reserved old mid now encodes size whole room have moved over =
    let list = digits value width in
    let w : length list ≡ width = length-digits value width in
    let rest = drop (0 + length list) (bits mid) in
    let is : bits now ≡ list ++ rest = over in
    let e : 8 * (width / 8) ≡ 0 + length list = omega (arith, whole, w) in
    let there : take (length contents) rest ≡ contents =
    ap (λ (k : ℕ). take k rest) size
    ∙ ap (λ (k : ℕ). take (8 * count) (drop k (bits mid))) (sym e)
    ∙ moved
    ∙ ap (λ (k : ℕ). take k (drop (8 * reserved) (bits old))) (sym size)
    ∙ have (omega (arith, size, room)) in
    record {
      list = list;
      encodes = encodes;
      size = w;
      have = λ le.
          ap (λ (k : ℕ). take k (bits now)) (length-append list contents)
          ∙ ap (λ (l : List Bool). take (length list + length contents) l) is
          ∙ take-append-add list rest (length contents)
          ∙ ap (λ (l : List Bool). list ++ l) there;
    }

pub length_short : (contents : List Bool) (count value width : ℕ) (old : List ℕ)
    → ((node : ℕ) → (length_octets node).encodes count (digits value width)) → length contents ≡ 8 * count
    → 8 * length old < width + 8 * count → IsLengthBefore contents count old width
length_short contents count value width old encodes size short = record {
  list = digits value width;
  encodes = encodes;
  size = length-digits value width;
  have = λ le. absurd (omega (arith, le, size, short, length-append (digits value width) contents, length-digits value width));
}
