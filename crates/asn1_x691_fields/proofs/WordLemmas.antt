-- Numbers of one width, one after another: those of a list of bits, and those of a word.
use Rattle.std.proofs.Common.{◌≡◌, ℕ, zero, suc, ◌+◌, ◌-◌, ◌*◌, ◌/◌, ◌^◌, ◌<◌, ◌≤◌, List, ◌∷◌, ◌++◌, Bool, length, take, drop, refl, sym, ◌∙◌, ap, subst, arith}
use Rattle.std.specs.List.{AllByRecursion}
use Rattle.std.proofs.lemmas.List.{take-append-le, drop-append-le, drop-drop, take_all, drop-take, length-take-le, length-drop}
use Rattle.std.proofs.Math.Seq.{take-add}
use Rattle.std.proofs.Math.ListN.{drop_of_length-le}
use Rattle.std.proofs.Math.Nat.{div-mul-le_self}
use Rattle.std.proofs.Math.Pow.{shr_lt}
use Rattle.asn1_bits.specs.Bits.{number, digits}
use Rattle.asn1_bits.specs.Laws.DigitLaws.{length-digits}
use Rattle.asn1_bits.specs.Laws.NumberLaws.{digits-append, digits-low, digits_of-number, number_of-digits}
use Rattle.asn1_schema.specs.CharactersOfParts.{numbers_in}

-- the numbers of the bits before it alone
pub front_numbers : (width count : ℕ) (list : List Bool) → width * count ≤ length list
    → numbers_in width count (take (width * count) list) ≡ numbers_in width count list
front_numbers width zero list h = refl
front_numbers width (suc count) list h =
    let e : width * suc count ≡ width + width * count = omega arith in
    let few : width ≤ length (take width list) = omega (arith, length-take-le width list (omega (arith, h, e))) in
    let first : take width (take (width + width * count) list) ≡ take width list =
    ap (λ (l : List Bool). take width l) (take-add width (width * count) list)
    ∙ take-append-le width (take width list) (take (width * count) (drop width list)) few
    ∙ take_all width (take width list) (omega (arith, length-take-le width list (omega (arith, h, e)))) in
    let others : numbers_in width count (drop width (take (width + width * count) list)) ≡ numbers_in width count (drop width list) =
    ap (λ (l : List Bool). numbers_in width count l) (drop-take width (width * count) list)
    ∙ front_numbers width count (drop width list) (omega (arith, h, e, length-drop width list)) in
    ap (λ (n : ℕ). numbers_in width (suc count) (take n list)) e
    ∙ ap (λ (l : List Bool). number l ∷ numbers_in width count (drop width (take (width + width * count) list))) first
    ∙ ap (λ (ns : List ℕ). number (take width list) ∷ ns) others

-- the numbers of a word are those from an index on
pub word_is : (width some at word : ℕ) (list : List Bool) → at + width * some ≤ length list
    → word ≡ number (take (width * some) (drop at list))
    → numbers_in width some (digits word (width * some)) ≡ numbers_in width some (drop at list)
word_is width some at word list h e =
    let size : width * some ≤ length (drop at list) = omega (arith, h, length-drop at list) in
    ap (λ (n : ℕ). numbers_in width some (digits n (width * some))) e
    ∙ ap (λ (l : List Bool). numbers_in width some l)
    (digits_of-number (take (width * some) (drop at list)) (width * some) (length-take-le (width * some) (drop at list) size))
    ∙ front_numbers width some (drop at list) size

module _ (P : ℕ → Type 0) (width : ℕ) where
  -- what holds of the first numbers and of those after them holds of all
  pub all_numbers : (first more : ℕ) (list : List Bool) → AllByRecursion P (numbers_in width first list)
      → AllByRecursion P (numbers_in width more (drop (width * first) list)) → AllByRecursion P (numbers_in width (first + more) list)
  all_numbers zero more list p q =
      let none : width * 0 ≡ 0 = omega arith in
      let same : 0 + more ≡ more = omega arith in
      subst (λ (n : ℕ). AllByRecursion P (numbers_in width n list)) (sym same)
      (subst (λ (n : ℕ). AllByRecursion P (numbers_in width more (drop n list))) none q)
  all_numbers (suc first) more list p q =
      let e : width * suc first ≡ width + width * first = omega arith in
      let n : suc first + more ≡ suc (first + more) = omega arith in
      let at : drop (width * suc first) list ≡ drop (width * first) (drop width list) =
      ap (λ (k : ℕ). drop k list) e ∙ sym (drop-drop (width * first) width list) in
      subst (λ (k : ℕ). AllByRecursion P (numbers_in width k list)) (sym n) (
        p.0,
        all_numbers first more (drop width list) p.1
            (subst (λ (l : List Bool). AllByRecursion P (numbers_in width more l)) at q),
      )

  -- what holds of all holds of the first, and of those after them
  pub first_numbers : (first more : ℕ) (list : List Bool) → AllByRecursion P (numbers_in width (first + more) list)
      → AllByRecursion P (numbers_in width first list) × AllByRecursion P (numbers_in width more (drop (width * first) list))
  first_numbers zero more list p =
      let none : width * 0 ≡ 0 = omega arith in
      let same : 0 + more ≡ more = omega arith in (
        tt,
        subst (λ (n : ℕ). AllByRecursion P (numbers_in width more (drop n list))) (sym none)
            (subst (λ (n : ℕ). AllByRecursion P (numbers_in width n list)) same p),
      )
  first_numbers (suc first) more list p =
      let e : width * suc first ≡ width + width * first = omega arith in
      let n : suc first + more ≡ suc (first + more) = omega arith in
      let at : drop (width * suc first) list ≡ drop (width * first) (drop width list) =
      ap (λ (k : ℕ). drop k list) e ∙ sym (drop-drop (width * first) width list) in
      let h = subst (λ (k : ℕ). AllByRecursion P (numbers_in width k list)) n p in
      let rest = first_numbers first more (drop width list) h.1 in
      ((h.0, rest.0), subst (λ (l : List Bool). AllByRecursion P (numbers_in width more l)) (sym at) rest.1)

-- the first number of a word is its upper part, and the others are those of the lower part
pub word_numbers : (width more n : ℕ) → n < 2 ^ (width * suc more)
    → numbers_in width (suc more) (digits n (width * suc more))
    ≡ n / 2 ^ (width * more) ∷ numbers_in width more (digits (n - n / 2 ^ (width * more) * 2 ^ (width * more)) (width * more))
word_numbers width more n below =
    let k = width * more in
    let q = n / 2 ^ k in
    let e : width * suc more ≡ width + k = omega arith in
    let small : q < 2 ^ width = shr_lt width k (subst (λ (j : ℕ). n < 2 ^ j) e below) in
    let parts : digits n (width + k) ≡ digits q width ++ digits n k = digits-append n width k in
    let size : length (digits q width) ≡ width = length-digits q width in
    let front : take width (digits q width ++ digits n k) ≡ digits q width =
    take-append-le width (digits q width) (digits n k) (omega (arith, size)) ∙ take_all width (digits q width) (omega (arith, size)) in
    let back : drop width (digits q width ++ digits n k) ≡ digits n k =
    drop-append-le width (digits q width) (digits n k) (omega (arith, size))
    ∙ ap (λ (l : List Bool). l ++ digits n k) (drop_of_length-le (digits q width) (omega (arith, size))) in
    let whole : q * 2 ^ k + (n - q * 2 ^ k) ≡ n = omega (arith, div-mul-le_self n (2 ^ k)) in
    let low : digits n k ≡ digits (n - q * 2 ^ k) k =
    ap (λ (m : ℕ). digits m k) (sym whole) ∙ digits-low q (n - q * 2 ^ k) k in
    ap (λ (j : ℕ). numbers_in width (suc more) (digits n j)) e
    ∙ ap (λ (l : List Bool). numbers_in width (suc more) l) parts
    ∙ ap (λ (l : List Bool). number l ∷ numbers_in width more (drop width (digits q width ++ digits n k))) front
    ∙ ap (λ (i : ℕ). i ∷ numbers_in width more (drop width (digits q width ++ digits n k))) (number_of-digits q width small)
    ∙ ap (λ (l : List Bool). q ∷ numbers_in width more l) (back ∙ low)
