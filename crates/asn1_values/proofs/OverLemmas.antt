-- Fields that are written over bits, one after another.
use Rattle.std.proofs.Common.{◌≡◌, ℕ, ◌+◌, ◌*◌, ◌≤◌, Bool, List, [], ◌∷◌, ◌++◌, length, refl, sym, ap, subst, ◌∙◌, append_assoc, arith}
use Rattle.std.specs.Prelude.{ℤ}
use Rattle.std.proofs.lemmas.List.{length-append}
use Rattle.asn1_bits.specs.Bits.{digits, bits, overwritten}
use Rattle.asn1_bits.specs.Laws.DigitLaws.{length-bits, bits-push}
use Rattle.asn1_bits.specs.Laws.OverwrittenLaws.{length-overwritten, overwritten-none, overwritten-append}
use Rattle.asn1_number.specs.Octets.{IsShortest}
use Rattle.asn1_values.specs.Fields.{Field, IsSpelledBy, AreSpelledBy, CountedInteger}
use Rattle.asn1_values.specs.Wrong.{Fits}
use Rattle.asn1_values.specs.Steps.{IsReached, EndWithin, WritesOver, Overwrites, OverwritesAll}
use Rattle.asn1_values.proofs.JoinedLemmas.{joins_push, joins_append, joins_split, Split}
use Rattle.asn1_values.specs.Laws.SpellingLaws.{same_shortest}

-- ---- lists

pub over_none : (place : ℕ) (old : List Bool) → WritesOver [] place old old place
over_none place old = record { written = sym (overwritten-none old place); end = omega arith }

pub over_more : (xs ys : List Bool) (place mid next : ℕ) (old now new : List Bool) → WritesOver xs place old now mid
    → WritesOver ys mid now new next
    → place ≤ length old → WritesOver (xs ++ ys) place old new next
over_more xs ys place mid next old now new one two h = record {
  written = two.written ∙ ap (λ (l : List Bool). overwritten l mid ys) one.written
      ∙ overwritten-append old place mid xs ys one.end h;
  end = omega (arith, one.end, two.end, length-append xs ys);
}

-- the number of octets is the same
pub over_same : (target now : List ℕ) (list : List Bool) (place next : ℕ)
    → WritesOver list place (bits target) (bits now) next
    → place + length list ≤ 8 * length target → length now ≡ length target
over_same target now list place next w h =
    let n = length-bits target in
    omega (
      arith,
      n,
      length-bits now,
      ap length w.written,
      length-overwritten (bits target) place list
          (omega (arith, n, h)),
    )

-- ---- one field

-- a field of n bits ends where they do
pub reached : (field : Field) (list : List Bool) (n limit place : ℕ) → IsSpelledBy field list → length list ≡ n
    → ((others : List Bool) → IsSpelledBy field others → IsReached limit (place + length others))
    → IsReached limit (place + n)
reached field list n limit place s len within = let r =
    within list s in (omega (arith, r.0, len), omega (arith, r.1, len))

pub counted_reached : (n : ℤ) (octets : List ℕ) (limit place : ℕ) → IsShortest n octets → Fits (CountedInteger n)
    → ((others : List Bool) → IsSpelledBy (CountedInteger n) others → IsReached limit (place + length others))
    → (length octets ≤ 127) × IsReached limit (place + (8 + 8 * length octets))
counted_reached n octets limit place shortest fits within =
    let same : length fits.1.0 ≡ length octets = ap length (same_shortest n fits.1.0 octets fits.1.1 shortest) in
    let le : length octets ≤ 127 = omega (arith, same, fits.1.2) in
    let list : List Bool = bits (length octets ∷ octets) in
    let len : length list ≡ 8 + 8 * length octets = omega (arith, length-bits (length octets ∷ octets)) in
    (le, reached (CountedInteger n) list (8 + 8 * length octets) limit place (octets, shortest, le, refl) len within)

pub counted_over : (n : ℤ) (octets : List ℕ) (place mid next : ℕ) (old now new : List Bool) → IsShortest n octets
    → length octets ≤ 127
    → WritesOver (digits (length octets) 8) place old now mid → WritesOver (bits octets) mid now new next
    → place ≤ length old
    → Overwrites (CountedInteger n) place old new next
unfolding bits
counted_over n octets place mid next old now new shortest le one two h = (
  bits (length octets ∷ octets),
  (octets, shortest, le, refl),
  over_more (digits (length octets) 8) (bits octets)
      place mid next old now new one two h,
)

-- ---- octets one by one

-- of all octets those before the rest were written
pub record OctetsOver (all rest target now : List ℕ) (place next : ℕ) : Type 0 where
  pub front : List ℕ
  pub parts : all ≡ front ++ rest
  pub over : WritesOver (bits front) place (bits target) (bits now) next

pub octets_none : (all target : List ℕ) (place : ℕ) → OctetsOver all all target target place place
unfolding bits
octets_none all target place = record { front = []; parts = refl; over = over_none place (bits target) }

-- one octet more is within, and the number of octets is the same
pub octets_within : (all rest more target now : List ℕ) (octet place next : ℕ)
    → OctetsOver all rest target now place next → rest ≡ octet ∷ more
    → IsReached (8 * length target) (place + 8 * length all) → IsReached (8 * length now) (next + 8)
octets_within all rest more target now octet place next o is r =
    let l : length all ≡ length o.front + length (octet ∷ more) =
    ap length (o.parts ∙ ap (λ (l : List ℕ). o.front ++ l) is) ∙ length-append o.front (octet ∷ more) in
    let n = length-bits o.front in
    let same = over_same target now (bits o.front) place next o.over (omega (arith, r.0, l, n)) in
    let end = o.over.end in
    (omega (arith, r.0, l, n, same, end), omega (arith, r.1, l, n, end))

pub octets_more : (all rest more target now new : List ℕ) (octet place mid next : ℕ)
    → OctetsOver all rest target now place mid → rest ≡ octet ∷ more
    → place ≤ 8 * length target → WritesOver (digits octet 8) mid (bits now) (bits new) next
    → OctetsOver all more target new place next
octets_more all rest more target now new octet place mid next o is h w = record {
  front = o.front ++ octet ∷ [];
  parts = o.parts ∙ ap (λ (l : List ℕ). o.front ++ l) is ∙ sym (append_assoc o.front (octet ∷ []) more);
  over =
      subst (λ (l : List Bool). WritesOver l place (bits target) (bits new) next) (sym (bits-push o.front octet))
      (over_more (bits o.front) (digits octet 8) place mid next (bits target) (bits now) (bits new) o.over w
      (omega (arith, h, length-bits target)));
}

-- ---- fields one after another

pub overwrites_none : (place : ℕ) (old : List Bool) → OverwritesAll [] place old old place
overwrites_none place old = ([], refl, over_none place old)

pub overwrites_more : (before : List Field) (field : Field) (place mid next : ℕ) (old now new : List Bool)
    → OverwritesAll before place old now mid
    → Overwrites field mid now new next → place ≤ length old → OverwritesAll (before ++ field ∷ []) place old new next
overwrites_more before field place mid next old now new w one h = (
  w.0 ++ one.0,
  joins_push IsSpelledBy before field w.0 one.0 w.1 one.1,
  over_more w.0 one.0 place mid next old now
      new w.2 one.2 h,
)

-- the next field ends within the target
pub reached_now : (fields before after : List Field) (field : Field) → fields ≡ before ++ field ∷ after
    → (target now : List ℕ) (place next : ℕ)
    → EndWithin (8 * length target) place fields → OverwritesAll before place (bits target) (bits now) next
    → (list : List Bool) → IsSpelledBy field list → IsReached (8 * length now) (next + length list)
reached_now fields before after field cut target now place next h w list l =
    let p : Split IsSpelledBy before (field ∷ after) h.list =
    joins_split IsSpelledBy before (field ∷ after) h.list
    (subst (λ (fs : List Field). AreSpelledBy fs h.list) cut h.spelled) in
    let rest : List Bool = p.of_back.1 in
    let all : List Bool = w.0 ++ (list ++ rest) in
    let whole : AreSpelledBy (before ++ field ∷ after) all =
    joins_append IsSpelledBy before (field ∷ after) w.0 (list ++ rest) w.1 (list, rest, l, p.of_back.3, refl) in
    let r = h.within all (subst (λ (fs : List Field). AreSpelledBy fs all) (sym cut) whole) in
    let n : length all ≡ length w.0 + (length list + length rest) =
    omega (arith, length-append w.0 (list ++ rest), length-append list rest) in
    let same = over_same target now w.0 place next w.2 (omega (arith, r.0, n)) in
    let end = w.2.end in
    (omega (arith, r.0, n, same, end), omega (arith, r.1, n, end))

-- they begin within the target
pub begins_within : (limit place : ℕ) (fields : List Field) → EndWithin limit place fields → place ≤ limit
begins_within limit place fields h = let r = h.within h.list h.spelled in omega (arith, r.0)
