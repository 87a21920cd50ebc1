-- The bits of fragments that are within the source.
use Rattle.std.proofs.Common.{◌≡◌, ℕ, suc, ◌+◌, ◌*◌, ◌-◌, ◌/◌, ◌%◌, ◌^◌, ◌<◌, ◌≤◌, List, ◌++◌, Bool, length, take, drop, sym, ap, ◌∙◌, subst, arith, append_assoc}
use Rattle.std.proofs.Math.Nat.{div-lt_iff_lt-mul, mod-lt, mul-le-mul_left}
use Rattle.std.proofs.lemmas.List.{take-take}
use Rattle.asn1_bits.specs.Bits.{number, digits}
use Rattle.asn1_bits.specs.Laws.NumberLaws.{number_of-digits}
use Rattle.asn1_schema.specs.declared.part.Fragments.{Fragments}
use Rattle.asn1_schema.specs.declared.part.Span.{Span}
use Rattle.asn1_schema.specs.PiecesOfParts.{bits_at, bits_of, joined, whole_fragments}
use Rattle.asn1_x691_writers.specs.GrownSteps.{grown_both}
use Rattle.asn1_schema.specs.Encodings.{Encoding}
use Rattle.asn1_x691.specs.declared.fault.FaultKind.{FaultKind}
use Rattle.asn1_x691_writers.specs.Joined.{bits_in}
use Rattle.asn1_x691_writers.specs.JoinedSteps.{whole_list}
use Rattle.asn1_x691_writers.specs.StringSteps.{bits_apart}
use Rattle.asn1_x691_writers.specs.Written.{IsGrown, IsWritten}
use Rattle.asn1_x691_fields.specs.JoinedSteps.{and_octet, past_end, fragments_apart, one_more}

module _ (unit : ℕ) (list : List Bool) (f : Fragments) (middle last : Span) (m : bits_of list middle ≡ bits_of list f.middle)
    (l : bits_of list last ≡ bits_of list f.last) where
  abbrev After : List Bool
  After = bits_of list middle ++ bits_of list last

  after : After ≡ bits_of list f.middle ++ bits_of list f.last
  after = ap (λ (x : List Bool). x ++ bits_of list last) m ∙ ap (λ (x : List Bool). bits_of list f.middle ++ x) l

  pub same_whole : bits_in list (record { unit = unit; at = f.at; whole = f.whole; part = record { at = 0; count = 0 }; middle = middle; last = last })
      ≡ joined unit list f
  same_whole = ap (λ (x : List Bool). whole_fragments unit list f.at f.whole ++ x) after

  pub same_after : length list ≤ f.at
      → bits_in list (record { unit = unit; at = 0; whole = 0; part = record { at = 0; count = 0 }; middle = middle; last = last }) ≡ joined unit list f
  unfolding whole_fragments
  same_after h = after ∙ ap (λ (x : List Bool). x ++ (bits_of list f.middle ++ bits_of list f.last)) (sym (past_end unit list f.at f.whole h))

  pub same_part : (k : ℕ) (part : Span) → k < f.whole → length list ≤ f.at + and_octet unit * k + and_octet unit
      → bits_of list part ≡ bits_at list (f.at + and_octet unit * k) (unit * 65536)
      → bits_in list (record { unit = unit; at = f.at; whole = k; part = part; middle = middle; last = last }) ≡ joined unit list f
  same_part k part some h e =
      let next = f.at + and_octet unit * k in
      let rest = f.whole - k in
      let A = bits_of list f.middle ++ bits_of list f.last in
      let all : k + rest ≡ f.whole = omega (arith, some) in
      ap (λ (x : List Bool). whole_fragments unit list f.at k ++ (bits_of list part ++ x)) after
      ∙ sym (append_assoc (whole_fragments unit list f.at k) (bits_of list part) A)
      ∙ ap (λ (x : List Bool). x ++ A)
      (ap (λ (x : List Bool). whole_fragments unit list f.at k ++ x) (e ∙ sym (one_more unit list next rest (omega (arith, some)) h))
      ∙ sym (fragments_apart unit list f.at k rest) ∙ ap (λ (n : ℕ). whole_fragments unit list f.at n) all)

-- ---- runs

-- the fragment that has a bit
module _ (unit whole from : ℕ) (some : 0 < unit) (h : from < unit * 65536 * whole) where
  pub index_below : from / (unit * 65536) < whole
  index_below = (div-lt_iff_lt-mul {k = unit * 65536} {x = from} {y = whole} (omega (arith, some))).1 (omega (arith, h))

  pub bit_below : from % (unit * 65536) < unit * 65536
  bit_below = mod-lt from {m = unit * 65536} (omega (arith, some))

  pub up_to : (unit * 65536 + 8) * (from / (unit * 65536)) + unit * 65536 + 8 ≤ (unit * 65536 + 8) * whole
  up_to =
      let lt : suc (from / (unit * 65536)) ≤ whole = omega (arith, index_below) in
      let le = mul-le-mul_left (unit * 65536 + 8) lt in
      omega (arith, le)

pub same_run : (list all : List Bool) (run : Span) (at count from : ℕ) → run.at ≡ at → run.count ≡ count
    → bits_at list at count ≡ bits_at all from count → bits_of list run ≡ bits_at all from run.count
same_run list all run at count from e f same =
    ap (λ (k : ℕ). bits_at list k run.count) e ∙ ap (bits_at list at) f ∙ same ∙ ap (bits_at all from) (sym f)

shorter : (xs ys : List Bool) (a b n m : ℕ) → m ≤ n → bits_at xs a n ≡ bits_at ys b n → bits_at xs a m ≡ bits_at ys b m
shorter xs ys a b n m h e = sym (take-take m n (drop a xs) h) ∙ ap (take m) e ∙ take-take m n (drop b ys) h

pub run_grown : (list all : List Bool) (was mid now : List ℕ) (old at new from first done some whole : ℕ) (run : Span)
    → IsGrown was old mid at (bits_at all from done) → first ≡ from + done → some ≤ run.count → done + some ≡ whole
    → bits_of list run ≡ bits_at all first run.count → IsGrown mid at now new (bits_at list run.at some)
    → IsGrown was old now new (bits_at all from whole)
run_grown list all was mid now old at new from first done some whole run g e h size same k =
    let part = shorter list all run.at first run.count some h same ∙ ap (λ (n : ℕ). bits_at all n some) e in
    subst (λ (l : List Bool). IsGrown was old now new l) (sym (bits_apart all from done some) ∙ ap (bits_at all from) size)
    (subst (λ (l : List Bool). IsGrown was old now new (bits_at all from done ++ l)) part
    (grown_both was mid now old at new (bits_at all from done) (bits_at list run.at some) g k))

-- the first bit of a run
first_of_run : (list all : List Bool) (run : Span) (from : ℕ) → 0 < run.count → bits_of list run ≡ bits_at all from run.count
    → bits_at list run.at 1 ≡ bits_at all from 1
first_of_run list all run from some same = shorter list all run.at from run.count 1 (omega (arith, some)) same

-- the last of `count` bits, where a run begins with it
pub last_in_run : (list all : List Bool) (run : Span) (count n : ℕ) → 0 < run.count → bits_of list run ≡ bits_at all (count - 1) run.count
    → digits n 1 ≡ bits_at list run.at 1 → n < 2 ^ 1 → n ≡ number (bits_at all (0 + count - 1) 1)
last_in_run list all run count n some same is below =
    let e : count - 1 ≡ 0 + count - 1 = omega arith in
    sym (number_of-digits n 1 below) ∙ ap number (is ∙ first_of_run list all run (count - 1) some same) ∙ ap (λ (k : ℕ). number (bits_at all k 1)) e

-- all units that were written, by the number of bits of a unit
pub all_units : (A : ℕ → ℕ → Encoding FaultKind (List Bool)) (aligned : Bool) (list : List Bool) (unit size count : ℕ) (was now : List ℕ)
    (old new : ℕ) → unit ≡ size → size * count ≡ length list → IsWritten aligned (A unit) (bits_at list 0 (unit * count)) was old now new
    → IsWritten aligned (A size) list was old now new
all_units A aligned list unit size count was now old new e all w =
    subst (λ (l : List Bool). IsWritten aligned (A size) l was old now new) (whole_list list (size * count) all)
    (subst (λ (u : ℕ). IsWritten aligned (A u) (bits_at list 0 (u * count)) was old now new) e w)
