use Rattle.std.specs.Prelude.{◌==◌, ◌||◌}
use Rattle.std.proofs.Common.{◌≡◌, ℕ, ◌≤◌, nat_lt, ◌<◌, ◌⊎◌, inl, inr, Bool, true, List, length, Err, ap, refl, ◌∙◌, arith}
use Rattle.std.proofs.lemmas.Bool.{le-ltb, lt-ltb, eq-eqb, ne_eqb}
use Rattle.asn1_bits.specs.BitReader.{bits_left}
use Rattle.asn1_bits.specs.Bits.{number}
use Rattle.asn1_values.specs.Fields.{OfCountedInteger}
use Rattle.asn1_values.specs.Steps.{past}
use Rattle.asn1_values.specs.Walk.{field_at, counted_at}
use Rattle.asn1_values.specs.Wrong.{NoLength, first_octet}
use Rattle.asn1_values.proofs.CharacterKind.{cut_twice}
use Rattle.asn1_values.proofs.bit_fields.counted_integer.take_count.Goals as goal

count_refused : (list : List Bool) (k : ℕ) → 8 ≤ length list → k ≡ first_octet list → (k == 0 || nat_lt 127 k) ≡ true
    → field_at OfCountedInteger list ≡ Err (NoLength k)
unfolding field_at counted_at
count_refused list k le is none = rw (le-ltb _ _ le, ← is, none) refl

no_count : (k : ℕ) → (k ≡ 0) ⊎ ((k ≡ 0 → ⊥) × 127 < k) → (k == 0 || nat_lt 127 k) ≡ true
no_count k (inl z) = rw (eq-eqb k 0 z) refl
no_count k (inr p) = rw (ne_eqb k 0 p.0, lt-ltb 127 k p.1) refl

pub returns : goal.returns
returns c =
    let cut = c.in_ok-take_few.ensures.taken in
    record {
      taken = record {
        enough = cut.enough;
        counted =
            c.first_u128-octet.ensures.number
            ∙ ap number (cut_twice 8 (bits_left c.args.reader.now) (bits_left c.in_ok-take_few.field-0) cut.list);
        is = (omega arith, omega arith);
        moved = cut.moved;
        rest = cut.rest;
      };
      err = tt;
    }

pub returns-then-octet-eq0 : goal.returns-then-octet-eq0
returns-then-octet-eq0 c =
    let cut = c.in_ok-take_few.ensures.taken in
    let k = c.first_u128-octet.result in
    record {
      taken = tt;
      err =
          ap (past c.args.field)
          (count_refused (bits_left c.args.reader.now) k cut.enough
          (c.first_u128-octet.ensures.number
          ∙ ap number (cut_twice 8 (bits_left c.args.reader.now) (bits_left c.in_ok-take_few.field-0) cut.list))
          (no_count k c.then-octet-eq0.either));
    }
