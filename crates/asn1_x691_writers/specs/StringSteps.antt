-- What follows of units that were written, in fragments too.
use Rattle.std.proofs.Common.{◌≡◌, ℕ, suc, ◌+◌, ◌<◌, ◌≤◌, List, ◌++◌, Bool, length, take, drop, refl, ap, ◌∙◌, arith}
use Rattle.std.proofs.Math.Seq.{take-add}
use Rattle.std.proofs.lemmas.List.{drop-drop}
use Rattle.asn1_schema.specs.Encodings.{Encoding, constant, invalid, anywhere, in_case}
use Rattle.asn1_schema.specs.Fields.{raw_bits}
use Rattle.asn1_schema.specs.PiecesOfParts.{bits_at}
use Rattle.asn1_x691.specs.declared.fault.FaultKind.{FaultKind}
use Rattle.asn1_x691.specs.declared.fault.FaultKind.TheVariants.{Short, NotMinimal}
use Rattle.asn1_x691.specs.Fragments.{units_next, units, units_then, last_units, all_units}
use Rattle.asn1_x691_writers.specs.Written.{IsGrown, IsWritten}
use Rattle.asn1_x691_writers.specs.Units.{AreUnitsOf}
use Rattle.asn1_x691_writers.specs.FieldSteps.{turn_written, turn_constant, first_written, second_written}

-- bits as they are
pub raw_written : (aligned : Bool) (count node : ℕ) (list : List Bool) (was now : List ℕ) (old new : ℕ) → length list ≡ count
    → IsGrown was old now new list → IsWritten aligned (anywhere (raw_bits count Short node)) list was old now new
raw_written aligned count node list was now old new size g = record { list = list; encodes = λ at h. (size, refl); grown = g }

-- bits at an index are those of a first part and those after it
pub bits_apart : (list : List Bool) (at m n : ℕ) → bits_at list at (m + n) ≡ bits_at list at m ++ bits_at list (at + m) n
bits_apart list at m n =
    take-add m n (drop at list) ∙ ap (λ (l : List Bool). take m (drop at list) ++ take n l) (drop-drop m at list)

-- ---- units with their number

-- U says how n units are encoded, and J joins what two fragments hold
module _ {Y : Type 0} (U : ℕ → ℕ → Encoding FaultKind Y) (J : Y → Y → Y) (aligned : Bool) (node : ℕ) where
  abbrev Last : ℕ → ℕ → Encoding FaultKind (ℕ × Y)
  Last n = in_case (n < 16384) (units U J aligned node n) (16384 ≤ n) (anywhere (invalid NotMinimal node))

  abbrev More : ℕ → ℕ → ℕ → Encoding FaultKind (ℕ × Y)
  More more n = in_case (n < 16384) (units U J aligned node n) (16384 ≤ n)
      (in_case (n < 65536) (units_then U J aligned node n (last_units U J aligned node)) (65536 ≤ n)
      (units_then U J aligned node n (all_units U J aligned node more)))

  module _ (n : ℕ) (list : Y) (was now : List ℕ) (old new : ℕ) (a : AreUnitsOf U aligned node n list was old now new) where
    only_units : IsWritten aligned (units U J aligned node n) (n, list) a.between a.at now new
    only_units = turn_constant aligned a.between now a.at new (U n) (λ y u. (n, y)) (λ y. anywhere (constant (tt {0}))) list tt a.units (λ p. (refl, refl))

    pub few_last : n < 16384 → IsWritten aligned (last_units U J aligned node) (n, list) was old now new
    few_last few =
        turn_written aligned (units_next aligned node) (λ n v. v) Last n (n, list) was a.between now old a.at new a.count
        (first_written aligned (n < 16384) (16384 ≤ n) (units U J aligned node n) (anywhere (invalid NotMinimal node)) (n, list) a.between now
        a.at new few only_units)

    pub few_units : (more : ℕ) → n < 16384 → IsWritten aligned (all_units U J aligned node (suc more)) (n, list) was old now new
    few_units more few =
        turn_written aligned (units_next aligned node) (λ n v. v) (More more) n (n, list) was a.between now old a.at new a.count
        (first_written aligned (n < 16384) (16384 ≤ n) (units U J aligned node n)
        (in_case (n < 65536) (units_then U J aligned node n (last_units U J aligned node)) (65536 ≤ n)
        (units_then U J aligned node n (all_units U J aligned node more))) (n, list) a.between now a.at new few only_units)

  -- a fragment, and what follows it
  module _ (n : ℕ) (list : Y) (was mid now : List ℕ) (old at new : ℕ) (a : AreUnitsOf U aligned node n list was old mid at)
      (m : ℕ) (others : Y) (more : ℕ) where
    pub part_units : 16384 ≤ n → n < 65536 → IsWritten aligned (last_units U J aligned node) (m, others) mid at now new
        → IsWritten aligned (all_units U J aligned node (suc more)) (n + m, J list others) was old now new
    part_units many few b =
        turn_written aligned (units_next aligned node) (λ n v. v) (More more) n (n + m, J list others) was a.between now old a.at new a.count
        (second_written aligned (n < 16384) (16384 ≤ n) (units U J aligned node n)
        (in_case (n < 65536) (units_then U J aligned node n (last_units U J aligned node)) (65536 ≤ n)
        (units_then U J aligned node n (all_units U J aligned node more))) (n + m, J list others) a.between now a.at new many
        (first_written aligned (n < 65536) (65536 ≤ n) (units_then U J aligned node n (last_units U J aligned node))
        (units_then U J aligned node n (all_units U J aligned node more)) (n + m, J list others) a.between now a.at new few
        (turn_written aligned (U n) (λ y v. (n + v.0, J y v.1)) (λ y. last_units U J aligned node) list (m, others) a.between mid now a.at at new
        a.units b)))

    pub full_units : 65536 ≤ n → IsWritten aligned (all_units U J aligned node more) (m, others) mid at now new
        → IsWritten aligned (all_units U J aligned node (suc more)) (n + m, J list others) was old now new
    full_units many b =
        turn_written aligned (units_next aligned node) (λ n v. v) (More more) n (n + m, J list others) was a.between now old a.at new a.count
        (second_written aligned (n < 16384) (16384 ≤ n) (units U J aligned node n)
        (in_case (n < 65536) (units_then U J aligned node n (last_units U J aligned node)) (65536 ≤ n)
        (units_then U J aligned node n (all_units U J aligned node more))) (n + m, J list others) a.between now a.at new
        (omega (arith, many))
        (second_written aligned (n < 65536) (65536 ≤ n) (units_then U J aligned node n (last_units U J aligned node))
        (units_then U J aligned node n (all_units U J aligned node more)) (n + m, J list others) a.between now a.at new many
        (turn_written aligned (U n) (λ y v. (n + v.0, J y v.1)) (λ y. all_units U J aligned node more) list (m, others) a.between mid now a.at at
        new a.units b)))
