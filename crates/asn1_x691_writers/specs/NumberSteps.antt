-- What follows of numbers that were written.
use Rattle.std.proofs.Common.{◌≡◌, ◌≢◌, ℕ, ◌<◌, ◌≤◌, List, Bool, true, false, refl}
use Rattle.asn1_schema.specs.Encodings.{anywhere, in_case}
use Rattle.asn1_x691.specs.Fields.{on_octet, width_to, in_bits, indefinite, constrained}
use Rattle.asn1_x691_writers.specs.Written.{IsWritten}
use Rattle.asn1_x691_writers.specs.FieldSteps.{first_written, second_written}

pub constrained_in_bits : (range node n : ℕ) (was now : List ℕ) (old new : ℕ) (aligned : Bool) → (aligned ≡ true → range < 255)
    → IsWritten aligned (anywhere (in_bits (width_to range) range node)) n was old now new
    → IsWritten aligned (constrained aligned range node) n was old now new
constrained_in_bits range node n was now old new false few a = a
constrained_in_bits range node n was now old new true few a =
    first_written true (range < 255) (255 ≤ range) (anywhere (in_bits (width_to range) range node))
    (in_case (range ≡ 255) (on_octet true node (in_bits 8 range node)) (range ≢ 255)
    (in_case (range < 65536) (on_octet true node (in_bits 16 range node)) (65536 ≤ range) (indefinite range node)))
    n was now old new (few refl) a

pub constrained_on_octet : (range node n : ℕ) (was now : List ℕ) (old new : ℕ) (aligned : Bool) → aligned ≡ true → 255 ≤ range
    → IsWritten true (in_case (range ≡ 255) (on_octet true node (in_bits 8 range node)) (range ≢ 255)
    (in_case (range < 65536) (on_octet true node (in_bits 16 range node)) (65536 ≤ range) (indefinite range node))) n was old now new
    → IsWritten aligned (constrained aligned range node) n was old now new
constrained_on_octet range node n was now old new false e many a = absurd cc
constrained_on_octet range node n was now old new true e many a =
    second_written true (range < 255) (255 ≤ range) (anywhere (in_bits (width_to range) range node))
    (in_case (range ≡ 255) (on_octet true node (in_bits 8 range node)) (range ≢ 255)
    (in_case (range < 65536) (on_octet true node (in_bits 16 range node)) (65536 ≤ range) (indefinite range node)))
    n was now old new many a
