-- Laws of numbers one after another.
use Rattle.std.proofs.Common.{◌≡◌, ℕ, zero, suc, ◌+◌, ◌*◌, ◌<◌, Bool, List, length, take, drop, refl, sym, ◌∙◌, ap, arith}
use Rattle.std.specs.Prelude.{slice_index}
use Rattle.std.proofs.lemmas.List.{drop-drop}
use Rattle.asn1_bits.specs.Bits.{number}
use Rattle.asn1_schema.specs.CharactersOfParts.{numbers_in}

pub numbers_count : (width count : ℕ) (list : List Bool) → length (numbers_in width count list) ≡ count
numbers_count width zero list = refl
numbers_count width (suc count) list = omega (arith, numbers_count width count (drop width list))

-- the number of an index
pub number_of_index : (width count i : ℕ) (list : List Bool) → i < count
    → slice_index (numbers_in width count list) i ≡ number (take width (drop (width * i) list))
number_of_index width zero i list h = absurd (omega (arith, h))
number_of_index width (suc count) zero list h =
    let e : 0 ≡ width * 0 = omega arith in ap (λ (n : ℕ). number (take width (drop n list))) e
number_of_index width (suc count) (suc i) list h =
    let e : width + width * i ≡ width * suc i = omega arith in
    number_of_index width count i (drop width list) (omega (arith, h))
    ∙ ap (λ (l : List Bool). number (take width l)) (drop-drop (width * i) width list ∙ ap (λ (n : ℕ). drop n list) e)
