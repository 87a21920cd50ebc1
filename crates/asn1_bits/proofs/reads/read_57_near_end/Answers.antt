use Rattle.std.proofs.Common.{ℕ, List, ◌*◌, take, drop, ap, ◌∙◌}
use Rattle.std.proofs.lemmas.List.{drop-drop}
use Rattle.asn1_bits.specs.Bits.{bits, number}
use Rattle.asn1_bits.specs.Laws.DigitLaws.{bits-drop}
use Rattle.asn1_bits.proofs.reads.read_57_near_end.Goals as goal

pub returns : goal.returns
returns c =
    let all = bits c.args.octets.now in
    c.read_octets.ensures
    ∙ ap (λ (l : List ℕ). number (take c.args.width (drop c.args.shift (bits l)))) c.from_octet.ensures
    ∙ ap (λ l. number (take c.args.width (drop c.args.shift l))) (bits-drop c.args.first c.args.octets.now)
    ∙ ap (λ l. number (take c.args.width l)) (drop-drop c.args.shift (8 * c.args.first) all)
