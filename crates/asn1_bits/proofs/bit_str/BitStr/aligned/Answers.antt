use Rattle.std.proofs.Common.{◌≡◌, ◌<◌, ◌/◌, ℕ, List, take, drop, sym, subst, ap, ◌∙◌, arith}
use Rattle.std.specs.Prelude.{All}
use Rattle.std.proofs.lemmas.List.Elements.{All-take, All-drop}
use Rattle.asn1_bits.specs.Bits.{bits}
use Rattle.asn1_bits.specs.BitStr.{view_of}
use Rattle.asn1_bits.specs.Laws.ViewLaws.{list_of-aligned}
use Rattle.asn1_bits.proofs.bit_str.BitStr.aligned.Goals as goal

-- where the octets lie
piece : (c : goal.After-octets-1)
    → c.split_at.result.0.now ≡ take (c.args.self.now.len / 8) (drop c.args.self.now.octet c.args.self.now.storage.now)
piece c = c.split_at.ensures.front ∙ ap (λ (l : List ℕ). take (c.args.self.now.len / 8) l) c.from_octet.ensures

pub returns-clause-bits : goal.returns-clause-bits
returns-clause-bits c =
    let b = c.args.self.now in
    ap bits (piece c) ∙ list_of-aligned (view_of b) b.octet (omega arith) (omega arith)

pub returns-clause-octets : goal.returns-clause-octets
returns-clause-octets c =
    let b = c.args.self.now in
    let P : List ℕ → Type 0 = λ l. All (λ o. o < 256) l in
    subst P (sym (piece c)) (All-take (λ o. o < 256) (b.len / 8) (drop b.octet b.storage.now)
    (All-drop (λ o. o < 256) b.octet b.storage.now b.octets))
