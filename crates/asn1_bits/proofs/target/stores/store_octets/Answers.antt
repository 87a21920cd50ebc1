use Rattle.std.proofs.Common.{ℕ, List, ◌++◌, take, drop, ap, ◌∙◌}
use Rattle.std.proofs.lemmas.List.{drop-drop}
use Rattle.asn1_bits.proofs.target.stores.store_octets.Goals as goal

pub returns-in-Some : goal.returns-in-Some
returns-in-Some c =
    let first = c.args.first in
    let back = c.split_at_mut-room.result.1.now in
    ap (λ (l : List ℕ). l ++ (c.args.octets ++ back)) c.split_at_mut-rest.ensures.front
    ∙ ap (λ (l : List ℕ). take first c.args.dst.now ++ (c.args.octets ++ l))
    (c.split_at_mut-room.ensures.back ∙ ap (drop 8) c.split_at_mut-rest.ensures.back ∙ drop-drop 8 first c.args.dst.now)
