-- Law of whole octets: the contents of an element are whole octets.
use Rattle.std.proofs.Common.{◌≡◌, ℕ, ◌%◌, Bool, List, length, ap, arith}
use Rattle.asn1_x690.specs.declared.tables.Identifier.{Identifier}
use Rattle.asn1_x690.specs.Elements.{contents_after, any_element}

contents_size : (node : ℕ) (contents list : List Bool) → (contents_after node).encodes contents list → length contents % 8 ≡ 0
contents_size node contents list p =
    let e : length contents ≡ length p.after = ap length p.is in
    let f : length p.after ≡ length p.rest = ap length p.second.1 in
    let g = p.second.0 in
    omega (arith, e, f, g)

pub contents_are_whole : (node : ℕ) (v : Identifier × List Bool) (list : List Bool) → (any_element node).encodes v list
    → length v.1 % 8 ≡ 0
contents_are_whole node v list p =
    let e : length v.1 ≡ length p.after = ap (λ (w : Identifier × List Bool). length w.1) p.is in
    let q : length p.after % 8 ≡ 0 = contents_size node p.after p.rest p.second in
    omega (arith, e, q)
