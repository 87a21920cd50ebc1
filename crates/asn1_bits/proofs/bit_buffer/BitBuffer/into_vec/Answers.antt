use Rattle.std.proofs.Common.{◌≡◌, ℕ, Bool, List, length, take, ap, ◌∙◌}
use Rattle.asn1_bits.specs.Bits.{bits, octets_for, padded}
use Rattle.asn1_bits.proofs.BufferLemmas.{padded-bits_shown, length-filled}
use Rattle.asn1_bits.proofs.bit_buffer.BitBuffer.into_vec.Goals as goal

-- the octets that the list fills
front : (c : goal.After-known_octets)
    → c.truncate.new.self.items ≡ take (octets_for c.self.inside.len) c.self.inside.bytes.items
front c = c.truncate.ensures.items ∙ ap (λ (n : ℕ). take n c.self.inside.bytes.items) c.div_ceil.ensures

pub returns-clause-spelled : goal.returns-clause-spelled
returns-clause-spelled c =
    let b = c.self.inside in
    ap bits (front c) ∙ padded-bits_shown b.bytes.items b.len c.self.invariant ∙ ap padded c.self.view_is

pub returns-clause-count : goal.returns-clause-count
returns-clause-count c =
    let b = c.self.inside in
    c.truncate.new.self.ok.0
    ∙ ap (λ (l : List ℕ). length l) (front c) ∙ length-filled b.bytes.items b.len c.self.invariant
    ∙ ap (λ (l : List Bool). octets_for (length l)) c.self.view_is
